-- Byte by byte. The invariant: the bytes so far stand as they are printed. Assumes nothing.
use Rattle.std.proofs.Common.{◌≡◌, take}
use Rattle.block.specs.Block.{over}
use Rattle.session.specs.Session.{shown}
use Rattle.session.proofs.answer.show.Given as goal

abbrev pub invariant-loop-b : goal.invariant-loop-b
invariant-loop-b l = l.b-items ≡ over (shown (take l.b-index l.initial.b-items)) l.initial.b-items
