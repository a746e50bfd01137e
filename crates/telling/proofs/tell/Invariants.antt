-- Byte by byte: the desk has taken those so far. Assumes nothing.
use Rattle.std.proofs.Common.{◌≡◌, take}
use Rattle.telling.specs.Telling.{told}
use Rattle.telling.proofs.tell.Given as goal

abbrev pub invariant-loop-b : goal.invariant-loop-b
invariant-loop-b g l = l.desk ≡ told l.fn.desk (take l.b-index l.bytes)
