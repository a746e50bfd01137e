-- The invariant: as many blocks as turns stand over the front. Assumes nothing.
use Rattle.block.proofs.Loop.{Written}
use Rattle.block.proofs.write_twelve.Given as goal

abbrev pub invariant-loop-k : goal.invariant-loop-k
invariant-loop-k l = Written l.letters l.numbers l.switch l.ident l.initial.buf l.k l.at l.buf
