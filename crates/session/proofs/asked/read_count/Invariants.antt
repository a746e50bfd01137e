-- Digit by digit. The invariant: what is left to read, read on from the number so far, is the whole. Assumes nothing.
use Rattle.std.proofs.Common.{◌≤◌, ◌≡◌, drop, Some}
use Rattle.session.specs.Asked.{read_on, count_of}
use Rattle.session.proofs.asked.read_count.Given as goal

abbrev pub invariant-loop-c : goal.invariant-loop-c
invariant-loop-c l = (l.n ≤ 1000000) × (count_of l.cs ≡ read_on (Some l.n) (drop l.c-index l.cs))
