-- `read` meets its contract. The invariant: what is left to read, read on from the number so far, is the whole. Assumes
-- nothing.
use Rattle.std.proofs.Common.{Some}
use mathlib.Core.Path.{◌≡◌}
use lib.ListN.{drop}
use Rattle.numerals.specs.Numerals.{read_on}
use Rattle.numerals.proofs.read.Given as goal

abbrev pub invariant-loop-c : goal.invariant-loop-c
invariant-loop-c l = read_on l.base (Some 0) l.cs ≡ read_on l.base (Some l.n) (drop l.c-index l.cs)
