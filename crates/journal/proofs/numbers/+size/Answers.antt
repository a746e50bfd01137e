-- The groups of a number, counted. Assumes nothing.
use Rattle.std.proofs.Common.{inl, inr}
use native.Mathlib.Omega.{arith}
use mathlib.Core.Path.{sym}
use Rattle.journal.proofs.WriteLaws.{no_group, last_length, next_length}
use Rattle.journal.proofs.numbers.+size.Goals as goal

pub returns-then-n-lt-GROUP : goal.returns-then-n-lt-GROUP
returns-then-n-lt-GROUP t c =
    elim c.if-n-lt-GROUP.either [
      | inl p ↦ (no_group c.args.more c.args.n p, omega arith)
      | inr q ↦ (sym (last_length c.args.more c.args.n q.1), omega arith)
    ]

pub returns-else-n-lt-GROUP : goal.returns-else-n-lt-GROUP
returns-else-n-lt-GROUP t c =
    let one_more = next_length c.args.more c.args.n (omega arith) c.if-n-lt-GROUP.false.1 in
    (omega (arith, c.size.ensures.0, one_more), omega (arith, c.size.ensures.1))
