-- Digit by digit: a character that makes no number ends it with none. Assumes nothing.
use Rattle.std.proofs.Common.{Some, get_or, sym, ◌∙◌}
use native.Mathlib.Omega.{arith}
use borrow.Author.Tests.{eqb-true, eqb-false}
use Rattle.session.proofs.AskedLaws.{count_none, count_first, read_end, read_next, read_none, join_most}
use Rattle.session.proofs.asked.read_count.Goals as goal

pub returns-then-is_empty : goal.returns-then-is_empty
returns-then-is_empty c =
    count_none c.args.cs.now (eqb-true _ _ (sym c.is_empty.ensures ∙ c.if-is_empty.true))

pub loop-c-init : goal.loop-c-init
loop-c-init c = (omega arith, count_first c.args.cs.now (eqb-false _ _ (sym c.is_empty.ensures ∙ c.if-is_empty.false)))

pub returns-in_err-n : goal.returns-in_err-n
returns-in_err-n c =
    c.from_residual.ensures
    ∙ sym (c.loop-c.invariant.1 ∙ read_none _ _ _ _ c.loop-c-test.true c.join.ensures c.in_err-n.was)

pub loop-c-preserved : goal.loop-c-preserved
loop-c-preserved c = (
  join_most c.loop-c.n (get_or c.args.cs.now c.loop-c.c-index 0) c.in_ok-n.n (sym c.in_ok-n.was ∙ c.join.ensures),
  c.loop-c.invariant.1 ∙ read_next _ _ _ _ c.loop-c-test.true (sym c.in_ok-n.was ∙ c.join.ensures),
)

pub returns : goal.returns
returns c = sym (c.loop-c.invariant.1 ∙ read_end (Some c.loop-c.n) c.loop-c.c-index c.args.cs.now (omega arith))
