-- `read_six` meets its contract: the loop begins with no character read, and a character that is no digit ends it with no
-- number. Assumes nothing.
use Rattle.std.proofs.Common.{rules, sym, ◌∙◌, lit<}
use Rattle.digits.specs.Digits.{number_of}
use Rattle.digits.proofs.Laws.{read_ended}
use Rattle.digits.proofs.read_six.Goals as goal

pub loop-c-init : goal.loop-c-init
unfolding number_of
loop-c-init c = (search rules, lit< tt, search rules)

pub returns-in_err-number : goal.returns-in_err-number
returns-in_err-number c =
    c.from_residual.ensures
    ∙ sym (read_ended _ c.loop-c.c-index _ _ _ (search rules) c.loop-c.invariant.2 c.join.ensures c.in_err-number.was)
