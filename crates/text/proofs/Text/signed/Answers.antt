-- A number in decimal, behind a minus sign or without. Assumes nothing.
use Rattle.text.proofs.TextLaws.{with_sign}
use Rattle.text.proofs.Text.signed.Goals as goal

pub returns-then-minus : goal.returns-then-minus
returns-then-minus c =
    with_sign c.args.self c.args.minus c.args.n c.if-minus.true c.with.ensures
    c.decimal.ensures
