-- When the move ends, or that it does not, one part behind another. Assumes nothing.
use mathlib.Core.Path.{refl, ap, ◌∙◌}
use Rattle.laws.proofs.Pick.{on_eq, on_ne}
use Rattle.machine.specs.Calls.{chars}
use Rattle.text.specs.Decimal.{decimal_of}
use Rattle.text.specs.Text.{writes}
use Rattle.text.proofs.TextLaws.{joined}
use Rattle.screen.specs.Screen.{time_text}
use Rattle.screen.proofs.lines.end.Goals as goal

pub returns-then-end-eq0 : goal.returns-then-end-eq0
returns-then-end-eq0 c =
    joined c.args.text (chars "does not end in ") _ c.characters.ensures
    (joined _ (decimal_of c.args.ticks) _ c.decimal.ensures
    (joined _ (chars " ticks, ") (time_text c.args.ticks) c.characters-told.ensures c.time.ensures))
    ∙ ap (writes c.args.text) (on_eq c.args.end 0 _ _ _ c.if-end-eq0.true refl)

pub returns : goal.returns
returns c =
    joined c.args.text (chars "ends in tick ") _ c.characters-2.ensures
    (joined _ (decimal_of c.args.end) _ c.decimal-2.ensures
    (joined _ (chars ", ") (time_text c.args.end) c.characters-told-2.ensures c.time-2.ensures))
    ∙ ap (writes c.args.text) (on_ne c.args.end 0 _ _ _ c.if-end-eq0.false refl)
