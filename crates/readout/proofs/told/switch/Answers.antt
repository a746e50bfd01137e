-- The switch digit in brackets. Assumes nothing.
use mathlib.Core.List.{[], ◌∷◌}
use mathlib.Core.Path.{◌∙◌}
use borrow.Author.Tests.{ne_eqb}
use Rattle.text.proofs.TextLaws.{joined, writes_one}
use Rattle.machine.specs.Calls.{chars}
use Rattle.readout.proofs.told.switch.Goals as goal

pub returns-else-s-eq0 : goal.returns-else-s-eq0
returns-else-s-eq0 c =
    rw (ne_eqb _ _ c.if-s-eq0.false, ← c.capital.ensures)
    (joined c.args.text (chars " (switch ") _ c.characters.ensures
    (joined _ (c.capital.result ∷ []) (chars ")") (c.with.ensures ∙ writes_one _ _)
    (c.with-else-s-eq0.ensures ∙ writes_one _ _)))
