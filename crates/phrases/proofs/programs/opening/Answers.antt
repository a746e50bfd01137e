-- The line that host tools send first, without 0D, or the nearest form. Assumes nothing.
use mathlib.Core.Path.{refl, sym, ap, ◌∙◌}
use Rattle.laws.proofs.Pick.{on_eq, on_ne}
use Rattle.text.specs.Text.{writes}
use Rattle.text.specs.Parts.{part}
use Rattle.phrases.specs.Meanings.{words}
use Rattle.phrases.proofs.programs.opening.Goals as goal

pub returns-then-parts-eq1 : goal.returns-then-parts-eq1
returns-then-parts-eq1 c =
    c.characters.ensures
    ∙ ap (writes c.args.text)
    (c.part.ensures
    ∙ (ap (part 13 0) c.watch_off-first.ensures.value
    ∙ on_eq (words c.args.line.now) 1 _ _ _ (sym c.parts.ensures ∙ c.if-parts-eq1.true) refl))

pub returns : goal.returns
returns c =
    c.nearest.ensures
    ∙ ap (writes c.args.text)
    (on_ne (words c.args.line.now) 1 _ _ _ (λ e. c.if-parts-eq1.false (c.parts.ensures ∙ e)) refl)
