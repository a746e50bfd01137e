-- A command with its end, by its name. Assumes nothing.
use mathlib.Core.Path.{refl, sym, ◌∙◌}
use Rattle.laws.proofs.Pick.{on_true, on_false}
use Rattle.station.specs.Forms.{other, is_ended, name_of, text_of, form_as, form_of}
use Rattle.station.specs.Held.{held_form}
use Rattle.station.proofs.FormLaws.{choice}
use Rattle.station.proofs.forms.form_of.Goals as goal

pub returns-then-not-is_ended : goal.returns-then-not-is_ended
unfolding form_of
returns-then-not-is_ended c =
    on_false _ _ _ _ (sym c.is_ended.ensures ∙ c.if-not-is_ended.true) refl
    ∙ choice (is_ended c.args.command.now) (form_as (name_of c.args.command.now) (text_of c.args.command.now)) other

pub returns : goal.returns
unfolding form_of
returns c =
    on_true _ _ _ _ (sym c.is_ended.ensures ∙ c.if-not-is_ended.false)
    (c.form_as.ensures ∙ (λ i. held_form (form_as (c.name_of.ensures i) (c.text_of.ensures i))))
    ∙ choice (is_ended c.args.command.now) (form_as (name_of c.args.command.now) (text_of c.args.command.now)) other
