-- What a line asks: an over-long one nothing, one of four words what they say. Assumes nothing.
use mathlib.Core.Path.{refl, sym, ◌∙◌}
use lib.ListN.{length}
use Rattle.laws.proofs.Pick.{on_le, on_gt, on_eq, on_ne}
use Rattle.screen.specs.Asked.{words, asked_of}
use Rattle.screen.proofs.asked.parse_trial.Goals as goal
use Rattle.screen.proofs.asked.parse_trial.Goals.{
  else-line-lt-OVERLONG-via-then-line-lt-OVERLONG+else-parts-eq-WORDS,
  else-line-lt-OVERLONG-via-else-line-lt-OVERLONG,
}

pub returns-then-parts-eq-WORDS : goal.returns-then-parts-eq-WORDS
unfolding asked_of
returns-then-parts-eq-WORDS c =
    on_gt 100 (length c.args.line.now) _ _ _ c.if-line-lt-OVERLONG.true
    (on_eq (words c.args.line.now) 4 _ _ _ (sym c.parts.ensures ∙ c.if-parts-eq-WORDS.true) c.four_words.ensures)

pub returns-else-line-lt-OVERLONG : goal.returns-else-line-lt-OVERLONG
unfolding asked_of
returns-else-line-lt-OVERLONG c =
    elim c.else-line-lt-OVERLONG.branch [
      | else-line-lt-OVERLONG-via-then-line-lt-OVERLONG+else-parts-eq-WORDS w ↦
          on_gt 100 (length c.args.line.now) _ _ _ w.if-line-lt-OVERLONG.true
          (on_ne (words c.args.line.now) 4 _ _ _ (λ e. w.if-parts-eq-WORDS.false (w.parts.ensures ∙ e)) refl)
      | else-line-lt-OVERLONG-via-else-line-lt-OVERLONG w ↦
          on_le 100 (length c.args.line.now) _ _ _ w.if-line-lt-OVERLONG.false refl
    ]
