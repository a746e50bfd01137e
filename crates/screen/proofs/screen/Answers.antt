-- A trial on screen: six lines, or what turns it away, and neither is cut. Assumes nothing.
use native.Mathlib.Omega.{arith}
use mathlib.Core.List.{[], ◌∷◌, ◌++◌}
use mathlib.Core.Path.{◌≡◌, refl, ap, ◌∙◌}
use Rattle.laws.proofs.Pick.{on_eq, on_ne}
use Rattle.text.specs.Text.{holding, writes}
use Rattle.text.specs.declared.Text.{Text}
use Rattle.text.proofs.TextLaws.{writes_last, writes_holding}
use Rattle.sentences.specs.Sentences.{turned_text}
use Rattle.screen.specs.Screen.{six_lines}
use Rattle.screen.proofs.WholeLaws.{six_whole, turned_whole}
use borrow.Author.Rules.{rules}
use Rattle.screen.proofs.screen.Goals as goal

pub returns-then-trial-eq0 : goal.returns-then-trial-eq0
returns-then-trial-eq0 c =
    let l = six_lines c.args.trial c.args.master c.args.ticks in
    let e : c.args.trial.number ≡ 0 = omega arith in record {
      value = c.six_lines.ensures.value
          ∙ ap (λ (t : Text). writes t l) c.new-text.ensures
          ∙ writes_holding [] l
          ∙ ap holding (on_eq c.args.trial.number 0 _ _ _ e refl);
      whole = six_whole c.args.trial c.args.master c.args.ticks e c.six_lines.ensures.ticks_len_bound;
    }

pub returns : goal.returns
returns c =
    let l = turned_text c.args.trial.number in
    let q : c.args.trial.number ≡ 0 → ⊥ = omega arith in record {
      value = writes_last (holding []) l 10
          (c.turned_away.ensures ∙ ap (λ (t : Text). writes t l) c.new-text.ensures)
          c.with.ensures
          ∙ writes_holding [] (l ++ (10 ∷ []))
          ∙ ap holding (on_ne c.args.trial.number 0 _ _ _ q refl);
      whole = turned_whole c.args.trial c.args.master c.args.ticks q (search rules);
    }
