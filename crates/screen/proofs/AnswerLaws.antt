-- What is printed for a trial that a line asks for, and that it is not cut. Assumes nothing.
use Rattle.std.proofs.Common.{Option}
use Prim.Native.Nat.{ℕ, ◌≤◌}
use mathlib.Core.Path.{◌≡◌, sym, ap, subst, ◌∙◌}
use lib.ListN.{length}
use Rattle.machine.specs.State.{Machine}
use Rattle.text.specs.Text.{holding}
use Rattle.text.specs.declared.Text.{Text}
use Rattle.trial.specs.Trial.{trial_of}
use Rattle.trial.specs.declared.Trial.{Trial}
use Rattle.screen.specs.declared.asked.Asked.{Asked}
use Rattle.screen.specs.Asked.{asking}
use Rattle.screen.specs.Answer.{shown_for}
use Rattle.screen.specs.Promises.{Whole}
use Rattle.screen.specs.Screen.{screen_text}

module _ (m : Machine) {a : Option Asked} where
  pub trial_shown : {r : Text} {t : Trial} {k n w : ℕ} → a ≡ asking k n w → t ≡ trial_of m k w n
      → r ≡ holding (screen_text t k n) → r ≡ holding (shown_for m a)
  trial_shown {k = k} {n = n} e q p =
      p ∙ ap (λ (x : Trial). holding (screen_text x k n)) q
      ∙ sym (ap (λ (x : Option Asked). holding (shown_for m x)) e)

  pub trial_whole : {t : Trial} {k n w : ℕ} → a ≡ asking k n w → t ≡ trial_of m k w n → Whole t k n
      → length (shown_for m a) ≤ 250
  trial_whole {k = k} {n = n} e q h =
      subst (λ (x : Option Asked). length (shown_for m x) ≤ 250) (sym e) (subst (λ (x : Trial). Whole x k n) q h)
