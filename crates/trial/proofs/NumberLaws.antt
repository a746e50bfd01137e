-- The numbers of a trial in their order, and that a half-received line plays no part. Assumes nothing.
use Prim.Native.Nat.{ℕ, ◌≤◌, ◌<◌}
use native.Mathlib.Omega.{arith}
use mathlib.Core.Bool.{Bool, true, false}
use mathlib.Core.Path.{◌≡◌, refl, sym, ap, subst, ◌∙◌}
use borrow.Author.Tests.{eqb-true, eqb-false}
use lib.Dec.{ltb, eqb}
use Rattle.laws.proofs.Pick.{by_bool}
use Rattle.line.specs.declared.command.Command.TheVariants.{Start}
use Rattle.machine.specs.State.{Machine}
use Rattle.machine.specs.Commands.{number}
use Rattle.machine.specs.Steps.{too_large}
use Rattle.trial.specs.declared.Trial.{Trial}
use Rattle.trial.specs.Trial.{start_answer, turned, trial_of}
use Rattle.trial.specs.Promises.{Turned, Numbers}
use Rattle.trial.proofs.TrialLaws.{by_word, by_ticks, by_master, by_start, by_run}
use Rattle.trial.proofs.PlainLaws.{plain_start}

are_zeros : (t : Trial) (n : ℕ) → turned n ≡ t → Turned t n
are_zeros t n e = subst (λ (x : Trial). Turned x n) e (refl, (refl, (refl, refl)))

module _ (m : Machine) (k w n : ℕ) where
  own : w ≤ 16777215 → n ≤ 1000000 → k < 5 → (trial_of m k w n).number ≡ number m (Start k false)
  own p q r =
      by_bool (λ (t : Bool). (trial_of m k w n).number ≡ (start_answer m k).number) (eqb (start_answer m k).number 0) true
      false
      (λ e.
      let z = eqb-true (start_answer m k).number 0 e in
      sym (ap (λ (t : Trial). t.number) (by_run m k w n p q (omega (arith, r)) z)) ∙ sym z)
      (λ e. sym (ap (λ (t : Trial). t.number) (by_start m k w n p q (omega (arith, r))
      (eqb-false (start_answer m k).number 0 e))))
      ∙ plain_start.turned m k r

  zeros : ((trial_of m k w n).number ≡ 0 → ⊥) → Turned (trial_of m k w n) (trial_of m k w n).number
  zeros =
      by_bool P (too_large w) _ _ (λ e q. (refl, (refl, (refl, refl))))
      (λ _. by_bool P (ltb 1000000 n) _ _ (λ e q. (refl, (refl, (refl, refl))))
      (λ _. by_bool P (ltb 4 k) _ _ (λ e q. (refl, (refl, (refl, refl))))
      (λ _. by_bool P (eqb (start_answer m k).number 0) _ _ (λ e q. absurd (q refl))
      (λ e q. (refl, (refl, (refl, refl)))))))
    where
      P : Trial → Type 0
      P t = (t.number ≡ 0 → ⊥) → Turned t t.number

pub numbers : Numbers
numbers = record {
  word = λ m k w n p. are_zeros _ _ (by_word m k w n p);
  most = λ m k w n p q. are_zeros _ _ (by_ticks m k w n p q);
  master = λ m k w n p q r. are_zeros _ _ (by_master m k w n p q r);
  start = λ m k w n p q r. own m k w n p q r;
  zeros = λ m k w n p. zeros m k w n p;
  aside = λ m l k w n. refl;
}
