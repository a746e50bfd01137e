-- The tick of the end is the first that ends the move. Assumes nothing.
use Prim.Native.Nat.{ℕ, zero, suc, ◌<◌}
use native.Mathlib.Omega.{arith}
use mathlib.Core.Bool.{Bool, true, false, cond}
use mathlib.Core.Path.{◌≡◌, refl, sym, subst}
use borrow.Author.Tests.{eqb-true, eqb-false}
use lib.Dec.{eqb}
use Rattle.laws.proofs.Pick.{by_bool}
use Rattle.machine.specs.State.{Machine}
use Rattle.trial.specs.Trial.{ends_next, end_of}
use Rattle.trial.specs.Promises.{FirstEnd}

module _ (m : Machine) (w : ℕ) where
  abbrev pub end : ℕ → ℕ
  end n = end_of m w n

  abbrev pub Ends : ℕ → Bool → Type 0
  Ends i b = ends_next m w i ≡ b

  -- One tick more, by the end before it and whether it ends the move.
  pub step : (n : ℕ) (P : ℕ → Type 0) → (end n ≡ 0 → Ends n true → P (suc n)) → (end n ≡ 0 → Ends n false → P 0)
      → ((end n ≡ 0 → ⊥) → P (end n)) → P (end (suc n))
  unfolding end_of
  step n P f g h =
      by_bool P (eqb (end n) 0) _ _
      (λ e. by_bool P (ends_next m w n) _ _ (λ b. f (eqb-true (end n) 0 e) b) (λ b. g (eqb-true (end n) 0 e) b))
      (λ e. h (eqb-false (end n) 0 e))

  -- Below n or n itself.
  below : (n j : ℕ) → j < suc n → (P : ℕ → Type 0) → ((i : ℕ) → i < n → P i) → P n → P j
  below n j l P f p =
      by_bool (λ (x : ℕ). x ≡ j → P j) (eqb j n) n j
      (λ e q. subst P (sym (eqb-true j n e)) p) (λ e q. f j (omega (arith, l, eqb-false j n e))) pick
    where
      pick : cond (eqb j n) n j ≡ j
      pick = by_bool (λ (x : ℕ). x ≡ j) (eqb j n) n j (λ e. sym (eqb-true j n e)) (λ e. refl)

  none : (n : ℕ) → end n ≡ 0 → (j : ℕ) → j < n → Ends j false
  none zero = λ e j l. absurd (omega (arith, l))
  none (suc n) =
      step n (λ x. x ≡ 0 → (j : ℕ) → j < suc n → Ends j false) (λ e b q. absurd (omega (arith, q)))
      (λ e b q j l. below n j l (λ i. Ends i false) (none n e) b)
      (λ e q. absurd (e q))

  told : (n i : ℕ) → end n ≡ suc i → (i < n) × Ends i true
  unfolding end_of
  told zero i = λ e. absurd (omega (arith, e))
  told (suc n) i =
      step n (λ x. x ≡ suc i → (i < suc n) × Ends i true)
      (λ e b q.
      let r : n ≡ i = omega (arith, q) in
      (omega (arith, r), subst (λ x. Ends x true) r b))
      (λ e b q. absurd (omega (arith, q)))
      (λ e q. let r = told n i q in (omega (arith, r.0), r.1))

  first : (n i : ℕ) → end n ≡ suc i → (j : ℕ) → j < i → Ends j false
  unfolding end_of
  first zero i = λ e. absurd (omega (arith, e))
  first (suc n) i =
      step n (λ x. x ≡ suc i → (j : ℕ) → j < i → Ends j false)
      (λ e b q j l. none n e j (omega (arith, q, l)))
      (λ e b q. absurd (omega (arith, q)))
      (λ e q. first n i q)

pub first_end : FirstEnd
first_end = record {
  told = λ m w n i e. told m w n i e;
  first = λ m w n i e j l. first m w n i e j l;
  none = λ m w n e j l. none m w n e j l;
}
