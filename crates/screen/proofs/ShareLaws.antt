-- Laws of shares and times: a wine's pulses are within the sum, its share is cut off and at most all, and a time is
-- four times the ticks. Assumes nothing.
use Prim.Native.Nat.{ℕ, zero, suc, ◌+◌, ◌*◌, ◌/◌, ◌≤◌, ◌<◌}
use native.Mathlib.Nat.{div-mul-le_self, lt-mul-div-succ, div-le_of_le-mul, mul_comm}
use native.Mathlib.Omega.{arith}
use mathlib.Core.Path.{◌≡◌, refl, sym, subst}
use Rattle.laws.proofs.Pick.{on_eq, on_ne, by_eq}
use Rattle.trial.specs.declared.Trial.{Trial}
use Rattle.screen.specs.Screen.{pulses, pulses_in, all_pulses, share_of, share_at}
use Rattle.screen.specs.Promises.{CutOff, Shares, Times}

-- ---- the sum

pub within_sum : (t : Trial) (n k : ℕ) → k < n → pulses t k ≤ pulses_in n t
unfolding pulses_in
within_sum t zero k h = absurd (omega arith)
within_sum t (suc n) k h = by_eq {A = ℕ} (λ (_ : ℕ). pulses t k ≤ pulses_in n t + pulses t n) k n 0 0
    (λ (e : k ≡ n). subst (λ (j : ℕ). pulses t j ≤ pulses_in n t + pulses t n) (sym e) (omega arith))
    (λ (q : k ≡ n → ⊥). omega (arith, within_sum t n k (omega (arith, q))))

-- ---- a share

pub share_none : (part sum : ℕ) → sum ≡ 0 → 0 ≡ share_of part sum
share_none part sum e = on_eq sum 0 0 _ _ e refl

pub share_some : (part sum : ℕ) → (sum ≡ 0 → ⊥) → part * 10000 / sum ≡ share_of part sum
share_some part sum q = on_ne sum 0 _ _ _ q refl

pub quotient_most : (part sum : ℕ) → part ≤ sum → part * 10000 / sum ≤ 10000
quotient_most part sum h = div-le_of_le-mul sum {m = part * 10000} {n = 10000} (omega arith)

share_most : (part sum : ℕ) → part ≤ sum → share_of part sum ≤ 10000
share_most part sum h =
    by_eq (λ (s : ℕ). s ≤ 10000) sum 0 0 (part * 10000 / sum) (λ _. omega arith) (λ _. quotient_most part sum h)

share_cut : (part sum : ℕ) → 0 < sum → CutOff (share_of part sum) part sum
share_cut part sum h =
    subst (λ (s : ℕ). CutOff s part sum) (share_some part sum (λ (e : sum ≡ 0). omega arith)) (record {
      most = div-mul-le_self (part * 10000) sum;
      less = subst (λ (x : ℕ). part * 10000 < x) (mul_comm sum (part * 10000 / sum + 1))
          (lt-mul-div-succ (part * 10000) h);
    })

pub at_most_all : (t : Trial) (k : ℕ) → k < 5 → share_at t k ≤ 10000
at_most_all t k h = share_most (pulses t k) (all_pulses t) (within_sum t 5 k h)

pub shares : Shares
shares = record {
  cut = share_cut;
  none = λ t k e. sym (share_none (pulses t k) (all_pulses t) e);
  hundred = at_most_all;
}

-- ---- a time

pub times : Times
times = record { micros = λ n. omega arith; low = λ n. omega arith }
