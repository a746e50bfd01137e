-- One axis at one master pulse more, over plain numbers: d its distance, M the master's, m the master's travel, t
-- its own.
-- Assumes nothing.
use Prim.Native.Nat.{ℕ, ◌+◌, ◌-◌, ◌*◌, ◌/◌, ◌≤◌, ◌<◌}
use mathlib.Core.Bool.{Bool, true, false, cond}
use mathlib.Core.Path.{◌≡◌, refl, sym, ap, subst, ◌∙◌}
use native.Mathlib.Omega.{arith}
use native.Mathlib.Nat.{
  div-mul-le_self,
  lt-div-mul-add,
  le-div_iff_mul-le,
  div-lt_iff_lt-mul,
  mul-div_right,
  lt_of_mul-lt-mul_right,
}
use borrow.Author.Tests.{lt-ltb}
use lib.Dec.{ltb}
use lib.IntN.{ℤ, pos, nat_abs}
use Rattle.laws.proofs.Pick.{by_lt}
use Rattle.laws.specs.Axes.{directed}
use Rattle.laws.proofs.Directed.{no_step}
use Rattle.machine.specs.List.{is_pulse}

-- The exact share, multiplied out: t × M ≤ m × d < (t + 1) × M, and no axis is longer than the master.
pub record Share (d M m t : ℕ) : Type 0 where
  pub short : d ≤ M
  pub low : t * M ≤ m * d
  pub high : 0 < M → m * d < (t + 1) * M

-- Before any move, and as a move begins.
pub share_none : (d M : ℕ) → d ≤ M → Share d M 0 0
share_none d M h = record { short = h; low = omega arith; high = λ p. omega arith }

module _ (d M m t : ℕ) (p : 0 < M) (s : Share d M m t) where
  -- The whole part is the exact share again.
  pub share_next : Share d M (m + 1) ((m + 1) * d / M)
  share_next = record {
    short = s.short;
    low = div-mul-le_self ((m + 1) * d) M;
    high = λ q. let h = lt-div-mul-add {a = (m + 1) * d} {b = M} q in omega (arith, h);
  }

  -- It is the travel or one more.
  pub share_grows : t ≤ (m + 1) * d / M
  share_grows = (le-div_iff_mul-le {k = M} {x = t} {y = (m + 1) * d} p).1 (omega (arith, s.low))

  pub share_once : (m + 1) * d / M ≤ t + 1
  share_once =
      let h = (div-lt_iff_lt-mul {k = M} {x = (m + 1) * d} {y = t + 2} p).1 (omega (arith, s.high p, s.short)) in
      omega (arith, h)

  -- At m + 1 = M the travel is the distance, and an axis with a distance pulses there.
  pub share_whole : m + 1 ≡ M → (m + 1) * d / M ≡ d
  share_whole e = subst (λ (n : ℕ). n * d / M ≡ d) (sym e) (mul-div_right d p)

  pub share_last : m + 1 ≡ M → 0 < d → t < d
  share_last e q =
      lt_of_mul-lt-mul_right M {m = t} {n = d}
      (let k : (m + 1) * d ≡ M * d = ap (λ (n : ℕ). n * d) e in omega (arith, s.low, k))

-- What a share adds to a travel is one pulse or none.
pub pulse_is : (t n : ℕ) (s : Bool) → t ≤ n → n ≤ t + 1
    → directed s (n - t) ≡ cond (ltb t n) (directed s 1) (pos 0)
pulse_is t n s h k =
    by_lt (λ (z : ℤ). directed s (n - t) ≡ z) t n _ _ (λ q. ap (directed s) (omega arith))
    (λ q. ap (directed s) (omega arith) ∙ no_step s)

-- A pulse as the difference of two travels.
pub pulse_counts : (t n : ℕ) (s : Bool) → t ≤ n → n ≤ t + 1
    → n ≡ t + is_pulse (cond (ltb t n) (directed s 1) (pos 0))
pulse_counts t n s h k =
    by_lt (λ (z : ℤ). n ≡ t + is_pulse z) t n _ _ (λ q. one s q) (λ q. omega arith)
  where
    one : (b : Bool) → t < n → n ≡ t + is_pulse (directed b 1)
    one true q = omega arith
    one false q = omega arith

pub pulse_single : (t n : ℕ) (s : Bool) → nat_abs (cond (ltb t n) (directed s 1) (pos 0)) ≤ 1
pulse_single t n s =
    by_lt (λ (z : ℤ). nat_abs z ≤ 1) t n _ _ (λ q. one s) (λ q. omega arith)
  where
    one : (b : Bool) → nat_abs (directed b 1) ≤ 1
    one true = omega arith
    one false = omega arith

pub pulse_sign : (t n : ℕ) (s : Bool) → 0 < nat_abs (cond (ltb t n) (directed s 1) (pos 0))
    → cond (ltb t n) (directed s 1) (pos 0) ≡ directed s 1
pulse_sign t n s =
    by_lt (λ (z : ℤ). 0 < nat_abs z → z ≡ directed s 1) t n _ _ (λ q h. refl) (λ q h. absurd (omega arith))

pub pulse_last : (t n : ℕ) (s : Bool) → t < n → nat_abs (cond (ltb t n) (directed s 1) (pos 0)) ≡ 1
pulse_last t n s h = rw (lt-ltb t n h) (one s)
  where
    one : (b : Bool) → nat_abs (directed b 1) ≡ 1
    one true = refl
    one false = refl
