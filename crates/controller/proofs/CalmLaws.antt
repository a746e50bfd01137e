-- Where all limit inputs that low-ON has are high, and none that high-ON has is, no axis is blocked. Assumes nothing.
use Prim.Native.Nat.{ℕ, zero, suc, ◌*◌, ◌/◌, ◌%◌, ◌^◌, ◌<◌, min}
use mathlib.Core.Bool.{Bool, true, false, not, ◌&&◌}
use mathlib.Core.Path.{◌≡◌, refl, sym, ap, ◌∙◌}
use native.Mathlib.Omega.{arith}
use borrow.Author.Tests.{eqb-true}
use lib.Bits.{bit_and, and_step, and_shr}
use lib.Dec.{ltb, eqb}
use Rattle.laws.proofs.Five.{five}
use Rattle.laws.proofs.Tests.{both}
use Rattle.inputs.specs.Inputs.{blocked_at, some_blocked}
use Rattle.inputs.proofs.Laws.{still, all_free, clear_at}
use Rattle.controller.specs.Inner.Watch.{is_calm_of}

-- ---- One bit of two words

lowest : (a b : ℕ) → bit_and a b % 2 ≡ min (a % 2) (b % 2)
lowest a b = let e = and_step a b in omega arith

and_bit : (a b i : ℕ) → bit_and a b / 2 ^ i % 2 ≡ min (a / 2 ^ i % 2) (b / 2 ^ i % 2)
and_bit a b i = ap (λ (x : ℕ). x % 2) (and_shr a b i) ∙ lowest (a / 2 ^ i) (b / 2 ^ i)

high_clear : (h n : ℕ) → h < 2 → n < 2 → min h n ≡ 0 → eqb h 1 && eqb n 1 ≡ false
high_clear zero n p q e = refl
high_clear (suc zero) zero p q e = refl
high_clear (suc zero) (suc zero) p q e = absurd (omega arith)
high_clear (suc zero) (suc (suc n)) p q e = absurd (omega arith)
high_clear (suc (suc h)) n p q e = absurd (omega arith)

low_clear : (l n : ℕ) → l < 2 → n < 2 → min l n ≡ l → eqb l 1 && not (eqb n 1) ≡ false
low_clear zero n p q e = refl
low_clear (suc zero) zero p q e = absurd (omega arith)
low_clear (suc zero) (suc zero) p q e = refl
low_clear (suc zero) (suc (suc n)) p q e = absurd (omega arith)
low_clear (suc (suc l)) n p q e = absurd (omega arith)

-- ---- One axis, and all five

free : (low high inputs distance : ℕ) (minus : Bool)
    → bit_and high inputs % 4 ≡ 0 → bit_and low inputs % 4 ≡ low % 4
    → false ≡ blocked_at low high inputs distance minus 0
free low high inputs distance minus p q =
    still (ltb 0 distance) minus _ _ _ _
    (low_clear (low / 1 % 2) (inputs / 1 % 2) (omega arith) (omega arith)
    (sym (and_bit low inputs 0) ∙ first (bit_and low inputs) low q))
    (low_clear (low / 2 % 2) (inputs / 2 % 2) (omega arith) (omega arith)
    (sym (and_bit low inputs 1) ∙ second (bit_and low inputs) low q))
    (high_clear (high / 1 % 2) (inputs / 1 % 2) (omega arith) (omega arith)
    (sym (and_bit high inputs 0) ∙ first (bit_and high inputs) 0 p))
    (high_clear (high / 2 % 2) (inputs / 2 % 2) (omega arith) (omega arith)
    (sym (and_bit high inputs 1) ∙ second (bit_and high inputs) 0 p))
  where
    first : (x y : ℕ) → x % 4 ≡ y % 4 → x / 1 % 2 ≡ y / 1 % 2
    first x y e = omega arith

    second : (x y : ℕ) → x % 4 ≡ y % 4 → x / 2 % 2 ≡ y / 2 % 2
    second x y e = omega arith

pub calm_free : (low high inputs : ℕ) (distance : ℕ → ℕ) (minus : ℕ → Bool) → is_calm_of low high inputs ≡ true
    → false ≡ some_blocked low high inputs distance minus
calm_free low high inputs distance minus e =
    let t = both (eqb (bit_and high inputs % 1024) 0) (eqb (bit_and low inputs % 1024) (low % 1024)) e in
    let p = eqb-true (bit_and high inputs % 1024) 0 t.0 in
    let q = eqb-true (bit_and low inputs % 1024) (low % 1024) t.1 in
    all_free low high inputs distance minus (λ k h. free (low / 2 ^ (2 * k)) (high / 2 ^ (2 * k))
    (inputs / 2 ^ (2 * k)) (distance k) (minus k)
    (ap (λ (x : ℕ). x % 4) (sym (and_shr high inputs (2 * k))) ∙ clear_at (bit_and high inputs) p k h)
    (ap (λ (x : ℕ). x % 4) (sym (and_shr low inputs (2 * k))) ∙ same_at (bit_and low inputs) low q k h))
  where
    same_at : (x y : ℕ) → x % 1024 ≡ y % 1024 → (k : ℕ) → k < 5 → x / 2 ^ (2 * k) % 4 ≡ y / 2 ^ (2 * k) % 4
    same_at x y e =
        five (λ (k : ℕ). x / 2 ^ (2 * k) % 4 ≡ y / 2 ^ (2 * k) % 4) (omega arith) (omega arith) (omega arith)
        (omega arith) (omega arith)
