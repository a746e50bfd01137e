-- Laws of signed numbers as the code has them, by their bits: handed on, their sign, and their size. Assumes nothing.
use Prim.Native.Nat.{ℕ, zero, suc}
use native.Mathlib.Omega.{arith}
use mathlib.Core.Bool.{true, false}
use mathlib.Core.Path.{◌≡◌, refl, sym, ap, subst, ◌∙◌}
use borrow.Author.Tests.{le-ltb}
use lib.Dec.{T}
use lib.IntN.{ℤ, pos, negsuc, neg_ℤ, nat_abs, ◌-ℤ◌, +ℤ_idl}
use lib.Signed.{lt_z, non_neg}
use mir.Syntax.{Width, w32, w64}
use mir.Val.{Fits, SFits, to_z, of_z}
use mir.ValLaws.{to_z-of_z}
use Rattle.laws.specs.Axes.{is_minus}

-- ---- handed on

-- A number that fits goes through its bits unaltered.
pub passed : (w : Width) (z y : ℤ) → SFits w y → z ≡ y → to_z w (of_z w z) ≡ y
passed w z y f e = ap (λ (x : ℤ). to_z w (of_z w x)) e ∙ to_z-of_z w y f

-- What a function answers of a number's bits it answers of the number.
pub answered : {A : Type 0} (g : ℤ → A) (w : Width) (z : ℤ) (a : A) → SFits w z → a ≡ g (to_z w (of_z w z)) → a ≡ g z
answered g w z a f e = e ∙ ap g (to_z-of_z w z f)

-- ---- the sign

pub minus_told : (w : Width) (z : ℤ) → SFits w z → lt_z (to_z w (of_z w z)) (pos 0) ≡ is_minus z
minus_told w z f = ap (λ (x : ℤ). lt_z x (pos 0)) (to_z-of_z w z f) ∙ told z
  where
    told : (z : ℤ) → lt_z z (pos 0) ≡ is_minus z
    told (pos n) = le-ltb n 0 (omega arith)
    told (negsuc n) = refl

-- ---- the opposite

pub neg_size : (z : ℤ) → nat_abs (neg_ℤ z) ≡ nat_abs z
neg_size (pos zero) = refl
neg_size (pos (suc n)) = refl
neg_size (negsuc n) = refl

pub opposite_is : (x z : ℤ) → x ≡ z → pos 0 -ℤ x ≡ neg_ℤ z
opposite_is x z e = ap (λ (y : ℤ). pos 0 -ℤ y) e ∙ +ℤ_idl (neg_ℤ z)

-- ---- the size of a number of 32 bits: its opposite is taken in 64, where it fits

wide_fits : (z : ℤ) → SFits w32 z → SFits w64 z
wide_fits z f = record { sfits = omega (arith, f.sfits) }

neg_fits : (z : ℤ) → SFits w32 z → SFits w64 (neg_ℤ z)
neg_fits (pos zero) f = record { sfits = omega arith }
neg_fits (pos (suc n)) f = record { sfits = omega (arith, f.sfits) }
neg_fits (negsuc n) f = record { sfits = omega (arith, f.sfits) }

module _ (z : ℤ) (f : SFits w32 z) where
  opposite : pos 0 -ℤ to_z w64 (of_z w64 (to_z w32 (of_z w32 z))) ≡ neg_ℤ z
  opposite =
      opposite_is (to_z w64 (of_z w64 (to_z w32 (of_z w32 z)))) z
      (passed w64 (to_z w32 (of_z w32 z)) z (wide_fits z f) (to_z-of_z w32 z f))

  back : to_z w64 (of_z w64 (pos 0 -ℤ to_z w64 (of_z w64 (to_z w32 (of_z w32 z))))) ≡ neg_ℤ z
  back = passed w64 (pos 0 -ℤ to_z w64 (of_z w64 (to_z w32 (of_z w32 z)))) (neg_ℤ z) (neg_fits z f) opposite

  pub cast_fits : SFits w64 (to_z w32 (of_z w32 z))
  cast_fits = subst (λ (x : ℤ). SFits w64 x) (sym (to_z-of_z w32 z f)) (wide_fits z f)

  pub opposite_fits : SFits w64 (pos 0 -ℤ to_z w64 (of_z w64 (to_z w32 (of_z w32 z))))
  opposite_fits = subst (λ (x : ℤ). SFits w64 x) (sym opposite) (neg_fits z f)

  pub minus_cast : is_minus z ≡ true
      → T (non_neg (to_z w64 (of_z w64 (pos 0 -ℤ to_z w64 (of_z w64 (to_z w32 (of_z w32 z)))))))
      × Fits w32 (nat_abs (to_z w64 (of_z w64 (pos 0 -ℤ to_z w64 (of_z w64 (to_z w32 (of_z w32 z)))))))
  minus_cast e = subst (λ (x : ℤ). T (non_neg x) × Fits w32 (nat_abs x)) (sym back) (told z f e)
    where
      told : (z : ℤ) → SFits w32 z → is_minus z ≡ true → T (non_neg (neg_ℤ z)) × Fits w32 (nat_abs (neg_ℤ z))
      told (pos n) f e = let x : ◌≡◌ {A = ℕ} 0 1 = cc in absurd (omega arith)
      told (negsuc n) f e = (tt, record { fits = omega (arith, f.sfits) })

  pub minus_is : nat_abs (to_z w64 (of_z w64 (pos 0 -ℤ to_z w64 (of_z w64 (to_z w32 (of_z w32 z)))))) ≡ nat_abs z
  minus_is = ap nat_abs back ∙ neg_size z

  pub plus_cast : is_minus z ≡ false → T (non_neg (to_z w32 (of_z w32 z))) × Fits w32 (nat_abs (to_z w32 (of_z w32 z)))
  plus_cast e = subst (λ (x : ℤ). T (non_neg x) × Fits w32 (nat_abs x)) (sym (to_z-of_z w32 z f)) (told z f e)
    where
      told : (z : ℤ) → SFits w32 z → is_minus z ≡ false → T (non_neg z) × Fits w32 (nat_abs z)
      told (pos n) f e = (tt, record { fits = omega (arith, f.sfits) })
      told (negsuc n) f e = let x : ◌≡◌ {A = ℕ} 0 1 = cc in absurd (omega arith)

  pub plus_is : nat_abs (to_z w32 (of_z w32 z)) ≡ nat_abs z
  plus_is = ap nat_abs (to_z-of_z w32 z f)
