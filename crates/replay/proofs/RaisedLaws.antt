-- A signed number of 32 bits with 2,147,483,648 added, in 64 bits: it fits 32 bits. Assumes nothing.
use Prim.Native.Nat.{ℕ, suc, ◌+◌, ◌-◌, ◌/◌, ◌%◌, ◌<◌, ◌≤◌}
use native.Mathlib.Omega.{arith}
use mathlib.Core.Path.{◌≡◌, sym, ap, subst, ◌∙◌}
use borrow.Author.Tests.{le-ltb}
use lib.Dec.{T}
use lib.IntN.{ℤ, pos, negsuc, nat_abs, ◌+ℤ◌}
use lib.Signed.{non_neg}
use mir.Syntax.{w32, w64}
use mir.Val.{Fits, SFits, to_z, of_z}
use mir.ValLaws.{to_z-of_z}
use Rattle.laws.proofs.Signs.{cast_fits}
use Rattle.journal.specs.declared.Entry.{Entry}
use Rattle.replay.specs.Digest.{mixed, at_axis, raised, mixed_entry}

sum_is : (z : ℤ) → SFits w32 z → z +ℤ pos 2147483648 ≡ pos (raised z)
sum_is (pos n) f = let e : n + 2147483648 ≡ 2147483648 + n = omega arith in ap pos e
sum_is (negsuc n) f =
    let l : suc n ≤ 2147483648 = omega (arith, f.sfits) in
    let e : 2147483648 - suc n ≡ 2147483647 - n = omega arith in
    rw (le-ltb 2147483648 (suc n) l) (ap pos e)

raised_small : (z : ℤ) → SFits w32 z → raised z < 4294967296
raised_small (pos n) f = omega (arith, f.sfits)
raised_small (negsuc n) f = omega arith

-- The number as the code has it in 64 bits, and the sum there.
abbrev wide : ℤ → ℤ
wide z = to_z w64 (of_z w64 (to_z w32 (of_z w32 z)))

module _ (z : ℤ) (f : SFits w32 z) where
  passed : to_z w32 (of_z w32 z) ≡ z
  passed = to_z-of_z w32 z f

  sum : wide z +ℤ pos 2147483648 ≡ pos (raised z)
  sum = ap (λ (x : ℤ). x +ℤ pos 2147483648) (to_z-of_z w64 _ (cast_fits z f) ∙ passed) ∙ sum_is z f

  sum_small : SFits w64 (pos (raised z))
  sum_small = record { sfits = omega (arith, raised_small z f) }

  pub sum_fits : SFits w64 (wide z +ℤ pos 2147483648)
  sum_fits = subst (SFits w64) (sym sum) sum_small

  back : to_z w64 (of_z w64 (wide z +ℤ pos 2147483648)) ≡ pos (raised z)
  back = ap (λ (x : ℤ). to_z w64 (of_z w64 x)) sum ∙ to_z-of_z w64 (pos (raised z)) sum_small

  pub raised_fits : T (non_neg (to_z w64 (of_z w64 (wide z +ℤ pos 2147483648))))
      × Fits w32 (nat_abs (to_z w64 (of_z w64 (wide z +ℤ pos 2147483648))))
  raised_fits =
      subst (λ (x : ℤ). T (non_neg x) × Fits w32 (nat_abs x)) (sym back)
      (tt, record { fits = omega (arith, raised_small z f) })

  pub raised_is : nat_abs (to_z w64 (of_z w64 (wide z +ℤ pos 2147483648))) ≡ raised z
  raised_is = ap nat_abs back

-- An entry, by the three sums that are made.
pub told_is : (h : ℕ) (e : Entry) (k l n a b c d x : ℕ)
    → k ≡ mixed h (e.ticks % 4294967296) (e.ticks / 4294967296) e.cause → l ≡ mixed k a b c → n ≡ mixed l d x 0
    → a ≡ raised (at_axis e.travels 0) → b ≡ raised (at_axis e.travels 1) → c ≡ raised (at_axis e.travels 2)
    → d ≡ raised (at_axis e.travels 3) → x ≡ raised (at_axis e.travels 4) → n ≡ mixed_entry h e
unfolding mixed_entry
told_is h e k l n a b c d x p q r ea eb ec ed ex =
    r ∙ (λ i. mixed ((q ∙ (λ j. mixed (p j) (ea j) (eb j) (ec j))) i) (ed i) (ex i) 0)
