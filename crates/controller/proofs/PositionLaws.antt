-- Held positions, read as signed numbers of 64 bits, are the machine's: its range is far below theirs. Assumes nothing.
use Prim.Native.Nat.{ℕ, ◌<◌}
use native.Mathlib.Omega.{arith}
use mathlib.Core.Bool.{false}
use mathlib.Core.List.{List, [], ◌∷◌, map}
use mathlib.Core.Path.{◌≡◌, sym, ap, ◌∙◌}
use borrow.Author.Tests.{ltb-false}
use lib.IntN.{ℤ, pos, negsuc}
use lib.ListN.{get_or}
use mir.Syntax.{w64}
use mir.Val.{SFits, to_z, of_z}
use mir.ValLaws.{to_z-of_z}
use Rattle.laws.specs.Axes.{each}
use Rattle.laws.proofs.Five.{five}
use Rattle.reply.specs.declared.readings.Position.{Position}
use Rattle.reply.specs.Reply.{position_of}
use Rattle.machine.specs.Starts.{outside}
use Rattle.machine.specs.Calls.{Call, state}
use Rattle.machine.proofs.DemandLaws.{demand_3}
use Rattle.controller.specs.Held.{held_position}

fits_64 : (z : ℤ) → outside z ≡ false → SFits w64 z
fits_64 (pos n) h = record { sfits = omega (arith, ltb-false 524287 n h) }
fits_64 (negsuc n) h = record { sfits = omega (arith, ltb-false 524287 n h) }

place_is : (s : ℕ) (h : List Call) (k : ℕ) → k < 5
    → (z : ℤ) → z ≡ (state s h).position k → to_z w64 (of_z w64 z) ≡ (state s h).position k
place_is s h k l z e =
    ap (λ (x : ℤ). to_z w64 (of_z w64 x)) e
    ∙ to_z-of_z w64 ((state s h).position k) (fits_64 ((state s h).position k) (demand_3 s h k l).within)

module _ (s : ℕ) (h : List Call) (ps : List Position) (e : ps ≡ each (held_position (state s h)))
    (q : map position_of ps ≡ each (state s h).position) where
  -- The position of an axis.
  abbrev at : ℕ → ℤ
  at = (state s h).position

  read : map position_of (each (held_position (state s h))) ≡ each at
  read = sym (ap (map position_of) e) ∙ q

  each_is : (d : Position) (k : ℕ) → k < 5 → position_of (get_or (each (held_position (state s h))) k d) ≡ at k
  each_is d =
      five (λ (k : ℕ). position_of (get_or (each (held_position (state s h))) k d) ≡ at k)
      (ap (λ (x : List ℤ). get_or x 0 (pos 0)) read)
      (ap (λ (x : List ℤ). get_or x 1 (pos 0)) read)
      (ap (λ (x : List ℤ). get_or x 2 (pos 0)) read)
      (ap (λ (x : List ℤ). get_or x 3 (pos 0)) read)
      (ap (λ (x : List ℤ). get_or x 4 (pos 0)) read)

  signed_is : (d : Position) (k : ℕ) → k < 5 → (z : ℤ) → z ≡ position_of (get_or ps k d) → to_z w64 (of_z w64 z) ≡ at k
  signed_is d k l z r =
      place_is s h k l z (r ∙ (ap (λ (x : List Position). position_of (get_or x k d)) e ∙ each_is d k l))

  -- The five numbers that are handed out.
  pub axes_are : (d : Position) (z₀ z₁ z₂ z₃ z₄ : ℤ)
      → z₀ ≡ position_of (get_or ps 0 d) → z₁ ≡ position_of (get_or ps 1 d) → z₂ ≡ position_of (get_or ps 2 d)
      → z₃ ≡ position_of (get_or ps 3 d) → z₄ ≡ position_of (get_or ps 4 d)
      → to_z w64 (of_z w64 z₀) ∷ to_z w64 (of_z w64 z₁) ∷ to_z w64 (of_z w64 z₂) ∷ to_z w64 (of_z w64 z₃)
      ∷ to_z w64 (of_z w64 z₄) ∷ [] ≡ each at
  axes_are d z₀ z₁ z₂ z₃ z₄ r₀ r₁ r₂ r₃ r₄ = λ i.
      signed_is d 0 (omega arith) z₀ r₀ i ∷ signed_is d 1 (omega arith) z₁ r₁ i
      ∷ signed_is d 2 (omega arith) z₂ r₂ i
      ∷ signed_is d 3 (omega arith) z₃ r₃ i
      ∷ signed_is d 4 (omega arith) z₄ r₄ i
      ∷ []
