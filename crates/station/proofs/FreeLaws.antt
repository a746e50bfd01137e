-- Numbers have no space, comma or 00 in them, and a text that is joined of such has none. Assumes nothing.
use Prim.Native.Nat.{ℕ, ◌<◌, ◌≤◌}
use native.Mathlib.Omega.{arith}
use mathlib.Core.Bool.{Bool, true, false, cond, not}
use mathlib.Core.List.{List, [], ◌∷◌, ◌++◌}
use mathlib.Core.Path.{◌≡◌, refl}
use borrow.Author.Tests.{eqb-true, leb-true, ne_eqb}
use lib.Dec.{eqb}
use lib.ListN.{length}
use Rattle.laws.proofs.Tests.{both}
use Rattle.text.specs.Parts.{marks}
use Rattle.station.specs.Forms.{is_digit, are_digits, is_number, is_distance}
use Rattle.station.proofs.MarkLaws.{marks_join}

module _ (m : ℕ) where
  digits_free : (w : List ℕ) → m < 48 → are_digits w ≡ true → marks m w ≡ 0
  unfolding are_digits marks
  digits_free [] h e = refl
  digits_free (c ∷ cs) h e =
      let d = both (is_digit c) (are_digits cs) e in
      let g : 48 ≤ c = leb-true 48 c (both _ _ d.0).0 in
      rw (ne_eqb c m (λ (q : c ≡ m). omega arith)) (omega (arith, digits_free cs h d.1))

  pub number_free : (w : List ℕ) → m < 48 → is_number w ≡ true → marks m w ≡ 0
  number_free w h e = digits_free w h (both (not (eqb (length w) 0)) (are_digits w) e).1

  pub distance_free : (w : List ℕ) → m < 45 → is_distance w ≡ true → marks m w ≡ 0
  unfolding marks
  distance_free [] h e = refl
  distance_free (c ∷ cs) h e = when (eqb c 45) (eqb-true c 45) e
    where
      when : (t : Bool) → (t ≡ true → c ≡ 45) → is_number (cond t cs (c ∷ cs)) ≡ true → marks m (c ∷ cs) ≡ 0
      when true f g =
          let p : c ≡ 45 = f refl in
          rw (ne_eqb c m (λ (q : c ≡ m). omega arith)) (omega (arith, number_free cs (omega arith) g))
      when false f g = number_free (c ∷ cs) (omega arith) g

  pub join_free : (a b : List ℕ) → marks m a ≡ 0 → marks m b ≡ 0 → marks m (a ++ b) ≡ 0
  join_free a b g h = omega (arith, marks_join m a b)
