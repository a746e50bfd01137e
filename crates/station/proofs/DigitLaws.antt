-- The decimal digits of a number spell that number, and with a minus sign before them a distance. Assumes nothing.
use Prim.Native.Nat.{ℕ, zero, suc, ◌+◌, ◌-◌, ◌*◌, ◌/◌, ◌%◌, ◌≤◌, ◌<◌}
use native.Mathlib.Omega.{arith}
use mathlib.Core.Bool.{Bool, true, false}
use mathlib.Core.List.{List, [], ◌∷◌, ◌++◌}
use mathlib.Core.Path.{◌≡◌, refl, ap, ◌∙◌}
use borrow.Author.Tests.{le-leb, ne_eqb, leb-true}
use lib.ListN.{length, length-append}
use Rattle.laws.specs.Axes.{directed}
use Rattle.laws.proofs.Pick.{by_lt}
use Rattle.laws.proofs.Tests.{both}
use Rattle.text.specs.Decimal.{decimal_of, sign_text}
use Rattle.text.proofs.DecimalLaws.{decimal_one, decimal_more}
use Rattle.station.specs.Forms.{
  is_digit,
  are_digits,
  is_number,
  joined,
  number_of,
  has_minus,
  is_distance,
  distance_of,
}

-- ---- One digit more

digit : (v : ℕ) → v < 10 → is_digit (48 + v) ≡ true
digit v h = rw (le-leb 48 (48 + v) (omega arith), le-leb (48 + v) 57 (omega arith))

digits_last : (w : List ℕ) (c : ℕ) → are_digits w ≡ true → is_digit c ≡ true → are_digits (w ++ (c ∷ [])) ≡ true
unfolding are_digits
digits_last [] c e h = rw h
digits_last (x ∷ w) c e h =
    let d = both (is_digit x) (are_digits w) e in
    rw d.0 (digits_last w c d.1 h)

joined_last : (w : List ℕ) (n c : ℕ) → joined n (w ++ (c ∷ [])) ≡ joined n w * 10 + (c - 48)
unfolding joined
joined_last [] n c = refl
joined_last (x ∷ w) n c = joined_last w (n * 10 + (x - 48)) c

-- ---- All of them

-- One digit or more that spell n.
record Spelt (n : ℕ) (w : List ℕ) : Type 0 where
  pub some : 1 ≤ length w
  pub digits : are_digits w ≡ true
  pub value : joined 0 w ≡ n

spelt_one : (n : ℕ) → n < 10 → Spelt n ((48 + n) ∷ [])
unfolding are_digits joined
spelt_one n h = record { some = omega arith; digits = rw (digit n h); value = omega arith }

spelt_more : (n : ℕ) (w : List ℕ) → Spelt (n / 10) w → Spelt n (w ++ ((48 + n % 10) ∷ []))
spelt_more n w s = record {
  some = omega (arith, length-append w ((48 + n % 10) ∷ []));
  digits = digits_last w (48 + n % 10) s.digits (digit (n % 10) (omega arith));
  value = joined_last w 0 (48 + n % 10) ∙ rw s.value (omega arith);
}

spelt : (k n : ℕ) → n < k → Spelt n (decimal_of n)
spelt zero n h = absurd (omega arith)
spelt (suc k) n h =
    by_lt {A = ℕ} (λ (x : ℕ). Spelt n (decimal_of n)) n 10 0 0
    (λ l. rw (decimal_one n l) (spelt_one n l))
    (λ l. rw (decimal_more n l) (spelt_more n (decimal_of (n / 10)) (spelt k (n / 10) (omega arith))))

module _ (n : ℕ) where
  abbrev all : Spelt n (decimal_of n)
  all = spelt (suc n) n (omega arith)

  is_number_lem : is_number (decimal_of n) ≡ true
  is_number_lem =
      let h : 1 ≤ length (decimal_of n) = all.some in
      rw (ne_eqb (length (decimal_of n)) 0 (λ (q : length (decimal_of n) ≡ 0). omega arith)) all.digits

  pub numbers : (is_number (decimal_of n) ≡ true) × (number_of (decimal_of n) ≡ n)
  numbers = (is_number_lem, all.value)

no_minus : (w : List ℕ) → are_digits w ≡ true → has_minus w ≡ false
unfolding are_digits
no_minus [] e = refl
no_minus (c ∷ cs) e =
    let g : 48 ≤ c = leb-true 48 c (both _ _ (both (is_digit c) (are_digits cs) e).0).0 in
    ne_eqb c 45 (λ (q : c ≡ 45). omega arith)

pub distances : (minus : Bool) (n : ℕ)
    → (is_distance (sign_text minus n) ≡ true) × (distance_of (sign_text minus n) ≡ directed minus n)
distances true n = ((numbers n).0, ap (directed true) (numbers n).1)
distances false n =
    let m = no_minus (decimal_of n) (all n).digits in
    (rw m (numbers n).0, rw m (ap (directed false) (numbers n).1))
