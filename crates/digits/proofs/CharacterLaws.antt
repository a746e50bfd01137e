-- A character and the value and case that are read of it are one to one (specs/Characters.antt). Assumes nothing.
use Rattle.std.proofs.Common.{Option, Some, None}
use Prim.Native.Nat.{ℕ, zero, suc, ◌+◌, ◌-◌, ◌<◌, ◌≤◌}
use mathlib.Core.Bool.{Bool, true, false, ◌||◌, false≢true}
use mathlib.Core.List.{List, [], ◌∷◌, ◌++◌}
use mathlib.Core.Path.{◌≡◌, refl, sym, ap, subst, ◌∙◌}
use native.Mathlib.Omega.{arith}
use borrow.Author.Tests.{lt-ltb, le-ltb, le-leb, ltb-true, leb-true, ne_eqb, eqb-false}
use lib.Dec.{ltb, leb, eqb}
use Rattle.laws.proofs.Pick.{by_bool, by_lt}
use Rattle.laws.proofs.Tests.{both}
use Rattle.digits.specs.declared.Digit.{Digit}
use Rattle.digits.specs.declared.Digit.TheVariants.{Capital, Small}
use Rattle.digits.specs.Digits.{digit_of, capital_of}
use Rattle.digits.specs.Characters.{up_from, digit_characters, is_one, is_digit, spelt, OneToOne}
use Rattle.digits.proofs.Laws.{Tells, digit_tells, digit_capital}

-- ---- The 22 characters

one_of : (c : ℕ) (xs ys : List ℕ) → is_one c (xs ++ ys) ≡ is_one c xs || is_one c ys
one_of c [] ys = refl
one_of c (x ∷ xs) ys = when (eqb c x) (one_of c xs ys)
  where
    when : (t : Bool) → is_one c (xs ++ ys) ≡ is_one c xs || is_one c ys
        → t || is_one c (xs ++ ys) ≡ (t || is_one c xs) || is_one c ys
    when true p = refl
    when false p = p

below : (c a n : ℕ) → c < a → is_one c (up_from a n) ≡ false
below c a zero h = refl
below c a (suc n) h =
    rw (ne_eqb c a (λ (p : c ≡ a). absurd (omega (arith, h, p)))) (below c (suc a) n (omega (arith, h)))

above : (c a n : ℕ) → a + n ≤ c → is_one c (up_from a n) ≡ false
above c a zero h = refl
above c a (suc n) h =
    rw (ne_eqb c a (λ (p : c ≡ a). absurd (omega (arith, h, p)))) (above c (suc a) n (omega (arith, h)))

inside : (c a n : ℕ) → a ≤ c → c < a + n → is_one c (up_from a n) ≡ true
inside c a zero h k = absurd (omega (arith, h, k))
inside c a (suc n) h k = when (eqb c a) refl (λ q. inside c (suc a) n q (omega (arith, k)))
  where
    when : (t : Bool) → eqb c a ≡ t → (suc a ≤ c → is_one c (up_from (suc a) n) ≡ true)
        → t || is_one c (up_from (suc a) n) ≡ true
    when true e f = refl
    when false e f = let q = eqb-false c a e in f (omega (arith, h, q))

-- c is one of the 22 if it is a number, a capital or a small letter of them.
parts : (c : ℕ) (a b d : Bool) → is_one c (up_from 48 10) ≡ a → is_one c (up_from 65 6) ≡ b → is_one c (up_from 97 6) ≡ d
    → is_one c digit_characters ≡ a || (b || d)
parts c a b d p q r =
    one_of c (up_from 48 10) (up_from 65 6 ++ up_from 97 6)
    ∙ λ i. p i || ((one_of c (up_from 65 6) (up_from 97 6) ∙ λ j. q j || r j) i)

twenty_two : (c : ℕ) → is_digit (digit_of c) ≡ is_one c digit_characters
twenty_two c =
    by_lt Is c 48 _ _
    (λ h. sym (parts c _ _ _ (below c 48 10 h) (below c 65 6 (omega arith)) (below c 97 6 (omega arith))))
    λ h1. by_lt Is c 58 _ _
    (λ h. sym (parts c _ _ _ (inside c 48 10 h1 h) (below c 65 6 (omega arith)) (below c 97 6 (omega arith))))
    λ h2. by_lt Is c 65 _ _ (λ h. sym (parts c _ _ _ (above c 48 10 h2) (below c 65 6 h) (below c 97 6 (omega arith))))
    λ h3. by_lt Is c 71 _ _
    (λ h. sym (parts c _ _ _ (above c 48 10 h2) (inside c 65 6 h3 h) (below c 97 6 (omega arith))))
    λ h4. by_lt Is c 97 _ _ (λ h. sym (parts c _ _ _ (above c 48 10 h2) (above c 65 6 h4) (below c 97 6 h)))
    λ h5. by_lt Is c 103 _ _ (λ h. sym (parts c _ _ _ (above c 48 10 h2) (above c 65 6 h4) (inside c 97 6 h5 h)))
    λ h6. sym (parts c _ _ _ (above c 48 10 h2) (above c 65 6 h4) (above c 97 6 h6))
  where
    Is : Option Digit → Type 0
    Is d = is_digit d ≡ is_one c digit_characters

-- ---- The character of a value and a case

own_character : (c : ℕ) (d : Option Digit) → Tells c d → is_digit d ≡ true → spelt d ≡ c ∷ []
own_character c None t e = absurd (false≢true e)
own_character c (Some (Capital v)) t e = rw (lt-ltb v 16 t.0) (ap (λ (x : ℕ). x ∷ []) t.1)
own_character c (Some (Small v)) t e =
    rw (le-leb 10 v t.1.0, lt-ltb v 16 t.0) (ap (λ (x : ℕ). x ∷ []) t.1.1)

pub own : (c : ℕ) → is_digit (digit_of c) ≡ true → spelt (digit_of c) ≡ c ∷ []
own c e = own_character c (digit_of c) (digit_tells c) e

-- A small letter reads as its value.
digit_small : (v : ℕ) → 10 ≤ v → v < 16 → digit_of (87 + v) ≡ Some (Small v)
digit_small v h k =
    let a : 48 ≤ 87 + v = omega arith in
    let b : 58 ≤ 87 + v = omega arith in
    let d : 65 ≤ 87 + v = omega arith in
    let f : 71 ≤ 87 + v = omega arith in
    let g : 97 ≤ 87 + v = omega arith in
    let l : 87 + v < 103 = omega arith in
    let e : 87 + v - 87 ≡ v = omega arith in
    rw (le-ltb _ _ a, le-ltb _ _ b, le-ltb _ _ d, le-ltb _ _ f, le-ltb _ _ g, lt-ltb _ _ l) (ap (λ (x : ℕ). Some (Small x)) e)

no_character : (c : ℕ) → ◌≡◌ {A = List ℕ} [] (c ∷ []) → ⊥
no_character c e = let z : ◌≡◌ {A = ℕ} 0 1 = cc in omega arith

same_character : (x c : ℕ) → ◌≡◌ {A = List ℕ} (x ∷ []) (c ∷ []) → x ≡ c
same_character x c e = cc

read_back : (d : Option Digit) (c : ℕ) → spelt d ≡ c ∷ [] → digit_of c ≡ d
read_back None c e = absurd (no_character c e)
read_back (Some (Capital v)) c p =
    by_bool (λ (l : List ℕ). l ≡ c ∷ [] → digit_of c ≡ Some (Capital v)) (ltb v 16) _ _
    (λ h e. ap digit_of (sym (same_character (capital_of v) c e)) ∙ digit_capital v (ltb-true v 16 h))
    (λ h e. absurd (no_character c e)) p
read_back (Some (Small v)) c p =
    by_bool (λ (l : List ℕ). l ≡ c ∷ [] → digit_of c ≡ Some (Small v)) _ _ _
    (λ h e. let b = both (leb 10 v) (ltb v 16) h in
    ap digit_of (sym (same_character (87 + v) c e)) ∙ digit_small v (leb-true 10 v b.0) (ltb-true v 16 b.1))
    (λ h e. absurd (no_character c e)) p

apart : (c e : ℕ) → is_digit (digit_of c) ≡ true → digit_of c ≡ digit_of e → c ≡ e
apart c e p q =
    same_character c e (sym (own c p) ∙ (ap spelt q ∙ own e (subst (λ (d : Option Digit). is_digit d ≡ true) q p)))

pub one_to_one : OneToOne
one_to_one = record {
  digits = twenty_two;
  own = own;
  one = read_back;
  apart = apart;
}
