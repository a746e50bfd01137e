-- Laws of the form `T n hhhhhh`: a number read digit by digit, and the six last characters. Assumes nothing.
use Rattle.std.proofs.Common.{Option, Some, None}
use Prim.Native.Nat.{ℕ, zero, suc, ◌+◌, ◌-◌, ◌*◌, ◌≤◌, ◌<◌}
use native.Mathlib.Numerals.{add-one}
use native.Mathlib.Omega.{arith}
use mathlib.Core.Bool.{false, cond}
use mathlib.Core.List.{List, [], ◌∷◌}
use mathlib.Core.Path.{◌≡◌, refl, sym, ap, ◌∙◌}
use borrow.Author.Tests.{ltb-false}
use lib.Dec.{ltb, eqb}
use lib.ListN.{length, get_or, take, drop, drop_of_length-le}
use lib.Seq.{drop-cons}
use Rattle.laws.proofs.Pick.{by_bool, by_lt, on_lt, on_ge, on_eq, on_ne}
use Rattle.digits.specs.Digits.{number_of}
use Rattle.digits.specs.declared.Number.{Number}
use Rattle.session.specs.declared.asked.Ticks.{Ticks}
use Rattle.session.specs.Asked.{letter_t, join_of, read_on, count_of, between, last_six, asked_by, asked_of}

pub count_none : (cs : List ℕ) → length cs ≡ 0 → None ≡ count_of cs
unfolding count_of
count_none [] e = refl
count_none (c ∷ cs) e = absurd (omega arith)

pub count_first : (cs : List ℕ) → (length cs ≡ 0 → ⊥) → count_of cs ≡ read_on (Some 0) (drop 0 cs)
unfolding count_of
count_first [] h = absurd (h refl)
count_first (c ∷ cs) h = refl

read_failed : (cs : List ℕ) → read_on None cs ≡ None
unfolding read_on
read_failed [] = refl
read_failed (c ∷ cs) = read_failed cs

pub read_end : (s : Option ℕ) (i : ℕ) (cs : List ℕ) → length cs ≤ i → read_on s (drop i cs) ≡ s
unfolding read_on
read_end s i cs h = rw (drop_of_length-le cs h)

module _ (n i : ℕ) (cs : List ℕ) where
  pub read_next : (s : Option ℕ) → i < length cs → s ≡ join_of (Some n) (get_or cs i 0)
      → read_on (Some n) (drop i cs) ≡ read_on s (drop (i + 1) cs)
  unfolding read_on
  read_next s h e = rw (drop-cons cs i 0 h, add-one, e)

  pub read_none : (s : Option ℕ) → i < length cs → s ≡ join_of (Some n) (get_or cs i 0) → s ≡ None
      → read_on (Some n) (drop i cs) ≡ None
  read_none s h e z =
      read_next s h e ∙ ap (λ (x : Option ℕ). read_on x (drop (i + 1) cs)) z ∙ read_failed (drop (i + 1) cs)

-- No number that is read is over 1,000,000.
pub join_most : (n c v : ℕ) → Some v ≡ join_of (Some n) c → v ≤ 1000000
join_most n c v =
    by_bool P (ltb c 48) None _ none (λ _. by_bool P (ltb 57 c) None _ none (λ _. by_bool P (eqb m 0) None _ none
    (λ _. by_bool P (ltb 1000000 m) None (Some m) none some)))
  where
    m : ℕ
    m = n * 10 + (c - 48)

    P : Option ℕ → Type 0
    P r = Some v ≡ r → v ≤ 1000000

    none : {A : Type 0} → A → P None
    none e q = cc

    some : ltb 1000000 m ≡ false → P (Some m)
    some e q = let k : v ≡ m = cc in omega (arith, ltb-false 1000000 m e)

-- ---- the parts of a line

six_from : (cs : List ℕ) (k : ℕ) → k + 6 ≡ length cs
    → get_or cs k 0 ∷ get_or cs (suc k) 0 ∷ get_or cs (suc (suc k)) 0 ∷ get_or cs (suc (suc (suc k))) 0
    ∷ get_or cs (suc (suc (suc (suc k)))) 0 ∷ get_or cs (suc (suc (suc (suc (suc k))))) 0 ∷ []
    ≡ drop k cs
six_from [] k h = absurd (omega arith)
six_from (a ∷ cs) (suc k) h = six_from cs k (omega arith)
six_from (a ∷ b ∷ c ∷ d ∷ e ∷ f ∷ []) zero h = refl
six_from (a ∷ []) zero h = absurd (omega arith)
six_from (a ∷ b ∷ []) zero h = absurd (omega arith)
six_from (a ∷ b ∷ c ∷ []) zero h = absurd (omega arith)
six_from (a ∷ b ∷ c ∷ d ∷ []) zero h = absurd (omega arith)
six_from (a ∷ b ∷ c ∷ d ∷ e ∷ []) zero h = absurd (omega arith)
six_from (a ∷ b ∷ c ∷ d ∷ e ∷ f ∷ g ∷ cs) zero h = absurd (omega arith)

module _ (cs : List ℕ) where
  pub long_line : 16 < length cs → None ≡ asked_of cs
  unfolding asked_of
  long_line h = on_ge (length cs) 10 None _ _ (omega arith) (on_lt 16 (length cs) None _ _ h refl)

  pub short_line : length cs < 10 → None ≡ asked_of cs
  unfolding asked_of
  short_line h = on_lt (length cs) 10 None _ _ h refl

-- A line of 9 characters or more, of which the code takes a front, a middle and six last ones: it has no number where
-- it is too short.
module _ (cs : List ℕ) (low : 9 ≤ length cs) (high : length cs ≤ 16) where
  tested : {r : Option Ticks} → (length cs < 10 → r ≡ None)
      → r ≡ cond (eqb (get_or cs 0 0) letter_t) (cond (eqb (get_or cs 1 0) 32)
      (cond (eqb (get_or cs (length cs - 7) 0) 32) (asked_by (count_of (between cs)) (number_of (last_six cs))) None) None)
      None
      → r ≡ asked_of cs
  unfolding asked_of
  tested {r} s e =
      by_lt (λ (x : Option Ticks). r ≡ x) (length cs) 10 _ _ s (λ h. on_ge 16 (length cs) r _ _ high e)

  pub no_letter : (get_or cs 0 0 ≡ letter_t → ⊥) → None ≡ asked_of cs
  no_letter n = tested (λ _. refl) (on_ne (get_or cs 0 0) letter_t None _ _ n refl)

  pub no_first : get_or cs 0 0 ≡ letter_t → (get_or cs 1 0 ≡ 32 → ⊥) → None ≡ asked_of cs
  no_first a n =
      tested (λ _. refl) (on_eq (get_or cs 0 0) letter_t None _ _ a (on_ne (get_or cs 1 0) 32 None _ _ n refl))

  pub no_second : get_or cs 0 0 ≡ letter_t → get_or cs 1 0 ≡ 32 → (get_or cs (length cs - 7) 0 ≡ 32 → ⊥)
      → None ≡ asked_of cs
  no_second a b n =
      tested (λ _. refl)
      (on_eq (get_or cs 0 0) letter_t None _ _ a
      (on_eq (get_or cs 1 0) 32 None _ _ b
      (on_ne (get_or cs (length cs - 7) 0) 32 None _ _ n refl)))

  count_part : take (length cs - 7 - 2) (drop 2 cs) ≡ between cs
  count_part = let e : length cs - 7 - 2 ≡ length cs - 9 = omega arith in rw e

  none_between : length cs < 10 → count_of (between cs) ≡ None
  unfolding count_of
  none_between h = let e : length cs - 9 ≡ 0 = omega arith in rw e

  word_part : get_or cs (length cs - 6) 0 ∷ get_or cs (length cs - 5) 0 ∷ get_or cs (length cs - 4) 0
      ∷ get_or cs (length cs - 3) 0 ∷ get_or cs (length cs - 2) 0 ∷ get_or cs (length cs - 1) 0 ∷ []
      ≡ last_six cs
  word_part =
      (λ i. get_or cs (length cs - 6) 0 ∷ get_or cs (p i) 0 ∷ get_or cs (q i) 0 ∷ get_or cs (u i) 0 ∷ get_or cs (v i) 0
      ∷ get_or cs (x i) 0 ∷ [])
      ∙ six_from cs (length cs - 6) (omega arith)
    where
      p : length cs - 5 ≡ suc (length cs - 6)
      p = omega arith

      q : length cs - 4 ≡ suc (suc (length cs - 6))
      q = omega arith

      u : length cs - 3 ≡ suc (suc (suc (length cs - 6)))
      u = omega arith

      v : length cs - 2 ≡ suc (suc (suc (suc (length cs - 6))))
      v = omega arith

      x : length cs - 1 ≡ suc (suc (suc (suc (suc (length cs - 6)))))
      x = omega arith

  module _ (a : get_or cs 0 0 ≡ letter_t) (b : get_or cs 1 0 ≡ 32) (d : get_or cs (length cs - 7) 0 ≡ 32) where
    shaped : {r : Option Ticks} → r ≡ asked_by (count_of (between cs)) (number_of (last_six cs)) → r ≡ asked_of cs
    shaped {r} e =
        tested (λ h. e ∙ ap (λ (x : Option ℕ). asked_by x (number_of (last_six cs))) (none_between h))
        (on_eq (get_or cs 0 0) letter_t r _ _ a
        (on_eq (get_or cs 1 0) 32 r _ _ b
        (on_eq (get_or cs (length cs - 7) 0) 32 r _ _ d e)))

    pub no_count : (n : Option ℕ) → n ≡ count_of (take (length cs - 7 - 2) (drop 2 cs)) → n ≡ None → None ≡ asked_of cs
    no_count n p z =
        shaped
        (λ i. asked_by ((sym z ∙ p ∙ ap count_of count_part) i) (number_of (last_six cs)))

    pub line_asked : (r : Option Ticks) (n : Option ℕ) (w : Option Number)
        → n ≡ count_of (take (length cs - 7 - 2) (drop 2 cs))
        → w ≡ number_of (get_or cs (length cs - 6) 0 ∷ get_or cs (length cs - 5) 0 ∷ get_or cs (length cs - 4) 0
        ∷ get_or cs (length cs - 3) 0 ∷ get_or cs (length cs - 2) 0 ∷ get_or cs (length cs - 1) 0 ∷ [])
        → r ≡ asked_by n w → r ≡ asked_of cs
    line_asked r n w p q e =
        shaped (e ∙ λ i. asked_by ((p ∙ ap count_of count_part) i) ((q ∙ ap number_of word_part) i))
