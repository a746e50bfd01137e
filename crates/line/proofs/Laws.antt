-- Laws of the line judged: a character at a place, and each of the checks 4 to 7 met or passed. Assumes nothing.
use Rattle.line.specs.declared.Accepted.{Accepted}
use Rattle.line.specs.declared.Refusal.{Refusal}
use Rattle.line.specs.declared.Refusal.TheVariants as N
use Rattle.std.proofs.Common.{Result, Err}
use Prim.Native.Nat.{ℕ, zero, suc, ◌≤◌, ◌<◌}
use native.Mathlib.Omega.{arith}
use native.Mathlib.Nat.{le_of_suc-le-suc}
use mathlib.Core.Bool.{Bool, true, false, not}
use mathlib.Core.List.{List, [], ◌∷◌}
use mathlib.Core.Path.{◌≡◌, refl, sym, ap, ◌∙◌}
use lib.ListN.{length, take, get_or, get_or-eq_default}
use lib.Seq.{get_or-take}
use borrow.Author.Tests.{lt-ltb, le-ltb, not-true, not-false}
use Rattle.digits.specs.Digits.{digit_of, number_of}
use Rattle.line.specs.Line.{
  char_at,
  is_letter,
  is_switch,
  is_ident,
  is_number,
  value_of,
  digit_chars,
  digit_count,
  turned_away,
  judge_value,
  judge_of,
}

-- ---- a character

pub char_absent : (l : List ℕ) (i : ℕ) → length l ≤ i → 48 ≡ char_at l i
char_absent l i h = sym (get_or-eq_default l 48 h)

-- Of a place that is there any default gives the same.
pub any_default : {A : Type 0} (l : List A) (i : ℕ) (d e : A) → i < length l → get_or l i d ≡ get_or l i e
any_default [] i d e h = absurd (omega arith)
any_default (x ∷ l) zero d e h = refl
any_default (x ∷ l) (suc i) d e h = any_default l i d e (le_of_suc-le-suc h)

pub char_held : (l : List ℕ) (n i : ℕ) → i < n → i < length l → get_or l i 0 ≡ char_at (take n l) i
char_held l n i h k = any_default l i 0 48 k ∙ sym (get_or-take n l i 48 h)

-- ---- what a test answered: r is its answer, x what it was asked about

pub was_false : {r : Bool} {x y : ℕ} (f : ℕ → Bool) → r ≡ f x → x ≡ y → not r ≡ true → f y ≡ false
was_false {r} f e p h = sym (e ∙ ap f p) ∙ not-true r h

pub was_true : {r : Bool} {x y : ℕ} (f : ℕ → Bool) → r ≡ f x → x ≡ y → not r ≡ false → f y ≡ true
was_true {r} f e p h = sym (e ∙ ap f p) ∙ not-false r h

-- ---- the checks in order

pub too_short : (l : List ℕ) → length l < 2 → Err N.Length ≡ judge_of l
unfolding judge_of
too_short l h = rw (lt-ltb (length l) 2 h)

pub too_long : (l : List ℕ) → 9 < length l → Err N.Length ≡ judge_of l
unfolding judge_of
too_long l h =
    let k : 2 ≤ length l = omega arith in
    rw (le-ltb (length l) 2 k, lt-ltb 9 (length l) h)

module _ (l : List ℕ) (low : 2 ≤ length l) (high : length l ≤ 9) where
  pub wrong_letter : is_letter (char_at l 0) ≡ false → Err N.Letter ≡ judge_of l
  unfolding judge_of
  wrong_letter h = rw (le-ltb (length l) 2 low, le-ltb 9 (length l) high, h)

  pub wrong_switch : is_letter (char_at l 0) ≡ true → is_switch (char_at l 1) ≡ false → Err N.Switch ≡ judge_of l
  unfolding judge_of
  wrong_switch h k = rw (le-ltb (length l) 2 low, le-ltb 9 (length l) high, h, k)

  pub wrong_ident : is_letter (char_at l 0) ≡ true → is_switch (char_at l 1) ≡ true
      → is_ident (digit_of (char_at l 8)) ≡ false
      → Err N.Digits ≡ judge_of l
  unfolding judge_of
  wrong_ident h k m = rw (le-ltb (length l) 2 low, le-ltb 9 (length l) high, h, k, m)

  pub then_digits : {r : Result Accepted Refusal} → is_letter (char_at l 0) ≡ true → is_switch (char_at l 1) ≡ true
      → is_ident (digit_of (char_at l 8)) ≡ true
      → r ≡ turned_away N.Digits (not (is_number (number_of (digit_chars l))))
      (judge_value (char_at l 0) (digit_count l) (value_of (number_of (digit_chars l))))
      → r ≡ judge_of l
  unfolding judge_of
  then_digits h k m e = rw (le-ltb (length l) 2 low, le-ltb 9 (length l) high, h, k, m) e

-- ---- the checks 8 to 10

pub refuse : {r t : Bool} (n : Refusal) (rest : Result Accepted Refusal) → r ≡ t → not r ≡ true → Err n ≡ turned_away n (not t) rest
refuse {r} {t} n rest e h = rw (← e, not-true r h)

pub pass : {r t : Bool} {x rest : Result Accepted Refusal} (n : Refusal) → r ≡ t → not r ≡ false → x ≡ rest → x ≡ turned_away n (not t) rest
pass {r} {t} n e h p = rw (← e, not-false r h) p
