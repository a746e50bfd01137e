-- Lines that differ in the case of letters alone are judged alike (specs/Case.antt). Assumes nothing.
use Rattle.line.specs.declared.Accepted.{Accepted}
use Rattle.line.specs.declared.Refusal.{Refusal}
use Rattle.line.specs.declared.Refusal.TheVariants as N
use Rattle.std.proofs.Common.{Option, Some, None, Result}
use Prim.Native.Nat.{ℕ, ◌-◌, ◌≤◌, ◌<◌, min}
use mathlib.Core.Bool.{Bool, false, not, ◌||◌}
use mathlib.Core.List.{List, [], ◌∷◌, map}
use mathlib.Core.Path.{◌≡◌, refl, sym, ap, ◌∙◌}
use native.Mathlib.Omega.{arith}
use borrow.Author.Tests.{lt-ltb, le-ltb}
use lib.Dec.{ltb}
use Rattle.laws.proofs.Pick.{by_lt}
use Rattle.digits.specs.declared.Digit.{Digit}
use Rattle.digits.specs.declared.Digit.TheVariants.{Capital, Small}
use Rattle.digits.specs.declared.Number.{Number}
use Rattle.digits.specs.Digits.{digit_of, join_digit, join_of, read_on, number_of, numbered}
use Rattle.digits.specs.Characters.{is_digit}
use Rattle.line.specs.Line.{char_at, is_letter, is_switch, is_ident, is_number, value_of, digit_chars, turned_away, judge_value, judge_of}
use Rattle.line.specs.Case.{raised, CaseIgnored}

-- ---- A digit

-- Without its case, told as a capital.
plain : Option Digit → Option Digit
plain None = None
plain (Some (Capital v)) = Some (Capital v)
plain (Some (Small v)) = Some (Capital v)

-- Below a, from a to f, and beyond, a digit without its case is that of the capital.
low : (c : ℕ) → c < 97 → plain (digit_of c) ≡ digit_of c
unfolding plain
low c h =
    by_lt P c 48 _ _ (λ _. refl) λ _. by_lt P c 58 _ _ (λ _. refl) λ _. by_lt P c 65 _ _ (λ _. refl)
    λ _. by_lt P c 71 _ _ (λ _. refl) λ _. by_lt P c 97 _ _ (λ _. refl) (λ k. absurd (omega (arith, h, k)))
  where
    P : Option Digit → Type 0
    P d = plain d ≡ d

mid : (c : ℕ) → 97 ≤ c → c < 103 → plain (digit_of c) ≡ digit_of (c - 32)
unfolding plain
mid c h k =
    let a1 : 48 ≤ c = omega (arith, h) in
    let a2 : 58 ≤ c = omega (arith, h) in
    let a3 : 65 ≤ c = omega (arith, h) in
    let a4 : 71 ≤ c = omega (arith, h) in
    let b1 : 48 ≤ c - 32 = omega (arith, h) in
    let b2 : 58 ≤ c - 32 = omega (arith, h) in
    let b3 : 65 ≤ c - 32 = omega (arith, h) in
    let b4 : c - 32 < 71 = omega (arith, k) in
    let e : c - 87 ≡ c - 32 - 55 = omega (arith, h) in
    rw (
      le-ltb _ _ a1,
      le-ltb _ _ a2,
      le-ltb _ _ a3,
      le-ltb _ _ a4,
      le-ltb _ _ h,
      lt-ltb _ _ k,
      le-ltb _ _ b1,
      le-ltb _ _ b2,
      le-ltb _ _ b3,
      lt-ltb _ _ b4,
    ) (ap (λ (x : ℕ). Some (Capital x)) e)

high : (c : ℕ) → 103 ≤ c → plain (digit_of c) ≡ digit_of c
unfolding plain
high c h =
    let a1 : 48 ≤ c = omega (arith, h) in
    let a2 : 58 ≤ c = omega (arith, h) in
    let a3 : 65 ≤ c = omega (arith, h) in
    let a4 : 71 ≤ c = omega (arith, h) in
    let a5 : 97 ≤ c = omega (arith, h) in
    rw (le-ltb _ _ a1, le-ltb _ _ a2, le-ltb _ _ a3, le-ltb _ _ a4, le-ltb _ _ a5, le-ltb _ _ h) refl

plain_raised : (c : ℕ) → plain (digit_of c) ≡ digit_of (raised c)
plain_raised c =
    by_lt (λ (x : ℕ). plain (digit_of c) ≡ digit_of x) c 97 _ _ (low c)
    (λ h. by_lt (λ (x : ℕ). plain (digit_of c) ≡ digit_of x) c 103 _ _ (mid c h) (high c))

is_plain : (d : Option Digit) → is_digit (plain d) ≡ is_digit d
unfolding plain
is_plain None = refl
is_plain (Some (Capital v)) = refl
is_plain (Some (Small v)) = refl

same_ident : (c e : ℕ) → raised c ≡ raised e → is_ident (digit_of c) ≡ is_ident (digit_of e)
same_ident c e q =
    sym (is_plain (digit_of c))
    ∙ (ap is_digit (plain_raised c ∙ (ap digit_of q ∙ sym (plain_raised e))) ∙ is_plain (digit_of e))

-- ---- A number, without the case of its letters

told : Option Number → Option Number
told None = None
told (Some x) = numbered x.value false

told_digit : (n : ℕ) (s : Bool) (d : Option Digit) → told (join_digit n s d) ≡ join_digit n false (plain d)
unfolding told plain
told_digit n s None = refl
told_digit n s (Some (Capital v)) = refl
told_digit n s (Some (Small v)) = when s
  where
    when : (t : Bool) → told (join_digit n t (Some (Small v))) ≡ join_digit n false (Some (Capital v))
    when t = refl

told_join : (m : Option Number) (c : ℕ) → told (join_of m c) ≡ join_of (told m) (raised c)
unfolding told
told_join None c = refl
told_join (Some x) c = told_digit x.value x.small (digit_of c) ∙ ap (join_digit x.value false) (plain_raised c)

told_on : (m : Option Number) (cs : List ℕ) → told (read_on m cs) ≡ read_on (told m) (map raised cs)
told_on m [] = refl
told_on m (c ∷ cs) = told_on (join_of m c) cs ∙ ap (λ (x : Option Number). read_on x (map raised cs)) (told_join m c)

same_told : (cs es : List ℕ) → map raised cs ≡ map raised es → told (number_of cs) ≡ told (number_of es)
unfolding number_of told
same_told cs es q =
    told_on (numbered 0 false) cs ∙ (ap (read_on (numbered 0 false)) q ∙ sym (told_on (numbered 0 false) es))

told_number : (m : Option Number) → is_number (told m) ≡ is_number m
unfolding told
told_number None = refl
told_number (Some x) = refl

told_value : (m : Option Number) → value_of (told m) ≡ value_of m
unfolding told
told_value None = refl
told_value (Some x) = refl

-- ---- A line

-- The judgement by what it looks at.
judge_by : ℕ → ℕ → ℕ → Bool → Bool → ℕ → Result Accepted Refusal
judge_by size letter switch named digits n =
    turned_away N.Length (ltb size 2 || ltb 9 size)
    (turned_away N.Letter (not (is_letter letter))
    (turned_away N.Switch (not (is_switch switch))
    (turned_away N.Digits (not named || not digits)
    (judge_value letter (min 6 (size - 2)) n))))

pub case_ignored : CaseIgnored
unfolding judge_of judge_by
case_ignored cs es a =
    λ i. judge_by (a.size i) (a.letter i) (a.switch i) (ninth i) (digits i) (value i)
  where
    ninth : is_ident (digit_of (char_at cs 8)) ≡ is_ident (digit_of (char_at es 8))
    ninth = same_ident (char_at cs 8) (char_at es 8) (a.others 8 (omega arith) (omega arith))

    six : map raised (digit_chars cs) ≡ map raised (digit_chars es)
    six = λ i. a.others 2 (omega arith) (omega arith) i ∷ a.others 3 (omega arith) (omega arith) i
        ∷ a.others 4 (omega arith) (omega arith) i ∷ a.others 5 (omega arith) (omega arith) i
        ∷ a.others 6 (omega arith) (omega arith) i ∷ a.others 7 (omega arith) (omega arith) i ∷ []

    number : told (number_of (digit_chars cs)) ≡ told (number_of (digit_chars es))
    number = same_told (digit_chars cs) (digit_chars es) six

    digits : is_number (number_of (digit_chars cs)) ≡ is_number (number_of (digit_chars es))
    digits =
        sym (told_number (number_of (digit_chars cs))) ∙ (ap is_number number ∙ told_number (number_of (digit_chars es)))

    value : value_of (number_of (digit_chars cs)) ≡ value_of (number_of (digit_chars es))
    value =
        sym (told_value (number_of (digit_chars cs))) ∙ (ap value_of number ∙ told_value (number_of (digit_chars es)))
