-- Laws of a digit and of one digit more: its value is below 16, a capital and its value undo each other, and a number
-- that grows by a digit is taken apart again. Assumes nothing.
use Rattle.std.proofs.Common.{Option, Some, None}
use Prim.Native.Nat.{ℕ, ◌+◌, ◌-◌, ◌*◌, ◌%◌, ◌<◌, ◌≤◌}
use mathlib.Core.Bool.{Bool, true, false, cond}
use mathlib.Core.List.{List, [], ◌∷◌}
use mathlib.Core.Path.{◌≡◌, refl, sym, ap, subst, ◌∙◌}
use native.Mathlib.Omega.{arith}
use native.Mathlib.Nat.{lt_of_lt_of_le}
use borrow.Author.Tests.{lt-ltb, le-ltb}
use lib.ListN.{length, get_or, drop}
use Rattle.std.proofs.lemmas.List.{drop_more}
use Rattle.laws.proofs.Pick.{by_lt}
pub use Rattle.digits.proofs.TellsLaws.{Tells, digit_tells}
use Rattle.digits.specs.declared.Digit.{Digit}
use Rattle.digits.specs.declared.Digit.TheVariants.{Capital, Small}
use Rattle.digits.specs.declared.Number.{Number}
use Rattle.digits.specs.Digits.{digit_of, capital_of, join_digit, join_of, read_on, Under, numbered}

-- ---- values

-- The capital of a value reads as that value.
pub digit_capital : (v : ℕ) → v < 16 → digit_of (capital_of v) ≡ Some (Capital v)
digit_capital v h =
    by_lt (λ (x : ℕ). digit_of x ≡ Some (Capital v)) (v % 16) 10 _ _ (λ k. low k) (λ k. high k)
  where
    low : v % 16 < 10 → digit_of (48 + v % 16) ≡ Some (Capital v)
    low k =
        let a : 48 ≤ 48 + v % 16 = omega arith in
        let b : 48 + v % 16 < 58 = omega arith in
        let e : 48 + v % 16 - 48 ≡ v = omega arith in
        rw (le-ltb _ _ a, lt-ltb _ _ b) (ap (λ (x : ℕ). Some (Capital x)) e)

    high : 10 ≤ v % 16 → digit_of (55 + v % 16) ≡ Some (Capital v)
    high k =
        let a : 48 ≤ 55 + v % 16 = omega arith in
        let b : 58 ≤ 55 + v % 16 = omega arith in
        let d : 65 ≤ 55 + v % 16 = omega arith in
        let f : 55 + v % 16 < 71 = omega arith in
        let e : 55 + v % 16 - 55 ≡ v = omega arith in
        rw (le-ltb _ _ a, le-ltb _ _ b, le-ltb _ _ d, lt-ltb _ _ f) (ap (λ (x : ℕ). Some (Capital x)) e)

-- ---- numbers

under_digit : (b n : ℕ) (small : Bool) (c : ℕ) (d : Option Digit) → Tells c d → n < b → Under (b * 16) (join_digit n small d)
under_digit b n small c None t h = omega arith
under_digit b n small c (Some (Capital v)) t h = let k = t.0 in omega arith
under_digit b n small c (Some (Small v)) t h = let k = t.0 in omega arith

-- A number below b, and one digit more: below 16 times b.
pub under_join : (b : ℕ) (x : Option Number) (c : ℕ) → Under b x → Under (b * 16) (join_of x c)
under_join b None c h = omega arith
under_join b (Some x) c h = under_digit b x.value x.small c (digit_of c) (digit_tells c) h

-- One digit more, as a reader met it: r is what x and c gave.
pub under_step : (b : ℕ) (x r : Option Number) (c : ℕ) → r ≡ join_of x c → Under b x → Under (b * 16) r
under_step b x r c e h = subst (Under (b * 16)) (sym e) (under_join b x c h)

pub under_more : (a b : ℕ) (x : Option Number) → a ≤ b → Under a x → Under b x
under_more a b None h k = k
under_more a b (Some x) h k = lt_of_lt_of_le k h

-- Once a character was no digit, no number is read.
pub read_none : (cs : List ℕ) → read_on None cs ≡ None
read_none [] = refl
read_none (c ∷ cs) = read_none cs

-- A character that is no digit ends the reading of the number n with none.
pub read_ended : (cs : List ℕ) (k : ℕ) (x : Number) (n r : Option Number) → k < length cs
    → n ≡ read_on (Some x) (drop k cs) → r ≡ join_of (Some x) (get_or cs k 0) → r ≡ None → n ≡ None
read_ended cs k x n r h e p q =
    e ∙ (ap (read_on (Some x)) (drop_more cs k 0 h)
    ∙ (ap (λ (y : Option Number). read_on y (drop (k + 1) cs)) (sym p ∙ q) ∙ read_none (drop (k + 1) cs)))

-- The value that was read, or 0, and whether a letter was small.
abbrev pub value_in : Option Number → ℕ
value_in None = 0
value_in (Some x) = x.value

abbrev pub small_in : Option Number → Bool
small_in None = false
small_in (Some x) = x.small

-- One digit more, taken apart: what was read before it, the digit, and the number.
pub record Joined (x : Option Number) (c n : ℕ) : Type 0 where
  pub front : ℕ
  pub value : ℕ
  pub read : x ≡ numbered front false
  pub low : value < 16
  pub char : capital_of value ≡ c
  pub whole : n ≡ front * 16 + value

not_value : (n : ℕ) → None ≡ numbered n false → ⊥
not_value n q = let z : ◌≡◌ {A = ℕ} 0 1 = cc in omega arith

joined_digit : (m : ℕ) (s : Bool) (c n : ℕ) (d : Option Digit) → Tells c d → join_digit m s d ≡ numbered n false
    → Joined (numbered m s) c n
joined_digit m s c n None t e = absurd (not_value n e)
joined_digit m s c n (Some (Capital v)) t e = record {
  front = m;
  value = v;
  read = ap (numbered m) flag;
  low = t.0;
  char = t.1;
  whole = size;
}
  where
    flag : s ≡ false
    flag = ap small_in e

    size : n ≡ m * 16 + v
    size = sym (ap value_in e)
joined_digit m s c n (Some (Small v)) t e = absurd apart
  where
    differ : true ≡ false
    differ = ap small_in e

    apart : ⊥
    apart = let z : ◌≡◌ {A = ℕ} 0 1 = ap (λ (b : Bool). cond b 0 1) differ in omega arith

pub joined : (x : Option Number) (c n : ℕ) → join_of x c ≡ numbered n false → Joined x c n
joined None c n e = absurd (not_value n e)
joined (Some x) c n e = joined_digit x.value x.small c n (digit_of c) (digit_tells c) e
