-- The printed T line as the bench program reads it: the decimal digits of a number from 1 to 1,000,000 are read as that
-- number, and they are at most seven. Assumes nothing.
use Rattle.std.proofs.Common.{Option, Some}
use Prim.Native.Nat.{ℕ, zero, suc, ◌+◌, ◌-◌, ◌*◌, ◌/◌, ◌%◌, ◌≤◌, ◌<◌}
use native.Mathlib.Omega.{arith}
use mathlib.Core.Bool.{Bool, false}
use mathlib.Core.List.{List, [], ◌∷◌, ◌++◌}
use mathlib.Core.Path.{◌≡◌, refl, ap, ◌∙◌}
use borrow.Author.Tests.{le-leb, le-ltb, ne_eqb}
use lib.ListN.{length, get_or, take, drop, length-append}
use lib.Seq.{take-append_seam, drop-append-add, get_or-append_seam}
use Rattle.laws.proofs.Pick.{by_lt}
use Rattle.digits.specs.Digits.{six_of, number_of, numbered}
use Rattle.digits.proofs.Six.{six_number}
use Rattle.text.specs.Decimal.{decimal_of}
use Rattle.text.proofs.DecimalLaws.{decimal_one, decimal_more, more_length}
use Rattle.session.specs.Asked.{join_of, read_on, count_of, between, last_six, ticks_by, asked_of}
use Rattle.numerals.specs.Numerals.{spelled_of}
use Rattle.sentences.specs.Places as K
use Rattle.sentences.specs.Sentences.{place_of}
use Rattle.phrases.specs.Meanings.{word, words}
use Rattle.phrases.specs.Phrases.{number_at, tick_text, words_text}
use Rattle.phrases.specs.Promises.{TickLine}

-- ---- The digits read

-- A number and one digit more.
join_is : (m v : ℕ) → v < 10 → 1 ≤ m * 10 + v → m * 10 + v ≤ 1000000 → join_of (Some m) (48 + v) ≡ Some (m * 10 + v)
join_is m v h l k =
    let e : 48 + v - 48 ≡ v = omega arith in
    let a : 48 ≤ 48 + v = omega arith in
    let b : 48 + v ≤ 57 = omega arith in
    let z : (m * 10 + v ≡ 0 → ⊥) = λ (q : m * 10 + v ≡ 0). omega arith in
    rw (e, le-ltb _ _ a, le-ltb _ _ b, ne_eqb _ _ z, le-ltb _ _ k)

-- One character more behind those read.
read_last : (cs : List ℕ) (s : Option ℕ) (c : ℕ) → read_on s (cs ++ (c ∷ [])) ≡ join_of (read_on s cs) c
unfolding read_on
read_last [] s c = refl
read_last (x ∷ cs) s c = read_last cs (join_of s x) c

count_last : (cs : List ℕ) (c n : ℕ) → count_of cs ≡ Some n → count_of (cs ++ (c ∷ [])) ≡ join_of (count_of cs) c
unfolding count_of
count_last [] c n h = cc
count_last (x ∷ cs) c n h = read_last (x ∷ cs) (Some 0) c

count_one : (n : ℕ) → n < 10 → 1 ≤ n → count_of ((48 + n) ∷ []) ≡ Some n
unfolding count_of read_on
count_one n h l = join_is 0 n h (omega arith) (omega arith) ∙ ap Some (omega arith)

-- By a bound f above n: the digits of n are those of n / 10 and one more.
count_under : (f n : ℕ) → n < f → 1 ≤ n → n ≤ 1000000 → count_of (decimal_of n) ≡ Some n
count_under zero n l h k = absurd (omega arith)
count_under (suc f) n l h k =
    by_lt {A = ℕ} (λ (x : ℕ). count_of (decimal_of n) ≡ Some n) n 10 0 0
    (λ s. ap count_of (decimal_one n s) ∙ count_one n s h)
    (λ s. let e : count_of (decimal_of (n / 10)) ≡ Some (n / 10) =
    count_under f (n / 10) (omega arith) (omega arith) (omega arith) in
    ap count_of (decimal_more n s)
    ∙ (count_last (decimal_of (n / 10)) (48 + n % 10) (n / 10) e
    ∙ (ap (λ (m : Option ℕ). join_of m (48 + n % 10)) e
    ∙ (join_is (n / 10) (n % 10) (omega arith) (omega arith) (omega arith) ∙ ap Some (omega arith)))))

count_decimal : (n : ℕ) → 1 ≤ n → n ≤ 1000000 → count_of (decimal_of n) ≡ Some n
count_decimal n h k = count_under (suc n) n (omega arith) h k

-- ---- Their number

one_least : (n : ℕ) → 1 ≤ length (decimal_of n)
one_least n =
    by_lt {A = ℕ} (λ (x : ℕ). 1 ≤ length (decimal_of n)) n 10 0 0
    (λ s. rw (decimal_one n s) (omega arith)) (λ s. omega (arith, more_length n s))

-- Below ten times b there is at most one digit more than below b.
more_most : (b k : ℕ) → ((m : ℕ) → m < b → length (decimal_of m) ≤ k) → (n : ℕ) → n < 10 * b
    → length (decimal_of n) ≤ suc k
more_most b k f n h =
    by_lt {A = ℕ} (λ (x : ℕ). length (decimal_of n) ≤ suc k) n 10 0 0
    (λ s. rw (decimal_one n s) (omega arith))
    (λ s. let g : length (decimal_of (n / 10)) ≤ k = f (n / 10) (omega arith) in omega (arith, more_length n s))

one_most : (n : ℕ) → n < 10 → length (decimal_of n) ≤ 1
one_most n h = rw (decimal_one n h) (omega arith)

seven_most : (n : ℕ) → n < 10000000 → length (decimal_of n) ≤ 7
seven_most =
    more_most 1000000 6 (more_most 100000 5 (more_most 10000 4 (more_most 1000 3 (more_most 100 2
    (more_most 10 1 one_most)))))

-- ---- The line

-- T, a space, the digits ds, a space, the six digits ss.
module _ (ds ss : List ℕ) (least : 1 ≤ length ds) (most : length ds ≤ 7) (six : length ss ≡ 6) where
  abbrev cs : List ℕ
  cs = 84 ∷ 32 ∷ (ds ++ (32 ∷ ss))

  long : length cs ≡ length ds + 9
  long = omega (arith, length-append ds (32 ∷ ss))

  space : get_or cs (length cs - 7) 0 ≡ 32
  space =
      let e : length cs - 7 ≡ length (84 ∷ 32 ∷ ds) = omega (arith, long) in
      ap (λ (k : ℕ). get_or cs k 0) e ∙ get_or-append_seam (84 ∷ 32 ∷ ds) 32 ss 0

  middle : between cs ≡ ds
  middle =
      let e : length cs - 9 ≡ length ds = omega (arith, long) in
      ap (λ (k : ℕ). take k (ds ++ (32 ∷ ss))) e ∙ take-append_seam ds (32 ∷ ss)

  last : last_six cs ≡ ss
  last =
      let e : length cs - 6 ≡ length (84 ∷ 32 ∷ ds) + 1 = omega (arith, long) in
      ap (λ (k : ℕ). drop k cs) e ∙ drop-append-add (84 ∷ 32 ∷ ds) (32 ∷ ss) 1

  line_read : (n w : ℕ) (small : Bool) → count_of ds ≡ Some n → number_of ss ≡ numbered w small
      → asked_of cs ≡ ticks_by n (numbered w small)
  unfolding asked_of
  line_read n w small p q =
      rw (
        le-ltb (length cs) 10 (omega (arith, long)),
        le-ltb 16 (length cs) (omega (arith, long)),
        space,
        middle,
        last,
        p,
        q,
      )

tick_read : (n w : ℕ) → 1 ≤ n → n ≤ 1000000 → w < 16777216 → asked_of (tick_text n w) ≡ ticks_by n (numbered w false)
unfolding six_of
tick_read n w h k l =
    rw (le-ltb 16777215 w (omega arith))
    (line_read (decimal_of n) (six_of w) (one_least n) (seven_most n (omega arith)) refl n w false
    (count_decimal n h k) (six_number w l))

-- ---- A line of words

module _ (l : List ℕ) (first : place_of (word 0 l) ≡ K.ticks) (low : 1 ≤ number_at l 1)
    (high : number_at l 1 ≤ 1000000) where
  said_text : (w : ℕ) → words l ≡ 3 → spelled_of 16 (word 2 l) ≡ Some w → words_text l ≡ tick_text (number_at l 1) w
  unfolding words_text
  said_text w e s = rw (first, e, s, le-leb 1 (number_at l 1) low, le-leb (number_at l 1) 1000000 high)

  alone_text : words l ≡ 2 → words_text l ≡ tick_text (number_at l 1) 0
  unfolding words_text
  alone_text e = rw (first, e, le-leb 1 (number_at l 1) low, le-leb (number_at l 1) 1000000 high)

pub tick_line : TickLine
tick_line = record {
  asked = tick_read;
  said = λ l w f e low high s h. ap asked_of (said_text l f low high w e s) ∙ tick_read (number_at l 1) w low high h;
  alone = λ l f e low high. ap asked_of (alone_text l f low high e) ∙ tick_read (number_at l 1) 0 low high (omega arith);
}
