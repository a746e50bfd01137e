-- Each word stands at its place in the table of words, computed, and so at no other: the first place whose word a word
-- is is the last one. Assumes nothing.
use Rattle.std.proofs.Common.{Some}
use Rattle.std.specs.List.{find, range_with_len}
use Rattle.std.specs.Option.{unwrap_or}
use Rattle.std.proofs.lemmas.Slice.Eq.{bytes_eq-Decides}
use Prim.Native.Nat.{ℕ, zero, suc, ◌+◌, ◌<◌}
use native.Mathlib.Omega.{arith}
use borrow.Author.Count.{below_more}
use borrow.Author.Tests.{eqb-true, eqb-false}
use mathlib.Core.Bool.{Bool, true, false, cond, false≢true}
use mathlib.Core.List.{List}
use mathlib.Core.Path.{◌≡◌, refl, sym, ap, ◌∙◌}
use lib.Dec.{eqb}
use Rattle.laws.proofs.Pick.{by_bool}
use Rattle.receiver.specs.Receiver.{before}
use Rattle.text.specs.Parts.{part, behind, same}
use Rattle.text.proofs.PartLaws.{equal_same}
use Rattle.sentences.specs.Sentences.{keywords, is_word, place_in, place_of}
use Rattle.sentences.specs.Promises.{Places}

pub places : Places
unfolding before behind same keywords place_in
places = record {
  start_is = refl;
  travel_is = refl;
  position_is = refl;
  dwell_is = refl;
  watch_is = refl;
  polarity_is = refl;
  low_is = refl;
  high_is = refl;
  outputs_is = refl;
  speed_is = refl;
  slope_is = refl;
  distance_is = refl;
  stop_is = refl;
  status_is = refl;
  everything_is = refl;
  inputs_is = refl;
  clear_is = refl;
  reset_is = refl;
  carry_is = refl;
  opening_is = refl;
  master_is = refl;
  ticks_is = refl;
  trial_is = refl;
}

-- ---- no other place

-- Whether the first n words stand at their places.
unfoldable placed : ℕ → Bool
placed zero = true
placed (suc n) = cond (eqb (place_of (part 10 n keywords)) n) (placed n) false

all_placed : placed 23 ≡ true
unfolding before behind same keywords place_in placed
all_placed = refl

each_placed : (n : ℕ) → placed n ≡ true → (k : ℕ) → k < n → place_of (part 10 k keywords) ≡ k
unfolding placed
each_placed zero e k h = absurd (omega (arith, h))
each_placed (suc n) e k h = when (eqb (place_of (part 10 n keywords)) n) refl (λ r. each_placed n r k) e
  where
    when : (t : Bool) → eqb (place_of (part 10 n keywords)) n ≡ t
        → (placed n ≡ true → k < n → place_of (part 10 k keywords) ≡ k)
        → cond t (placed n) false ≡ true → place_of (part 10 k keywords) ≡ k
    when true q f r =
        by_bool (λ (x : ℕ). place_of (part 10 k keywords) ≡ k) (eqb k n) 0 0
        (λ s. let z : k ≡ n = eqb-true k n s in rw z (eqb-true _ n q))
        (λ s. f r (omega (arith, h, eqb-false k n s)))
    when false q f r = absurd (false≢true r)

-- The word at a place is found there.
word_is : (w : List ℕ) (k : ℕ) → k < 23 → is_word k w ≡ true → place_of w ≡ k
word_is w k h e =
    let q : part 10 k keywords ≡ w = (bytes_eq-Decides (part 10 k keywords) w).0 (equal_same (part 10 k keywords) w ∙ e) in
    ap place_of (sym q) ∙ each_placed 23 all_placed k h

-- What is the word of none of the first n places is found at none of them.
word_none : (w : List ℕ) (n : ℕ) → ((k : ℕ) → k < n → is_word k w ≡ false) → place_in n w ≡ 23
unfolding place_in
word_none w zero h = refl
word_none w (suc n) h =
    let e : is_word n w ≡ false = h n (omega arith) in
    rw e (word_none w n (λ k l. h k (omega (arith, l))))

-- The first place from s on.
first_from : (w : List ℕ) (n s : ℕ) → s + n ≡ 23 → ((k : ℕ) → k < s → is_word k w ≡ false)
    → unwrap_or (find (λ k. is_word k w) (range_with_len s n)) 23 ≡ place_of w
first_from w zero s e h = sym (word_none w 23 (λ k l. h k (omega (arith, l, e))))
first_from w (suc n) s e h = when (is_word s w) refl (first_from w n (s + 1) (omega (arith, e)))
  where
    when : (t : Bool) → is_word s w ≡ t
        → (((k : ℕ) → k < s + 1 → is_word k w ≡ false)
        → unwrap_or (find (λ k. is_word k w) (range_with_len (s + 1) n)) 23 ≡ place_of w)
        → unwrap_or (cond t (Some s) (find (λ k. is_word k w) (range_with_len (s + 1) n))) 23 ≡ place_of w
    when true q f = sym (word_is w s (omega (arith, e)) q)
    when false q f = f (below_more (λ k. is_word k w ≡ false) s h q)

pub first_is : (w : List ℕ) → unwrap_or (find (λ k. is_word k w) (range_with_len 0 23)) 23 ≡ place_of w
first_is w = first_from w 23 0 refl (λ k h. absurd (omega (arith, h)))
