-- No answer to a line of words is long: by what is printed for what the words mean. Assumes nothing.
use Rattle.std.proofs.Common.{Option, Some, None, Ok, Err}
use Prim.Native.Nat.{ℕ, ◌≤◌, ◌<◌}
use native.Mathlib.Omega.{arith}
use mathlib.Core.Bool.{Bool, true, false, cond, ◌&&◌, false≢true}
use mathlib.Core.List.{List, ◌++◌}
use mathlib.Core.Path.{◌≡◌}
use borrow.Author.Tests.{leb-true}
use lib.Dec.{ltb, leb, eqb}
use lib.ListN.{length, length-append}
use Rattle.laws.proofs.Pick.{by_bool, by_lt}
use Rattle.digits.specs.Digits.{end_byte, six_of}
use Rattle.line.specs.Ranges.{is_within}
use Rattle.block.specs.Block.{front_of}
use Rattle.host.specs.Master.{master_of}
use Rattle.host.proofs.MasterLaws.{master_longest}
use Rattle.host.specs.Watch.{watch_off}
use Rattle.host.specs.Writer.{has_line, line_of}
use Rattle.host.specs.declared.Request.{Request}
use Rattle.machine.specs.Calls.{chars}
use Rattle.text.specs.Decimal.{decimal_of}
use Rattle.text.specs.Parts.{part}
use Rattle.text.proofs.DecimalLaws.{decimal_ten}
use Rattle.text.proofs.LengthLaws.{first_short}
use Rattle.numerals.specs.Numerals.{spelled_of}
use Rattle.sentences.specs.Sentences.{turned_text}
use Rattle.sentences.proofs.Lengths.{turned_length, question_length}
use Rattle.phrases.specs.declared.meaning.NoCommand.TheVariants as N
use Rattle.phrases.specs.Meanings.{Meant, word, words, meant_by}
use Rattle.phrases.specs.Phrases.{
  is_silent,
  unsilenced,
  named_of,
  body_of,
  line_text,
  request_text,
  command_text,
  nearest_text,
  opening_text,
  number_at,
  are_distances,
  distances_of,
  master_text,
  tick_text,
  tick_line_text,
  ticks_text,
  trial_line_text,
  tried_text,
  trial_text,
  words_text,
  overlong_text,
}
use Rattle.phrases.proofs.PhraseLaws.{line_most}

-- ---- texts of at most 200 bytes

unfoldable Short : List ℕ → Type 0
Short x = length x ≤ 200

short : (x : List ℕ) → length x ≤ 200 → Short x
unfolding Short
short x h = h

most : (x : List ℕ) → Short x → length x ≤ 200
unfolding Short
most x h = h

-- A choice between texts.
either_short : (t : Bool) (x y : List ℕ) → Short x → Short y → Short (cond t x y)
either_short true x y p q = p
either_short false x y p q = q

turned_most : (n : ℕ) → n < 4294967296 → Short (turned_text n)
turned_most n h = short (turned_text n) (omega (arith, turned_length n h))

nearest_most : (l : List ℕ) → Short (nearest_text l)
nearest_most l = short (nearest_text l) (question_length (word 0 (body_of l)))

line_short : (r : Request) → Short (line_text r)
line_short r =
    either_short (has_line r) (part end_byte 0 (line_of r)) (turned_text 19)
    (short (part end_byte 0 (line_of r)) (omega (arith, first_short end_byte (line_of r), line_most r)))
    (turned_most 19 (omega arith))

request_most : (silent : Bool) (ident : Option ℕ) (l : List ℕ) (m : Meant) → Short (request_text silent ident l m)
request_most silent ident l (Err N.Misspelled) = nearest_most l
request_most silent ident l (Ok c) = line_short (record { silent = silent; command = c; ident = ident })
request_most silent ident l (Err N.NotExact) = turned_most 21 (omega arith)

command_most : (l : List ℕ) → Short (command_text l)
unfolding command_text
command_most l =
    request_most (is_silent l) (named_of (unsilenced l)).ident l (meant_by (body_of l))

opening_most : (l : List ℕ) → Short (opening_text l)
opening_most l =
    either_short (eqb (words l) 1) (part end_byte 0 watch_off) (nearest_text l)
    (short (part end_byte 0 watch_off) (omega (arith, first_short end_byte watch_off))) (nearest_most l)

axis_most : (l : List ℕ) → master_of l < 4294967296
axis_most l = let a : master_of l < 5 = (master_longest l).axis in omega (arith, a)

master_most : (l : List ℕ) → Short (master_text l)
master_most l =
    let d = decimal_of (master_of (distances_of l)) in
    let e : length d ≤ 10 = decimal_ten (master_of (distances_of l)) (axis_most (distances_of l)) in
    either_short (are_distances l) (chars "master " ++ d) (nearest_text l)
    (short (chars "master " ++ d) (omega (arith, length-append (chars "master ") d)))
    (nearest_most l)

tick_most : (n w : ℕ) → n ≤ 1000000 → Short (tick_text n w)
unfolding six_of
tick_most n w h =
    let d = decimal_of n in
    let e : length d ≤ 10 = decimal_ten n (omega arith) in
    let r = chars " " ++ six_of w in
    either_short (ltb 16777215 w) (turned_text 3) (chars "T " ++ (d ++ r)) (turned_most 3 (omega arith))
    (short (chars "T " ++ (d ++ r)) (omega (arith, length-append d r)))

ticks_by_most : (l : List ℕ) (n : ℕ) (s : Option ℕ) → Short (tick_line_text l n s)
ticks_by_most l n None = nearest_most l
ticks_by_most l n (Some w) =
    by_bool Short (is_within n 1 1000000) (tick_text n w) (nearest_text l)
    (λ e. tick_most n w (at_most e)) (λ e. nearest_most l)
  where
    both : (a b : Bool) → a && b ≡ true → b ≡ true
    both true b e = e
    both false b e = absurd (false≢true e)

    at_most : is_within n 1 1000000 ≡ true → n ≤ 1000000
    at_most e = leb-true n 1000000 (both (leb 1 n) (leb n 1000000) e)

ticks_most : (l : List ℕ) → Short (ticks_text l)
ticks_most l =
    search (
      either_short,
      ticks_by_most l (number_at l 1) (Some 0),
      ticks_by_most l (number_at l 1) (spelled_of 16 (word 2 l)),
      nearest_most l,
    )

-- Two numbers that are small, six digits, and what stands between them.
trial_line_most : (k n w : ℕ) → Short (trial_line_text k n w)
unfolding six_of
trial_line_most k n w =
    let m = decimal_of k in
    let d = decimal_of n in
    let r = chars " " ++ six_of w in
    let a = chars "D " ++ (m ++ (chars " " ++ (d ++ r))) in
    either_short (ltb 16777215 w) (turned_text 3) _ (turned_most 3 (omega arith))
    (by_lt Short 1000000 n (turned_text 25) (cond (ltb 4 k) (turned_text 10) a) (λ _. turned_most 25 (omega arith))
    (λ (g : n ≤ 1000000). by_lt Short 4 k (turned_text 10) a (λ _. turned_most 10 (omega arith))
    (λ (h : k ≤ 4). let x : length m ≤ 10 = decimal_ten k (omega arith) in
    let y : length d ≤ 10 = decimal_ten n (omega arith) in
    short a (omega (arith, length-append m (chars " " ++ (d ++ r)), length-append d r)))))

tried_most : (l : List ℕ) (k n w : Option ℕ) → Short (tried_text l k n w)
tried_most l None n w = nearest_most l
tried_most l (Some k) None w = nearest_most l
tried_most l (Some k) (Some n) None = nearest_most l
tried_most l (Some k) (Some n) (Some w) = trial_line_most k n w

trial_most : (l : List ℕ) → Short (trial_text l)
trial_most l = search (either_short, tried_most, nearest_most l)

words_short : (l : List ℕ) → Short (words_text l)
unfolding words_text
words_short l =
    search (either_short, opening_most l, master_most l, ticks_most l, trial_most l, command_most l) depth 15

pub words_most : (l : List ℕ) → length (words_text l) ≤ 200
words_most l = most (words_text l) (words_short l)

pub overlong_most : (l : List ℕ) → length (overlong_text l) ≤ 200
unfolding overlong_text
overlong_most l = question_length (word 0 (unsilenced (front_of l 100)))
