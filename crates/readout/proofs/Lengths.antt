-- No answer to a block is long: each part of it by its most bytes, the numbers in it being in their ranges.
-- Assumes nothing.
use Rattle.std.proofs.Common.{Option, None, Some}
use Prim.Native.Nat.{ℕ, ◌+◌, ◌%◌, ◌≤◌, ◌<◌}
use native.Mathlib.Omega.{arith}
use mathlib.Core.Bool.{Bool, true, false, cond}
use mathlib.Core.List.{List, [], ◌∷◌, ◌++◌}
use mathlib.Core.Path.{◌≡◌}
use borrow.Author.Tests.{ltb-false}
use lib.Dec.{ltb, eqb}
use lib.IntN.{ℤ, pos, negsuc, nat_abs}
use lib.ListN.{length}
use Rattle.laws.specs.Axes.{is_minus}
use Rattle.laws.specs.Bits.{bit}
use Rattle.laws.proofs.Pick.{by_bool, by_eq}
use Rattle.digits.specs.Digits.{end_byte, six_of}
use Rattle.line.specs.Codes.{code, second}
use Rattle.receiver.specs.Receiver.{before}
use Rattle.machine.specs.Calls.{chars}
use Rattle.machine.specs.Starts.{outside}
use Rattle.reader.specs.Reader as F
use Rattle.reader.specs.Reader.{Figures, read_of}
use Rattle.reader.specs.Blocks.{VerdictFits, Spelt}
use Rattle.reader.proofs.OnlyBlocks.{blocks_read}
use Rattle.reader.proofs.VerdictLaws.{turned_most}
use Rattle.text.specs.Decimal.{decimal_of, sign_text}
use Rattle.text.specs.Parts.{behind}
use Rattle.text.proofs.DecimalLaws.{decimal_ten}
use Rattle.text.proofs.LengthLaws.{joined_length}
use Rattle.sentences.specs.Sentences.{states, sentence_text, turned_text, state_text}
use Rattle.sentences.proofs.Lengths.{sentence_length, turned_length, state_length}
use Rattle.readout.specs.Readout.{
  verdict_text,
  direction_text,
  travel_text,
  motion_text,
  bit_text,
  bits_text,
  status_text,
  start_text,
  order_text,
  echo_text,
  position_text,
  inputs_text,
  switch_text,
  ident_text,
  origin_text,
  figure_text,
  block_text,
}
use Rattle.readout.specs.Promises.{ShortAnswers}

-- At most n bytes.
abbrev Most : ℕ → List ℕ → Type 0
Most n l = length l ≤ n

-- ---- whose block it is

switch_length : (s : ℕ) → length (switch_text s) ≤ 11
switch_length s = by_bool (Most 11) (eqb s 0) _ _ (λ _. omega arith) (λ _. omega arith)

ident_length : (i : Option ℕ) → length (ident_text i) ≤ 7
ident_length None = omega arith
ident_length (Some c) = omega arith

origin_length : (s : ℕ) (i : Option ℕ) → length (origin_text s i) ≤ 18
origin_length s i = joined_length (switch_text s) (ident_text i) 11 7 (switch_length s) (ident_length i)

-- ---- what it says

verdict_length : (n : ℕ) (i : Option ℕ) → VerdictFits n i → length (verdict_text n) ≤ 100
verdict_length n i f =
    by_eq (Most 100) n 0 (sentence_text 0) (turned_text n) (λ _. omega (arith, sentence_length 0))
    (λ (q : n ≡ 0 → ⊥). turned_length n (omega (arith, turned_most n (f q).high)))

direction_length : (minus : Bool) → length (direction_text minus) ≤ 7
direction_length true = omega arith
direction_length false = omega arith

travel_length : (axis : ℕ) (minus : Bool) (t : ℕ) → axis < 4294967296 → t < 4294967296
    → length (travel_text axis minus t) ≤ 34
travel_length axis minus t h k =
    joined_length (chars "travel ") (decimal_of axis ++ (direction_text minus ++ decimal_of t)) 7 27 (omega arith)
    (joined_length (decimal_of axis) (direction_text minus ++ decimal_of t) 10 17 (decimal_ten axis h)
    (joined_length (direction_text minus) (decimal_of t) 7 10 (direction_length minus) (decimal_ten t k)))

motion_length : (v : ℕ) → length (motion_text v) ≤ 40
motion_length v =
    by_bool (Most 40) (bit v 1) (state_text 2) _ (λ _. state_length 2)
    (λ _. by_bool (Most 40) (bit v 0) (state_text 1) (state_text 0) (λ _. state_length 1) (λ _. state_length 0))

bit_length : (on : Bool) (k n : ℕ) → length (state_text k) ≤ n → length (bit_text on k) ≤ 2 + n
bit_length true k n h = joined_length (chars ", ") (state_text k) 2 n (omega arith) h
bit_length false k n h = omega arith

bits_length : (v : ℕ) → length (bits_text v) ≤ 110
unfolding before behind states
bits_length v =
    joined_length (bit_text (bit v 2) 3) _ 14 96 (bit_length (bit v 2) 3 12 (omega arith))
    (joined_length (bit_text (bit v 3) 4) _ 34 62 (bit_length (bit v 3) 4 32 (omega arith))
    (joined_length (bit_text (bit v 4) 5) _ 20 42 (bit_length (bit v 4) 5 18 (omega arith))
    (joined_length (bit_text (bit v 5) 6) (bit_text (bit v 6) 7) 19 23 (bit_length (bit v 5) 6 17 (omega arith))
    (bit_length (bit v 6) 7 21 (omega arith)))))

status_length : (v : ℕ) → v < 4294967296 → length (status_text v) ≤ 169
status_length v h =
    joined_length (chars "status ") (decimal_of v ++ (chars ": " ++ (motion_text v ++ bits_text v))) 7 162 (omega arith)
    (joined_length (decimal_of v) (chars ": " ++ (motion_text v ++ bits_text v)) 10 152 (decimal_ten v h)
    (joined_length (chars ": ") (motion_text v ++ bits_text v) 2 150 (omega arith)
    (joined_length (motion_text v) (bits_text v) 40 110 (motion_length v) (bits_length v))))

start_length : (d : ℕ) → length (start_text d) ≤ 28
start_length d =
    joined_length (chars "start ") (decimal_of (d % 8) ++ cond (ltb d 8) [] (chars " after dwell")) 6 22 (omega arith)
    (joined_length (decimal_of (d % 8)) (cond (ltb d 8) [] (chars " after dwell")) 10 12
    (decimal_ten (d % 8) (omega arith))
    (by_bool (Most 12) (ltb d 8) [] (chars " after dwell") (λ _. omega arith) (λ _. omega arith)))

order_length : (n : ℕ) → length (order_text n) ≤ 28
unfolding six_of
order_length n =
    by_bool (Most 28) (eqb (code n) 8) _ _ (λ _. start_length (second n))
    λ _. by_bool (Most 28) (eqb (code n) 9) _ _ (λ _. omega arith)
    λ _. by_bool (Most 28) (eqb (code n) 10) _ _ (λ _. omega arith)
    λ _. by_bool (Most 28) (eqb (code n) 11) _ _ (λ _. omega arith)
    λ _. by_bool (Most 28) (eqb (code n) 12) _ _ (λ _. omega arith)
    λ _. by_bool (Most 28) (eqb (code n) 13) _ _ (λ _. omega arith)
    λ _. by_bool (Most 28) (eqb (code n) 14) _ _ (λ _. omega arith) (λ _. omega arith)

echo_length : (n : ℕ) → length (echo_text n) ≤ 100
echo_length n =
    joined_length (sentence_text 0) (chars ": " ++ order_text n) 70 30 (sentence_length 0)
    (joined_length (chars ": ") (order_text n) 2 28 (omega arith) (order_length n))

sign_length : (minus : Bool) (n : ℕ) → n < 4294967296 → length (sign_text minus n) ≤ 11
sign_length true n h = omega (arith, decimal_ten n h)
sign_length false n h = omega (arith, decimal_ten n h)

size_low : (z : ℤ) → outside z ≡ false → nat_abs z < 4294967296
size_low (pos n) e = omega (arith, ltb-false 524287 n e)
size_low (negsuc n) e = omega (arith, ltb-false 524287 n e)

position_length : (axis : ℕ) (z : ℤ) → axis < 4294967296 → outside z ≡ false → length (position_text axis z) ≤ 31
position_length axis z h e =
    joined_length (chars "position ") (decimal_of axis ++ (chars " " ++ sign_text (is_minus z) (nat_abs z))) 9 22
    (omega arith)
    (joined_length (decimal_of axis) (chars " " ++ sign_text (is_minus z) (nat_abs z)) 10 12 (decimal_ten axis h)
    (joined_length (chars " ") (sign_text (is_minus z) (nat_abs z)) 1 11 (omega arith)
    (sign_length (is_minus z) (nat_abs z) (size_low z e))))

inputs_length : (w : ℕ) → length (inputs_text w) ≤ 13
unfolding six_of
inputs_length w = omega arith

-- ---- all of it

-- What a block says, and whose it is.
owned : (l : List ℕ) (n s : ℕ) (i : Option ℕ) → n ≤ 182 → length l ≤ n → length (l ++ origin_text s i) ≤ 200
owned l n s i h k = omega (arith, h, joined_length l (origin_text s i) n 18 k (origin_length s i))

figure_length : (s : List ℕ) (f : Figures) → Spelt s f → length (figure_text f) ≤ 200
figure_length s (F.refused n) t = omega (arith, turned_length n (omega (arith, t)))
figure_length s (F.verdict d n i) t = owned (verdict_text n) 100 d i (omega arith) (verdict_length n i t.fits.1)
figure_length s (F.travelled d k minus v i) t =
    owned (travel_text k minus v) 34 d i (omega arith)
    (travel_length k minus v (omega (arith, t.fits.1.0)) (omega (arith, t.fits.1.1)))
figure_length s (F.status d v i) t =
    owned (status_text v) 169 d i (omega arith) (status_length v (omega (arith, t.fits.1)))
figure_length s (F.echo d n i) t = owned (echo_text n) 100 d i (omega arith) (echo_length n)
figure_length s (F.placed d k z i) t =
    owned (position_text k z) 31 d i (omega arith) (position_length k z (omega (arith, t.fits.1.0)) t.fits.1.1)
figure_length s (F.inputs d w i) t = owned (inputs_text w) 13 d i (omega arith) (inputs_length w)

block_length : (l : List ℕ) → length (block_text l) ≤ 200
unfolding block_text
block_length l =
    figure_length (l ++ (end_byte ∷ [])) (read_of (l ++ (end_byte ∷ []))) (blocks_read.only (l ++ (end_byte ∷ [])))

pub fits : ShortAnswers
fits = record { most = block_length }
