-- No answer to a reply has a line feed within it. Assumes nothing.
use Rattle.std.proofs.Common.{Option, None, Some}
use Prim.Native.Nat.{ℕ, ◌%◌}
use mathlib.Core.Bool.{Bool, true, cond}
use mathlib.Core.List.{List, [], ◌∷◌, ◌++◌}
use mathlib.Core.Path.{◌≡◌, refl}
use lib.Dec.{ltb, eqb}
use lib.IntN.{ℤ, nat_abs}
use Rattle.laws.specs.Axes.{is_minus}
use Rattle.laws.specs.Bits.{bit}
use Rattle.digits.specs.Digits.{end_byte, capital_of, six_of}
use Rattle.block.specs.Block.{ident_chars}
use Rattle.line.specs.Codes.{code, five, second}
use Rattle.host.specs.Writer.{ident_fits}
use Rattle.reader.specs.Reader as F
use Rattle.reader.specs.Reader.{Figures, read_of}
use Rattle.reader.specs.Blocks.{Spelt}
use Rattle.reader.proofs.OnlyBlocks.{blocks_read}
use Rattle.machine.specs.Calls.{chars}
use Rattle.text.specs.Decimal.{decimal_of, sign_text}
use Rattle.sentences.specs.Sentences.{sentences, states, sentence_text, turned_text, state_text}
use Rattle.readout.specs.Readout.{
  verdict_text,
  direction_text,
  travel_text,
  motion_text,
  bit_text,
  bits_text,
  status_text,
  start_text,
  order_text,
  echo_text,
  position_text,
  inputs_text,
  switch_text,
  ident_text,
  origin_text,
  figure_text,
  block_text,
}
use Rattle.wording.proofs.OneLineLaws.{is_line, Clean, one, join, either, row, decimal, sign, capital, six, named}
use Rattle.wording.proofs.WordLineLaws.{turned}

-- ---- replies

origin : (s : ℕ) (ident : Option ℕ) → ident_fits ident ≡ true → Clean (origin_text s ident)
unfolding is_line
origin s ident e =
    join (switch_text s) (ident_text ident)
    (either (eqb s 0) [] (chars " (switch " ++ (capital_of s ∷ chars ")")) refl
    (one (capital_of s) (chars ")") (capital s) refl)) (known ident e)
  where
    known : (i : Option ℕ) → ident_fits i ≡ true → is_line (ident_text i) ≡ true
    known None e = refl
    known (Some c) e = join (ident_chars (Some c)) (chars ")") (named (Some c) e) refl

verdict : (n : ℕ) → Clean (verdict_text n)
verdict n = either (eqb n 0) (sentence_text 0) (turned_text n) (row 0 sentences) (turned n)

travel : (axis : ℕ) (minus : Bool) (t : ℕ) → Clean (travel_text axis minus t)
unfolding is_line
travel axis minus t =
    join (decimal_of axis) (direction_text minus ++ decimal_of t) (decimal axis)
    (join (direction_text minus) (decimal_of t) (either minus (chars " minus ") (chars " plus ") refl refl) (decimal t))

a_bit : (on : Bool) (place : ℕ) → Clean (bit_text on place)
unfolding is_line
a_bit on place = either on (chars ", " ++ state_text place) [] (row place states) refl

bits : (v : ℕ) → Clean (bits_text v)
bits v =
    let e = bit_text (bit v 6) 7 in
    let d = bit_text (bit v 5) 6 ++ e in
    let c = bit_text (bit v 4) 5 ++ d in
    let b = bit_text (bit v 3) 4 ++ c in
    join (bit_text (bit v 2) 3) b (a_bit (bit v 2) 3)
    (join (bit_text (bit v 3) 4) c (a_bit (bit v 3) 4)
    (join (bit_text (bit v 4) 5) d (a_bit (bit v 4) 5)
    (join (bit_text (bit v 5) 6) e (a_bit (bit v 5) 6) (a_bit (bit v 6) 7))))

motion : (v : ℕ) → Clean (motion_text v)
motion v =
    either (bit v 1) (state_text 2) (cond (bit v 0) (state_text 1) (state_text 0)) (row 2 states)
    (either (bit v 0) (state_text 1) (state_text 0) (row 1 states) (row 0 states))

status : (v : ℕ) → Clean (status_text v)
unfolding is_line
status v =
    join (decimal_of v) (chars ": " ++ (motion_text v ++ bits_text v)) (decimal v)
    (join (motion_text v) (bits_text v) (motion v) (bits v))

start : (d : ℕ) → Clean (start_text d)
unfolding is_line
start d =
    let a = cond (ltb d 8) [] (chars " after dwell") in
    join (decimal_of (d % 8)) a (decimal (d % 8)) (either (ltb d 8) [] (chars " after dwell") refl refl)

order : (n : ℕ) → Clean (order_text n)
unfolding is_line
order n =
    let i = cond (eqb (code n) 14) (chars "high " ++ six_of (five n)) [] in
    let h = cond (eqb (code n) 13) (chars "low " ++ six_of (five n)) i in
    let g = cond (eqb (code n) 12) (chars "carry on") h in
    let f = cond (eqb (code n) 11) (chars "reset") g in
    let e = cond (eqb (code n) 10) (chars "clear") f in
    either (eqb (code n) 8) (start_text (second n)) (cond (eqb (code n) 9) (chars "stop") e) (start (second n))
    (either (eqb (code n) 9) (chars "stop") e refl
    (either (eqb (code n) 10) (chars "clear") f refl
    (either (eqb (code n) 11) (chars "reset") g refl
    (either (eqb (code n) 12) (chars "carry on") h refl
    (either (eqb (code n) 13) (chars "low " ++ six_of (five n)) i (six (five n))
    (either (eqb (code n) 14) (chars "high " ++ six_of (five n)) [] (six (five n)) refl))))))

echo : (n : ℕ) → Clean (echo_text n)
unfolding is_line
echo n = join (sentence_text 0) (chars ": " ++ order_text n) (row 0 sentences) (order n)

position : (axis : ℕ) (z : ℤ) → Clean (position_text axis z)
unfolding is_line
position axis z =
    join (decimal_of axis) (chars " " ++ sign_text (is_minus z) (nat_abs z)) (decimal axis) (sign (is_minus z) (nat_abs z))

inputs : (w : ℕ) → Clean (inputs_text w)
unfolding is_line
inputs w = six w

figure : (s : List ℕ) (f : Figures) → Spelt s f → Clean (figure_text f)
figure s (F.refused n) h = turned n
figure s (F.verdict d n i) h = join (verdict_text n) (origin_text d i) (verdict n) (origin d i h.fits.0.named)
figure s (F.travelled d k minus t i) h =
    join (travel_text k minus t) (origin_text d i) (travel k minus t) (origin d i h.fits.0.named)
figure s (F.status d v i) h = join (status_text v) (origin_text d i) (status v) (origin d i h.fits.0.named)
figure s (F.echo d n i) h = join (echo_text n) (origin_text d i) (echo n) (origin d i h.fits.0.named)
figure s (F.placed d k z i) h =
    join (position_text k z) (origin_text d i) (position k z) (origin d i h.fits.0.named)
figure s (F.inputs d w i) h = join (inputs_text w) (origin_text d i) (inputs w) (origin d i h.fits.0.named)

pub block : (l : List ℕ) → Clean (block_text l)
unfolding block_text
block l = figure (l ++ (end_byte ∷ [])) (read_of (l ++ (end_byte ∷ []))) (blocks_read.only (l ++ (end_byte ∷ [])))
