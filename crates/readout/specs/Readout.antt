-- Replies to words (docs/PROTOCOL.md, "From words"): a line that is one reply block, its line feed in the place of 0D,
-- and what the desk prints to it.
use Rattle.std.specs.Prelude.{ℕ, ◌%◌, Bool, true, false, cond, List, [], ◌∷◌, ◌++◌, ltb, eqb, ℤ, nat_abs, get_or, Option, None, Some}
use Rattle.laws.specs.Axes.{is_minus}
use Rattle.laws.specs.Bits.{bit}
use Rattle.digits.specs.Digits.{end_byte, digit_of, capital_of, six_of}
use Rattle.digits.specs.declared.Digit.{Digit}
use Rattle.digits.specs.declared.Digit.TheVariants.{Capital, Small}
use Rattle.line.specs.Codes.{code, five, second}
use Rattle.reply.specs.Reply.{letter_u, letter_s, letter_small_s, letter_r}
use Rattle.machine.specs.Calls.{chars}
use Rattle.reader.specs.Reader as F
use Rattle.reader.specs.Reader.{Figures, read_of}
use Rattle.text.specs.Decimal.{decimal_of, sign_text}
use Rattle.sentences.specs.Sentences.{sentence_text, turned_text, state_text}

-- ---- Which lines are blocks: they begin with U, S, s or R and then 0-9 or A-F

abbrev pub is_letter : ℕ → Bool
is_letter c =
    cond (eqb c letter_u) true
    (cond (eqb c letter_s) true
    (cond (eqb c letter_small_s) true
    (eqb c letter_r)))

-- A small letter is no switch digit.
abbrev pub is_switch : Option Digit → Bool
is_switch None = false
is_switch (Some (Capital v)) = true
is_switch (Some (Small v)) = false

abbrev pub is_block : List ℕ → Bool
is_block l = cond (is_letter (get_or l 0 0)) (is_switch (digit_of (get_or l 1 0))) false

-- ---- U: accepted, or the number with its sentence

abbrev pub verdict_text : ℕ → List ℕ
verdict_text n = cond (eqb n 0) (sentence_text 0) (turned_text n)

-- ---- S 0-4: the axis, the direction, the travel

abbrev pub direction_text : Bool → List ℕ
direction_text minus = cond minus (chars " minus ") (chars " plus ")

abbrev pub travel_text : ℕ → Bool → ℕ → List ℕ
travel_text axis minus travel = chars "travel " ++ (decimal_of axis ++ (direction_text minus ++ decimal_of travel))

-- ---- S 6: bit 1, else bit 0, else neither; then each other bit that is set

abbrev pub motion_text : ℕ → List ℕ
motion_text status = cond (bit status 1) (state_text 2) (cond (bit status 0) (state_text 1) (state_text 0))

abbrev pub bit_text : Bool → ℕ → List ℕ
bit_text on place = cond on (chars ", " ++ state_text place) []

abbrev pub bits_text : ℕ → List ℕ
bits_text status =
    bit_text (bit status 2) 3
    ++ (bit_text (bit status 3) 4
    ++ (bit_text (bit status 4) 5
    ++ (bit_text (bit status 5) 6
    ++ bit_text (bit status 6) 7)))

abbrev pub status_text : ℕ → List ℕ
status_text status = chars "status " ++ (decimal_of status ++ (chars ": " ++ (motion_text status ++ bits_text status)))

-- ---- S of an order, n being its six digits: the order in words, free digits left out

-- Q 8: the second digit is the master, from 8 on of a start after the dwell.
abbrev pub start_text : ℕ → List ℕ
start_text d = chars "start " ++ (decimal_of (d % 8) ++ cond (ltb d 8) [] (chars " after dwell"))

abbrev pub order_text : ℕ → List ℕ
order_text n =
    cond (eqb (code n) 8) (start_text (second n))
    (cond (eqb (code n) 9) (chars "stop")
    (cond (eqb (code n) 10) (chars "clear")
    (cond (eqb (code n) 11) (chars "reset")
    (cond (eqb (code n) 12) (chars "carry on")
    (cond (eqb (code n) 13) (chars "low " ++ six_of (five n))
    (cond (eqb (code n) 14) (chars "high " ++ six_of (five n))
    []))))))

abbrev pub echo_text : ℕ → List ℕ
echo_text n = sentence_text 0 ++ (chars ": " ++ order_text n)

-- ---- s: the axis, the position; R: the inputs

abbrev pub position_text : ℕ → ℤ → List ℕ
position_text axis z = chars "position " ++ (decimal_of axis ++ (chars " " ++ sign_text (is_minus z) (nat_abs z)))

abbrev pub inputs_text : ℕ → List ℕ
inputs_text n = chars "inputs " ++ six_of n

-- ---- Whose block it is: the switch digit where it is not 0, and the identification where there is one

abbrev pub switch_text : ℕ → List ℕ
switch_text s = cond (eqb s 0) [] (chars " (switch " ++ (capital_of s ∷ chars ")"))

abbrev pub ident_text : Option ℕ → List ℕ
ident_text None = []
ident_text (Some c) = chars " (as " ++ (c ∷ chars ")")

abbrev pub origin_text : ℕ → Option ℕ → List ℕ
origin_text s ident = switch_text s ++ ident_text ident

-- ---- What the reader says, in words

abbrev pub figure_text : Figures → List ℕ
figure_text (F.refused n) = turned_text n
figure_text (F.verdict s n ident) = verdict_text n ++ origin_text s ident
figure_text (F.travelled s axis minus travel ident) = travel_text axis minus travel ++ origin_text s ident
figure_text (F.status s bits ident) = status_text bits ++ origin_text s ident
figure_text (F.echo s digits ident) = echo_text digits ++ origin_text s ident
figure_text (F.placed s axis z ident) = position_text axis z ++ origin_text s ident
figure_text (F.inputs s word ident) = inputs_text word ++ origin_text s ident

-- The line is read with 0D behind it.
unfoldable pub block_text : List ℕ → List ℕ
block_text l = figure_text (read_of (l ++ (end_byte ∷ [])))
