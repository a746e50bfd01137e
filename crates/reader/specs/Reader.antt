-- The host's reader of one reply block (paper 01, "Lines", Replies; "Turned away" 20): what the bytes say, or 20 where
-- they are not a block of the forms under Replies with each field in its range.
use Rattle.std.specs.Prelude.{ℕ, ◌-◌, ◌%◌, Bool, true, false, cond, not, List, [], ◌∷◌, ltb, leb, eqb, ℤ, pos, negsuc, length, get_or, Option, None, Some}
use Rattle.digits.specs.Digits.{end_byte, top_bit, digit_of, number_of}
use Rattle.digits.specs.declared.Digit.{Digit}
use Rattle.digits.specs.declared.Digit.TheVariants.{Capital, Small}
use Rattle.digits.specs.declared.Number.{Number}
use Rattle.line.specs.Ranges.{is_within, is_axis, is_order, input_bits}
use Rattle.line.specs.Codes.{code, five, second}
use Rattle.reply.specs.Reply.{letter_u, letter_s, letter_small_s, letter_r, position_of}
use Rattle.host.specs.Writer.{ident_fits, is_absent}
use Rattle.reader.specs.declared.reading.Reading.{Reading}
use Rattle.reader.specs.declared.reading.Figure.{Figure}
use Rattle.reader.specs.declared.reading.Figure.TheVariants as F

-- What a block says in the paper's terms, each with the switch and the identification; or the number that turns it
-- away.
pub data Figures : Type 0 where
  -- not a block: 20
  refused : ℕ → Figures
  -- U: the number of a line turned away, 0 for an accepted setting
  verdict : ℕ → ℕ → Option ℕ → Figures
  -- S 0-4: the axis, the latest move's direction (true is minus), the travel
  travelled : ℕ → ℕ → Bool → ℕ → Option ℕ → Figures
  -- S 6
  status : ℕ → ℕ → Option ℕ → Figures
  -- other S: the six digits of the order
  echo : ℕ → ℕ → Option ℕ → Figures
  -- s 0-4: the axis, the position
  placed : ℕ → ℕ → ℤ → Option ℕ → Figures
  -- R: the inputs of the last tick (q 8), or of a W line's 2,500th
  inputs : ℕ → ℕ → Option ℕ → Figures

-- What a figure with this switch and this identification says; 20 where there is none.
abbrev pub says : ℕ → Option ℕ → Option Figure → Figures
says switch ident None = refused 20
says switch ident (Some (F.Verdict number)) = verdict switch number ident
says switch ident (Some (F.Travelled axis minus travel)) = travelled switch axis minus travel.0 ident
says switch ident (Some (F.Status bits)) = status switch bits ident
says switch ident (Some (F.Echo digits)) = echo switch digits ident
says switch ident (Some (F.Placed axis position)) = placed switch axis (position_of position) ident
says switch ident (Some (F.Inputs word)) = inputs switch word ident

-- The paper's number and values for each case of the reader's answer.
abbrev pub figures_of : Option Reading → Figures
figures_of None = refused 20
figures_of (Some r) = says r.switch r.ident (Some r.figure)

-- 20 where a test fails.
abbrev pub only_if : Bool → Figures → Figures
only_if holds figures = cond holds figures (refused 20)

-- ---- The fields, n being the six digits: the code and five digits after it

-- U: 000000 or 0000nn, nn 8 to 17, 26, or 4 to 7 with no identification.
abbrev pub is_verdict : ℕ → Option ℕ → Bool
is_verdict n ident =
    cond (eqb n 0) true
    (cond (is_within n 8 17) true
    (cond (eqb n 26) true
    (cond (is_within n 4 7) (is_absent ident)
    false)))

abbrev pub verdict_in : ℕ → ℕ → Option ℕ → Figures
verdict_in switch n ident = only_if (is_verdict n ident) (verdict switch n ident)

-- An order's digits: 8 with a master in the second digit, or 8 more; 9, A, B, C; D, E with input bits only.
abbrev pub is_echo : ℕ → Bool
is_echo n =
    cond (eqb (code n) 8) (is_axis (second n % 8))
    (cond (is_order (code n)) true
    (cond (is_within (code n) 13 14) (input_bits (five n))
    false))

-- S: 0-4 minus bit and travel; 6 status, bits 0 to 6; else an order's digits.
abbrev pub order_in : ℕ → ℕ → Option ℕ → Figures
order_in switch n ident =
    cond (is_axis (code n)) (travelled switch (code n) (leb top_bit (five n)) (five n % top_bit) ident)
    (cond (eqb (code n) 6) (only_if (ltb (five n) 128) (status switch (five n) ident))
    (only_if (is_echo n) (echo switch n ident)))

-- Five digits in 20-bit two's complement.
abbrev pub signed : ℕ → ℤ
signed v = cond (ltb v top_bit) (pos v) (negsuc (1048575 - v))

-- s: 0-4 position.
abbrev pub place_in : ℕ → ℕ → Option ℕ → Figures
place_in switch n ident = only_if (is_axis (code n)) (placed switch (code n) (signed (five n)) ident)

-- U, S, s or R.
unfoldable pub fields_in : ℕ → ℕ → ℕ → Option ℕ → Figures
fields_in letter switch n ident =
    cond (eqb letter letter_u) (verdict_in switch n ident)
    (cond (eqb letter letter_s) (order_in switch n ident)
    (cond (eqb letter letter_small_s) (place_in switch n ident)
    (cond (eqb letter letter_r) (inputs switch n ident)
    (refused 20))))

-- ---- The bytes: letter, switch digit, six digits, the identification if given, 0D

-- Six digits, letters in capitals.
abbrev pub digits_in : ℕ → ℕ → Option Number → Option ℕ → Figures
digits_in letter switch None ident = refused 20
digits_in letter switch (Some x) ident = cond x.small (refused 20) (fields_in letter switch x.value ident)

-- The switch digit, a capital and not C.
abbrev pub switch_in : ℕ → Option Digit → Option Number → Option ℕ → Figures
switch_in letter None number ident = refused 20
switch_in letter (Some (Capital v)) number ident = only_if (not (eqb v 12)) (digits_in letter v number ident)
switch_in letter (Some (Small v)) number ident = refused 20

-- The identification of a block of ten bytes.
abbrev pub ident_in : List ℕ → Option ℕ
ident_in s = cond (eqb (length s) 10) (Some (get_or s 8 0)) None

-- The six digits.
abbrev pub six_in : List ℕ → List ℕ
six_in s = get_or s 2 0 ∷ get_or s 3 0 ∷ get_or s 4 0 ∷ get_or s 5 0 ∷ get_or s 6 0 ∷ get_or s 7 0 ∷ []

-- 9 or 10 bytes, of which the last is 0D.
unfoldable pub read_of : List ℕ → Figures
read_of s =
    only_if (is_within (length s) 9 10)
    (only_if (eqb (get_or s (length s - 1) 0) end_byte)
    (only_if (ident_fits (ident_in s))
    (switch_in (get_or s 0 0) (digit_of (get_or s 1 0)) (number_of (six_in s)) (ident_in s))))
