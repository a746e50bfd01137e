-- The table of codes (paper 01, "Lines"; chapter 7). The six digits' number is the code (4 bits), then five digits.
use Rattle.std.specs.Prelude.{ℕ, ◌/◌, ◌%◌, Bool, true, false, cond, leb, eqb, Option, None, Some}
use Rattle.digits.specs.Digits.{four_digits, five_digits, top_bit}
use Rattle.line.specs.declared.command.Reading.{Reading}
use Rattle.line.specs.declared.command.Reading.TheVariants as R
use Rattle.line.specs.declared.command.Command.{Command}
use Rattle.line.specs.declared.command.Command.TheVariants as C
use Rattle.line.specs.declared.row.Row.{Row}
use Rattle.line.specs.Ranges.{is_within, is_axis, is_order}

-- The letters P, Q, q and W.
abbrev pub letter_p : ℕ
letter_p = 80

abbrev pub letter_q : ℕ
letter_q = 81

abbrev pub letterq : ℕ
letterq = 113

abbrev pub letter_w : ℕ
letter_w = 87

-- The code.
abbrev pub code : ℕ → ℕ
code n = n / five_digits

-- The five digits after it.
abbrev pub five : ℕ → ℕ
five n = n % five_digits

-- The second digit, the first of the five.
abbrev pub second : ℕ → ℕ
second n = five n / four_digits

-- A row has the least number of digits, and its command; the most is six. Below k is the code, v the five digits.
abbrev pub listed : ℕ → Command → Option Row
listed least command = Some (record { least = least; command = command })

-- P, six digits: 0-4 distance (top bit of the five is minus), 8 speed, 9 slope, A dwell, C polarity; B watch, two to
-- six digits, by its second.
abbrev pub row_p : ℕ → ℕ → Option Row
row_p k v =
    cond (is_axis k) (listed 6 (C.Distance k (leb top_bit v) (v % top_bit)))
    (cond (eqb k 11) (listed 2 (C.Set k (v / four_digits)))
    (cond (is_within k 8 12) (listed 6 (C.Set k v))
    None))

-- Q: 0-4 travel, 6 status, 9 stop, A clear bit 2, B position reset, C carry on (paper 02, 6/14), one to six digits; 8
-- start, two to six, second digit the master, or 8 more for a start after the dwell; D low-ON, E high-ON, six.
abbrev pub row_q : ℕ → ℕ → Option Row
row_q k v =
    cond (is_axis k) (listed 1 (C.Read (R.Travel k)))
    (cond (eqb k 6) (listed 1 (C.Read R.Status))
    (cond (eqb k 8) (listed 2 (C.Start (v / four_digits % 8) (leb 8 (v / four_digits))))
    (cond (is_order k) (listed 1 (C.Order k))
    (cond (is_within k 13 14) (listed 6 (C.Set k v))
    None))))

-- q, one to six: 0-4 position, 8 everything.
abbrev pub rowq : ℕ → Option Row
rowq k =
    cond (is_axis k) (listed 1 (C.Read (R.Position k)))
    (cond (eqb k 8) (listed 1 (C.Read R.Everything))
    None)

-- W, none (query) or six: general outputs.
abbrev pub row_w : ℕ → ℕ → Option Row
row_w count n = cond (eqb count 0) (listed 0 (C.Read R.Inputs)) (listed 6 (C.Outputs n))

-- The row of a letter, a digit count and a number; W has no code, and P, Q, q with no digit have none.
abbrev pub row_of : ℕ → ℕ → ℕ → Option Row
row_of letter count n =
    cond (eqb letter letter_w) (row_w count n)
    (cond (eqb count 0) None
    (cond (eqb letter letter_p) (row_p (code n) (five n))
    (cond (eqb letter letter_q) (row_q (code n) (five n))
    (rowq (code n)))))

-- A W query: W with no digits.
abbrev pub is_inputs : Reading → Bool
is_inputs (R.Travel k) = false
is_inputs (R.Position k) = false
is_inputs R.Status = false
is_inputs R.Everything = false
is_inputs R.Inputs = true

abbrev pub is_query : Command → Bool
is_query (C.Distance k minus d) = false
is_query (C.Set c v) = false
is_query (C.Start k waits) = false
is_query (C.Order c) = false
is_query (C.Outputs v) = false
is_query (C.Read r) = is_inputs r

-- A W line, query or not.
abbrev pub is_w : Command → Bool
is_w (C.Distance k minus d) = false
is_w (C.Set c v) = false
is_w (C.Start k waits) = false
is_w (C.Order c) = false
is_w (C.Outputs v) = true
is_w (C.Read r) = is_inputs r
