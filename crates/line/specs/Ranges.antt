-- The ranges of paper 01 ("Lines"): the one judgement of them, on the command.
use Rattle.std.specs.Prelude.{ℕ, ◌/◌, ◌%◌, Bool, true, false, cond, ◌&&◌, ltb, leb, eqb}
use Rattle.digits.specs.Digits.{six_digits, top_bit}
use Rattle.line.specs.declared.command.Reading.{Reading}
use Rattle.line.specs.declared.command.Reading.TheVariants as R
use Rattle.line.specs.declared.command.Command.{Command}
use Rattle.line.specs.declared.command.Command.TheVariants as C

-- From low to high, both taken.
abbrev pub is_within : ℕ → ℕ → ℕ → Bool
is_within n low high = leb low n && leb n high

-- One of the five axes, 0-4.
abbrev pub is_axis : ℕ → Bool
is_axis k = ltb k 5

-- Input settings have bits 0-9, 12 and 13 only: none from 14 on, and not 10 or 11.
abbrev pub input_bits : ℕ → Bool
input_bits v = eqb (v / 16384) 0 && eqb (v / 1024 % 4) 0

-- The most units of speed and of slope.
abbrev pub top_speed : ℕ
top_speed = 1000000

abbrev pub top_slope : ℕ
top_slope = 4095

-- A setting by its code: speed 1 to 1,000,000, slope 1 to 4,095, dwell 0 to 16,383, watch 0 to 3, polarity 0 to 4,095,
-- low-ON and high-ON the bits above. No other code sets anything.
abbrev pub setting_fits : ℕ → ℕ → Bool
setting_fits code v =
    cond (eqb code 8) (is_within v 1 top_speed)
    (cond (eqb code 9) (is_within v 1 top_slope)
    (cond (eqb code 10) (leb v 16383)
    (cond (eqb code 11) (leb v 3)
    (cond (eqb code 12) (leb v 4095)
    (cond (eqb code 13) (input_bits v)
    (cond (eqb code 14) (input_bits v)
    false))))))

-- A reading of a travel or a position names one of the five axes.
abbrev pub reading_fits : Reading → Bool
reading_fits (R.Travel k) = is_axis k
reading_fits (R.Position k) = is_axis k
reading_fits R.Status = true
reading_fits R.Everything = true
reading_fits R.Inputs = true

-- A distance is one of the five axes', and has 19 bits: 0 to 524,287.
abbrev pub distance_fits : ℕ → ℕ → Bool
distance_fits k d = is_axis k && ltb d top_bit

-- The codes of the orders that name nothing else: 9 stop, A clear bit 2, B position reset, C carry on (paper 02, 6/14).
abbrev pub is_order : ℕ → Bool
is_order code = is_within code 9 12

-- A command's values: a distance, a setting, a reading and an order as above, a master is one of the five axes, the
-- outputs have 24 bits.
abbrev pub fits : Command → Bool
fits (C.Distance k minus d) = distance_fits k d
fits (C.Set code v) = setting_fits code v
fits (C.Start k waits) = is_axis k
fits (C.Order code) = is_order code
fits (C.Outputs v) = ltb v six_digits
fits (C.Read r) = reading_fits r
