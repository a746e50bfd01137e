-- Bench figures (paper 01, "Host end and program", "Turned away" 21), in terms of the library on IEEE 754. A Float is
-- nan, inf or fin s m e: m * 2^e, minus where s is true. `round binary64 false a c` is the f64 nearest to a / c, and
-- `HasValue x false a c` says that x is a / c exactly.
use Rattle.std.specs.Prelude.{◌≡◌, ℕ, ◌*◌, ◌/◌, ◌%◌, ◌<◌, ◌≤◌, Bool, true, false, ◌&&◌, List, [], ◌∷◌, map, ◌==◌, ◌≢◌, nat_le, Float, Result, Ok, Err}
use Rattle.std.specs.Float.{nan, inf, fin, binary64}
use Rattle.std.specs.Float.Ieee.{up, down, round}
use Rattle.std.specs.Float.Ieee.Exact.{HasValue}
use Rattle.line.specs.Ranges.{top_speed, top_slope}
use Rattle.line.specs.declared.command.Command.{Command}
use Rattle.line.specs.declared.command.Command.TheVariants as Line
use Rattle.figures.specs.declared.NotExact.{NotExact}
use Rattle.figures.specs.declared.Setting.{Setting}
use Rattle.figures.specs.declared.Setting.TheVariants.{Speed, Slope}
use Rattle.figures.specs.declared.Figures.{Figures}

-- "n units are exactly n/4 or 5n/4": r is the f64 nearest to a / c, and nothing was lost in the rounding.
pub record Exactly (r : Float) (a c : ℕ) : Type 0 where
  pub is : r ≡ round binary64 false a c
  pub value : HasValue r false a c

-- A speed of n units in hertz, a slope of n units in hertz per ms.
abbrev pub speed_hz : ℕ → Float
speed_hz n = round binary64 false n 4

abbrev pub slope_hz : ℕ → Float
slope_hz n = round binary64 false (5 * n) 4

-- ---- the answers in the paper's terms

-- A number, 0 or 21, and the value of a figure that is not turned away.
pub record Answer (A : Type 0) : Type 0 where
  pub number : ℕ
  pub values : List A

-- The value v, with the number 0.
abbrev pub given : {A : Type 0} → A → Answer A
given v = record { number = 0; values = v ∷ [] }

-- Turned away by the number n.
abbrev pub turned : {A : Type 0} → ℕ → Answer A
turned n = record { number = n; values = [] }

-- The number of a figure that is not exact, or out of range.
abbrev pub number_of : NotExact → ℕ
number_of e = 21

-- The paper's number and values for each case of a figure in units, and of a setting's command.
abbrev pub count_of : Result ℕ NotExact → Answer ℕ
count_of (Ok n) = given n
count_of (Err e) = turned (number_of e)

abbrev pub asked_of : Result Command NotExact → Answer Command
asked_of (Ok c) = given c
asked_of (Err e) = turned (number_of e)

-- ---- the reverse reading

-- n where the test holds, else 21.
abbrev pub pick_units : Bool → ℕ → Answer ℕ
pick_units true n = given n
pick_units false n = turned 21

-- "Only such values of n in range are read back": the n from 1 to most for which x is exactly a * n / c, else 21.
unfoldable pub units_of : ℕ → ℕ → ℕ → Float → Answer ℕ
units_of a c most nan = turned 21
units_of a c most (inf s) = turned 21
units_of a c most (fin true m e) = turned 21
units_of a c most (fin false m e) =
    let q = m * up e * c / (a * down e) in
    pick_units (m * up e * c % (a * down e) == 0 && nat_le 1 q && nat_le q most) q

-- P 8 takes 1 to 1,000,000 units of 1/4 Hz, P 9 takes 1 to 4,095 of 5/4 Hz per ms.
abbrev pub speed_units : Float → Answer ℕ
speed_units x = units_of 1 4 top_speed x

abbrev pub slope_units : Float → Answer ℕ
slope_units x = units_of 5 4 top_slope x

-- The same with no arithmetic: r gives n where x is the very f64 of an n in range, only there, and is 21 elsewhere.
pub record ReadBack (figure : ℕ → Float) (most : ℕ) (x : Float) (r : Answer ℕ) : Type 0 where
  pub reads : (n : ℕ) → 1 ≤ n → n ≤ most → x ≡ figure n → r ≡ given n
  pub only : (n : ℕ) → r ≡ given n → (1 ≤ n) × (n ≤ most) × (x ≡ figure n)
  pub refuses : ((n : ℕ) → 1 ≤ n → n ≤ most → x ≢ figure n) → r ≡ turned 21

-- What the reader of both scales may be told of its unit: it is a / 4, for an a above 0 of 16 bits.
pub record UnitIs (u : Float) (a : ℕ) : Type 0 where
  pub some : 0 < a
  pub small : a < 65536
  pub value : HasValue u false a 4

-- ---- a setting as its P command

-- The command that takes the units; a number goes on.
abbrev pub asks : (ℕ → Command) → Answer ℕ → Answer Command
asks command units = record { number = units.number; values = map command units.values }

-- "A setting is a speed in hertz or a slope in hertz per ms": the matching P command, P 8 or P 9, or 21.
abbrev pub command_of : Setting → Answer Command
command_of (Speed x) = asks (Line.Set 8) (speed_units x)
command_of (Slope x) = asks (Line.Set 9) (slope_units x)

-- ---- the pair

-- "A pair of figures shows speed and slope together", of settings in units.
pub record Shown (r : Figures) (speed slope : ℕ) : Type 0 where
  pub speed_is : Exactly r.speed speed 4
  pub slope_is : Exactly r.slope (5 * slope) 4
