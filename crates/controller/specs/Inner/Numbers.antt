-- Which numbers from 11 on turn a line away, and what that leaves: src/numbers.rt on held values.
use Rattle.std.specs.Prelude.{ℕ, Bool, cond, ◌&&◌, ◌||◌, ltb, eqb}
use Rattle.line.specs.declared.command.Command.{Command}
use Rattle.line.specs.declared.command.Command.TheVariants as C
use Rattle.line.specs.Ranges.{is_within}
use Rattle.controller.specs.declared.state.Controller.{Controller}
use Rattle.controller.specs.declared.state.Hot.{Hot}
use Rattle.controller.specs.Inner.Parts.{with_watch, with_flag, with_hot}
use Rattle.controller.specs.Inner.Start.{start_number_of, StartFits}
use Rattle.controller.specs.Inner.Carry.{carry_number_of, CarryFits}

-- A start after the dwell is stored if a dwell runs.
abbrev pub stores_of : Controller → Bool → Bool
stores_of c waits = waits && ltb 0 c.hot.pause.left

-- 11 while a move runs.
abbrev pub rest_number_of : Controller → ℕ
rest_number_of c = cond c.hot.run.moving 11 0

-- A start's number: 11, then its own unless it is stored.
abbrev pub start_line_of : Controller → ℕ → Bool → ℕ
start_line_of c k waits =
    cond c.hot.run.moving 11
    (cond (stores_of c waits) 0 (start_number_of c.cold.settings c.cold.next c.hot k))

-- A setting's number: 11 for any P but speed.
abbrev pub setting_number_of : Controller → ℕ → ℕ
setting_number_of c code = cond (is_within code 9 12) (rest_number_of c) 0

-- A carry-on's number: 11, then its own.
abbrev pub carry_line_of : Controller → ℕ
carry_line_of c = cond c.hot.run.moving 11 (carry_number_of c.cold.settings c.hot)

-- An order's number: a carry-on alone has one.
abbrev pub order_number_of : Controller → ℕ → ℕ
order_number_of c code = cond (eqb code 12) (carry_line_of c) 0

-- What the number needs.
pub record NumberFits (c : Controller) : Type 0 where
  pub start : StartFits c.cold.next c.hot.counters
  pub carry : CarryFits c.hot

-- The number that turns a well-formed line away, or 0.
abbrev pub number_of : Controller → Command → ℕ
number_of c (C.Distance k s d) = rest_number_of c
number_of c (C.Set code v) = setting_number_of c code
number_of c (C.Start k waits) = start_line_of c k waits
number_of c (C.Order code) = order_number_of c code
number_of c (C.Outputs v) = 0
number_of c (C.Read r) = 0

-- By bit 2.
abbrev pub turned_given : Hot → Bool → Hot
turned_given h wrong = with_flag (with_watch h 0) 2 wrong

-- A line turned away by 10 to 17 or 26 zeroes the watch count; 14 sets bit 2.
abbrev pub turned_of : Controller → ℕ → Controller
turned_of c n = cond (ltb n 10) c (with_hot c (turned_given c.hot (c.hot.flags.wrong || eqb n 14)))
