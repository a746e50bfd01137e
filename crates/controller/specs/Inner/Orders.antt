-- What an accepted command does: src/orders.rt on held values.
use Rattle.std.specs.Prelude.{ℕ, ◌+◌, Bool, true, false, cond, ◌&&◌, eqb}
use Rattle.laws.specs.Axes.{each}
use Rattle.digits.specs.Digits.{top_bit}
use Rattle.inputs.specs.Inputs.{active_at}
use Rattle.line.specs.declared.command.Command.{Command}
use Rattle.line.specs.declared.command.Command.TheVariants as C
use Rattle.controller.specs.declared.state.Controller.{Controller}
use Rattle.controller.specs.declared.state.Hot.{Hot}
use Rattle.controller.specs.Inner.Parts.{
  with_counters,
  with_stopping,
  with_pause,
  with_watch,
  with_flag,
  with_hot,
}
use Rattle.controller.specs.Inner.Settings.{set_axis_of, set_setting_of, set_outputs_of}
use Rattle.controller.specs.Inner.Numbers.{stores_of}
use Rattle.controller.specs.Inner.Start.{begun_of}
use Rattle.controller.specs.Inner.Carry.{carried_of}

-- The start with this master waits.
abbrev pub obey_start_stored : Hot → ℕ → Hot
obey_start_stored h k = with_pause h h.pause.left (k + 1)

-- A start that is stored waits, any other begins a move.
abbrev pub obey_start_of : Controller → ℕ → Bool → Controller
obey_start_of c k waits =
    cond (stores_of c waits) (with_hot c (obey_start_stored c.hot k))
    (with_hot c (begun_of c.cold.next c.cold.settings.polarity c.cold.switch c.hot k))

-- No start waits.
abbrev pub obey_stop_dropped : Hot → Hot
obey_stop_dropped h = with_pause h h.pause.left 0

-- The move is being stopped, with bit 3.
abbrev pub obey_stop_moving : Hot → Hot
obey_stop_moving h = with_flag (with_stopping (obey_stop_dropped h) true) 3 true

-- Order 9 begins a stop of a running move, and drops a stored start.
abbrev pub obey_stop_of : Controller → Controller
obey_stop_of c =
    cond c.hot.run.moving (with_hot c (obey_stop_moving c.hot)) (with_hot c (obey_stop_dropped c.hot))

-- By whether emergency stays held.
abbrev pub obey_reset_given : Hot → Bool → Hot
obey_reset_given h emergency =
    with_flag (with_counters h (record {
      travels = h.counters.travels;
      remainders = h.counters.remainders;
      positions = each (λ k. record { 0 = top_bit });
    })) 5 emergency

-- A position reset zeroes positions and, with the emergency input inactive or disabled, frees the hold.
abbrev pub obey_reset_of : Controller → Controller
obey_reset_of c =
    with_hot c (obey_reset_given c.hot
    (c.hot.flags.emergency && active_at c.cold.settings.low c.cold.settings.high c.hot.inputs 12))

-- Orders by their codes: 9 stop, A clear bit 2, B position reset, C carry on.
abbrev pub obey_order_of : Controller → ℕ → Controller
obey_order_of c code =
    cond (eqb code 9) (obey_stop_of c)
    (cond (eqb code 10) (with_hot c (with_flag c.hot 2 false))
    (cond (eqb code 11) (obey_reset_of c)
    (cond (eqb code 12) (with_hot c (carried_of c.hot))
    c)))

-- What an accepted command does. A reading alters nothing.
abbrev pub does_of : Controller → Command → Controller
does_of c (C.Distance k s d) = set_axis_of c k s d
does_of c (C.Set code v) = set_setting_of c code v
does_of c (C.Start k waits) = obey_start_of c k waits
does_of c (C.Order code) = obey_order_of c code
does_of c (C.Outputs v) = set_outputs_of c v
does_of c (C.Read r) = c

-- The watch count zeroed.
abbrev pub zero_watch_of : Controller → Controller
zero_watch_of c = with_hot c (with_watch c.hot 0)
