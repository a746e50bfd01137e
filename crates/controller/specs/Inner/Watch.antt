-- A tick's first stages and its stop causes: src/watch.rt on held values.
use Rattle.std.specs.Prelude.{ℕ, ◌+◌, ◌-◌, ◌/◌, ◌%◌, min, Bool, false, cond, not, ◌&&◌, ◌||◌, leb, eqb}
use Rattle.std.specs.Int.Bits.{bit_and}
use Rattle.inputs.specs.Inputs.{active_at}
use Rattle.machine.specs.Stops.{watch_most}
use Rattle.controller.specs.declared.state.Hot.{Hot}
use Rattle.controller.specs.declared.state.Settings.{Settings}
use Rattle.controller.specs.declared.state.Plan.{Plan}
use Rattle.controller.specs.declared.watch.Met.{Met}
use Rattle.controller.specs.Inner.Parts.{
  with_stopping,
  with_wires,
  with_inputs,
  with_block,
  with_watch,
  with_flag,
  blocked_in,
}

-- The watch count, up to the full one.
abbrev pub raised_of : ℕ → ℕ
raised_of watch = min watch_most (watch + 1)

-- The count is full and the setting, shifted down to its bit, watches.
abbrev pub is_full_of : ℕ → ℕ → Bool
is_full_of watch setting = leb watch_most watch && eqb (setting % 2) 1

-- By the ticks until a W line's block, the watch count, whether emergency is held, and whether the general outputs are
-- cleared.
abbrev pub takes_given : Hot → ℕ → ℕ → ℕ → Bool → Bool → Hot
takes_given h word block watch emergency clears =
    with_wires (with_flag (with_watch (with_block (with_inputs h word) block) watch) 5 emergency)
    (cond clears 0 h.wires.general) h.wires.cells

-- Inputs taken, one tick counted for a W line, the watch count raised, an active emergency held, the general outputs
-- cleared at a full count.
abbrev pub takes_of : Settings → Hot → ℕ → Hot
takes_of s h word =
    takes_given h word (h.pause.block - 1) (raised_of h.watch)
    (h.flags.emergency || active_at s.low s.high word 12)
    (is_full_of (raised_of h.watch) (s.watch / 2))

-- No limit input is active, by the words alone.
abbrev pub is_calm_of : ℕ → ℕ → ℕ → Bool
is_calm_of low high inputs = eqb (bit_and high inputs % 1024) 0 && eqb (bit_and low inputs % 1024) (low % 1024)

-- A limit or the watch: the causes that set bit 3.
abbrev pub limit_or_watch_of : Settings → Plan → ℕ → ℕ → Bool
limit_or_watch_of s p inputs watch = blocked_in s inputs p || is_full_of watch s.watch

-- Any cause of a stop.
abbrev pub has_cause_of : Bool → Bool → Bool → Bool
has_cause_of emergency sensor limit = emergency || sensor || limit

-- By whether a move runs, emergency is held, the sensor is active, and a limit or the watch is met.
abbrev pub causes_given : Bool → Bool → Bool → Bool → Met
causes_given moving emergency sensor limit =
    cond (not moving) (record { any = false; limit = false; sensor = false })
    (record { any = has_cause_of emergency sensor limit; limit = limit; sensor = sensor })

-- What meets a running move.
abbrev pub causes_of : Settings → Plan → Bool → Bool → ℕ → ℕ → Met
causes_of s p moving emergency inputs watch =
    causes_given moving emergency (active_at s.low s.high inputs 13) (limit_or_watch_of s p inputs watch)

-- By whether the move is being stopped, and bits 3 and 6.
abbrev pub stops_given : Hot → Bool → Bool → Bool → Hot
stops_given h stopping stopped sensed = with_flag (with_flag (with_stopping h stopping) 3 stopped) 6 sensed

-- By what meets the move.
abbrev pub stops_met : Hot → Met → Hot
stops_met h c =
    stops_given h (h.run.stopping || c.any) (h.flags.stopped || c.limit) (h.flags.sensed || c.sensor)

-- A stop begun of a running move that a cause meets, with bits 3 and 6.
abbrev pub stops_of : Settings → Hot → Hot
stops_of s h = stops_met h (causes_of s h.plan h.run.moving h.flags.emergency h.inputs h.watch)
