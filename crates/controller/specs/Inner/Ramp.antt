-- A tick of the ramp: src/ramp.rt on held values.
use Rattle.std.specs.Prelude.{ℕ, ◌+◌, ◌-◌, ◌*◌, ◌≤◌, ◌<◌, Bool, true, false, cond, not, ◌&&◌, ◌≡◌, ltb, leb, eqb}
use Rattle.line.specs.Ranges.{top_speed, top_slope}
use Rattle.journal.specs.Entries.{ticks_range}
use Rattle.machine.specs.Ramp.{full, braked, towards}
use Rattle.controller.specs.declared.state.Settings.{Settings}
use Rattle.controller.specs.declared.state.Run.{Run}
use Rattle.controller.specs.declared.ramp.Paced.{Paced}
use Rattle.controller.specs.Held.{round, ticks_left, rounds_of}
use Rattle.controller.specs.Inner.Parts.{run_of}

-- The ticks in which the move's ramp ran.
abbrev pub ticks_of : Run → ℕ
ticks_of r = r.rounds * round + r.ticks

-- The speed of this tick.
abbrev pub ramp_of : Settings → Run → ℕ
ramp_of s r =
    cond r.stopping (r.speed - s.slope)
    (cond (leb (2 * s.slope * ((r.length - r.gone) * full - r.phase)) (r.speed * r.speed))
    (braked r.speed s.slope)
    (towards r.speed (50 * s.speed) s.slope))

-- What keeps its products and the tick count in 64 bits.
pub record RampFits (s : Settings) (r : Run) : Type 0 where
  pub now : r.speed ≤ full
  pub speed : s.speed ≤ top_speed
  pub slope : s.slope ≤ top_slope
  pub length : r.length ≤ 524287
  pub gone : r.gone < r.length
  pub phase : r.phase < full
  pub ticks : ticks_of r < ticks_range.most

-- A stop has come down to the slope.
abbrev pub stands_of : Run → ℕ → Bool
stands_of r slope = r.stopping && leb r.speed slope

-- The move has ended: speed and phase 0.
abbrev pub at_rest_of : Run → ℕ → ℕ → Run
at_rest_of r ticks gone = run_of r.length gone 0 0 r.master false false (ticks_left ticks) (rounds_of ticks)

-- The move goes on.
abbrev pub under_way_of : Run → ℕ → ℕ → ℕ → ℕ → Run
under_way_of r ticks gone speed phase =
    run_of r.length gone speed phase r.master r.moving r.stopping (ticks_left ticks) (rounds_of ticks)

-- By whether the phase is short of full, and whether the next pulse is the last.
abbrev pub advance_given : Run → ℕ → ℕ → Bool → Bool → Paced
advance_given r ticks speed short last =
    cond short (record { run = under_way_of r ticks r.gone speed (r.phase + speed); fires = false; ends = false })
    (cond last (record { run = at_rest_of r ticks (r.gone + 1); fires = true; ends = true })
    (record { run = under_way_of r ticks (r.gone + 1) speed (r.phase + speed - full); fires = true; ends = false }))

-- The phase grows by the speed, and the master pulses where it is full.
abbrev pub advance_of : Run → ℕ → ℕ → Paced
advance_of r ticks speed =
    advance_given r ticks speed (ltb (r.phase + speed) full) (eqb (r.gone + 1) r.length)

-- By the ticks with this one, whether a move runs, whether a stop has come down to the slope, and what else comes of
-- the tick.
abbrev pub pace_given : Run → ℕ → Bool → Bool → Paced → Paced
pace_given r ticks moving stands goes =
    cond (not moving) (record { run = r; fires = false; ends = false })
    (cond stands (record { run = at_rest_of r ticks r.gone; fires = false; ends = true }) goes)

-- The run after a tick of the ramp, one tick more, whether the master pulses in it, and whether the move ends in it.
abbrev pub pace_of : Settings → Run → Paced
pace_of s r =
    pace_given r (ticks_of r + 1) r.moving (stands_of r s.slope) (advance_of r (ticks_of r + 1) (ramp_of s r))

-- What it needs.
abbrev pub PaceFits : Settings → Run → Type 0
PaceFits s r = r.moving ≡ true → RampFits s r
