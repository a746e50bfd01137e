-- A list of calls in which a start is stored with status bits 3 and 6 set: stops set those bits, a move that begins or
-- is carried on clears them, and storing a start is neither.
use Rattle.std.specs.Prelude.{List, [], ◌∷◌, ◌≡◌}
use Rattle.machine.specs.State.{start}
use Rattle.machine.specs.Stops.{status}
use Rattle.machine.specs.Calls.{Call, tick, state, buffer, line, lines}

-- With a dwell of 1 ms and the sensor high-ON a move begins with master 2, order 9 sets bit 3, and the sensor, active
-- in the next tick, bit 6. That tick ends the move, and the dwell runs.
abbrev pub flagged : List Call
flagged =
    tick 8192 buffer
    ∷ lines ("P0280001" ∷ "P08F4240" ∷ "P0900FFF" ∷ "P0A00001" ∷ "Q0E02000" ∷ "Q082" ∷ "Q09" ∷ []) []

-- The same, and a start with master 2 after the dwell.
abbrev pub storing : List Call
storing = line "Q08A" flagged

pub record Flagged : Type 0 where
  -- bits 0 (dwell), 3 and 6: 1 + 8 + 64
  pub set : status (state 0 flagged) ≡ 73
  -- the start is stored, and the status is as it was
  pub stored : (state 0 storing).pause.waiting ≡ start 2
  pub kept : status (state 0 storing) ≡ 73
