-- Paper 01, "The list of demand 3": what is read off a list of calls from power-on.
--
-- Distances, directions, the dwell, stored starts and masters are read off the accepted lines and the ticks, pulses off
-- the answers of ticks; no counter is kept beside them. `travel` and `position` are the figures that the replies to Q
-- 0-4 and q 0-4 are made from. Lists have the latest call first, from power-on with a switch.
use Rattle.std.specs.Prelude.{ℕ, ◌+◌, Bool, false, cond, not, ◌&&◌, ◌||◌, List, [], ◌∷◌, eqb, ℤ, pos, ◌+ℤ◌, nat_abs}
use Rattle.machine.specs.State.{none, Pause}
use Rattle.laws.specs.Bits.{weight}
use Rattle.machine.specs.Replies.{travel_of, position_of}
use Rattle.machine.specs.Steps.{Tried}
use Rattle.machine.specs.Calls.{Call, state}
use Rattle.machine.specs.Roles.{
  at_start,
  begins,
  distance_by,
  dwell_by,
  is_tick,
  line_of,
  minus_by,
  moves,
  pause_after,
  reset_by,
  sent,
  starts_or_carries,
  stops_in,
  takes_effect,
}

-- The last accepted distance line of an axis, 0 and plus without one.
unfoldable pub last_distance : ℕ → List Call → ℕ → ℕ
last_distance s [] k = 0
last_distance s (x ∷ h) k = distance_by (line_of (state s h) x) k (last_distance s h k)

unfoldable pub last_minus : ℕ → List Call → ℕ → Bool
last_minus s [] k = false
last_minus s (x ∷ h) k = minus_by (line_of (state s h) x) k (last_minus s h k)

-- The last accepted dwell line, 0 without one.
unfoldable pub last_dwell : ℕ → List Call → ℕ
last_dwell s [] = 0
last_dwell s (x ∷ h) = dwell_by (line_of (state s h) x) (last_dwell s h)

-- The pause: the ticks of the dwell that are left, and the start that waits for its end.
unfoldable pub paused : ℕ → List Call → Pause
paused s [] = record { left = 0; waiting = none }
paused s (x ∷ h) = pause_after (state s h) (paused s h) (last_dwell s h) x

-- The start that takes effect in a call x after the list, if one does.
abbrev pub effect : ℕ → List Call → Call → Tried
effect s h x = takes_effect (state s h) (paused s h) x

-- Whether the call x after the list begins a move or carries the latest one on (paper 02, 6/14).
abbrev pub start_or_carry : ℕ → List Call → Call → Bool
start_or_carry s h x = starts_or_carries (state s h) (paused s h) x

-- Whether a start has taken effect. That begins a move, the latest until another start takes effect.
unfoldable pub started : ℕ → List Call → Bool
started s [] = false
started s (x ∷ h) = begins (effect s h x) || started s h

-- The latest move's distances and directions: those of each axis's last accepted distance line before its start.
unfoldable pub distance : ℕ → List Call → ℕ → ℕ
distance s [] k = 0
distance s (x ∷ h) k = at_start (effect s h x) (λ j. last_distance s h k) (distance s h k)

unfoldable pub minus : ℕ → List Call → ℕ → Bool
minus s [] k = false
minus s (x ∷ h) k = at_start (effect s h x) (λ j. last_minus s h k) (minus s h k)

-- The master named in the latest move's start.
unfoldable pub master : ℕ → List Call → ℕ
master s [] = 0
master s (x ∷ h) = at_start (effect s h x) (λ j. j) (master s h)

-- 1 for an answer that is not 0.
abbrev pub is_pulse : ℤ → ℕ
is_pulse z = weight (not (eqb (nat_abs z) 0)) 1

-- The answers that are not 0 of all ticks since the latest move's start took effect, for a stored start that very tick
-- included. A carry-on does not begin the count again.
unfoldable pub counted : ℕ → List Call → ℕ → ℕ
counted s [] k = 0
counted s (x ∷ h) k = cond (begins (effect s h x)) 0 (counted s h k) + is_pulse (sent (state s h) x k)

-- Signed pulses are the sum of the answers, since power-on or the last accepted position reset.
unfoldable pub signed : ℕ → List Call → ℕ → ℤ
signed s [] k = pos 0
signed s (x ∷ h) k = cond (reset_by (line_of (state s h) x)) (pos 0) (signed s h k +ℤ sent (state s h) x k)

-- Whether a stop has begun in the latest move, its start's own call included. Only the calls since its last carry-on
-- count.
unfoldable pub stop_begun : ℕ → List Call → Bool
stop_begun s [] = false
stop_begun s (x ∷ h) =
    stops_in (state s h) x || (not (start_or_carry s h x) && stop_begun s h)

-- Whether the latest move has not ended: no tick that counts for its pulses, since its last carry-on, has left status
-- bit 1 at 0.
unfoldable pub goes_on : ℕ → List Call → Bool
goes_on s [] = false
goes_on s (x ∷ h) =
    (start_or_carry s h x || goes_on s h) && (not (is_tick x) || moves (state s (x ∷ h)))

-- A move ends in the first tick that counts for its pulses and after which status bit 1 is 0.
unfoldable pub ends : ℕ → List Call → Bool
ends s [] = false
ends s (x ∷ h) =
    is_tick x && ((begins (effect s h x) || goes_on s h) && not (moves (state s (x ∷ h))))

-- What the latest call answers for an axis.
unfoldable pub latest : ℕ → List Call → ℕ → ℤ
latest s [] k = pos 0
latest s (x ∷ h) k = sent (state s h) x k

-- Travels and positions are the figures that the replies are made from; m is the master's travel, M its distance.
abbrev pub travel : ℕ → List Call → ℕ → ℕ
travel s h k = travel_of (state s h) k

abbrev pub position : ℕ → List Call → ℕ → ℤ
position s h k = position_of (state s h) k

abbrev pub gone : ℕ → List Call → ℕ
gone s h = travel s h (master s h)

abbrev pub whole : ℕ → List Call → ℕ
whole s h = distance s h (master s h)
