-- Paper 01, "The list of demand 3": what one call is, to the machine that it is given.
--
-- Which lines are accepted, which starts a number turns away and when stops begin is what the machine of paper 01 does
-- (`outcome`, the numbers of ticks, `stops_in`).
use Rattle.std.specs.Prelude.{ℕ, ◌-◌, ◌*◌, Bool, true, false, cond, not, ◌&&◌, ◌||◌, ltb, eqb, ℤ, pos}
use Rattle.machine.specs.State.{Machine, Waiting, none, start, Pause}
use Rattle.laws.specs.Bits.{bit}
use Rattle.machine.specs.Stops.{cause, status}
use Rattle.machine.specs.Steps.{
  outcome,
  Tried,
  untried,
  failed,
  began,
  looks,
  tick_turned,
  tick_step,
}
use Rattle.machine.specs.Calls.{Call, byte, tick, after}
pub use Rattle.machine.specs.Accepted.{
  Role,
  other,
  distance_line,
  dwell_line,
  start_line,
  stop_order,
  reset_order,
  carry_order,
  role_of,
  role_by,
  line_of,
  distance_by,
  minus_by,
  dwell_by,
  reset_by,
  sets_distance,
  carries_by,
}

-- ---- Starts and the dwell, p being the pause before the call: the ticks of the dwell that are left, and the start
-- that waits for its end

abbrev pub begins : Tried → Bool
begins untried = false
begins (failed n) = false
begins (began k) = true

-- A start after the dwell is stored if a dwell runs.
abbrev pub is_stored : Pause → Bool → Bool
is_stored p waits = waits && ltb 0 p.left

-- A plain start (Q 8, not stored) takes effect as its line is accepted.
abbrev pub start_by : Pause → Role → Tried
start_by p other = untried
start_by p (distance_line k s d) = untried
start_by p (dwell_line v) = untried
start_by p (start_line k waits) = cond (is_stored p waits) untried (began k)
start_by p stop_order = untried
start_by p reset_order = untried
start_by p carry_order = untried

-- A stored start begins a move with the master that it names.
abbrev pub named : Waiting → Tried
named none = untried
named (start k) = began k

-- It takes effect in the tick that tries it, in which the dwell becomes 0, if no number turns it away: the tick
-- answers 0.
abbrev pub takes_effect : Machine → Pause → Call → Tried
takes_effect m p (byte b buffer) = start_by p (role_by (outcome m b buffer))
takes_effect m p (tick w buffer) =
    cond (eqb (tick_step m w buffer).number 0) (cond (eqb p.left 1) (named p.waiting) untried) untried

-- The latest move is carried on, or a start takes effect.
abbrev pub starts_or_carries : Machine → Pause → Call → Bool
starts_or_carries m p x = carries_by (line_of m x) || begins (takes_effect m p x)

-- A start that is stored waits, and a later one replaces it; a plain start that takes effect drops it, and so do order
-- 9 and a carry-on.
abbrev pub waiting_by : Pause → Role → Waiting
waiting_by p other = p.waiting
waiting_by p (distance_line k s d) = p.waiting
waiting_by p (dwell_line v) = p.waiting
waiting_by p (start_line k waits) = cond (is_stored p waits) (start k) none
waiting_by p stop_order = none
waiting_by p reset_order = p.waiting
waiting_by p carry_order = none

-- One that is tried is dropped, begun or not.
abbrev pub waiting_after : Machine → Pause → Call → Waiting
waiting_after m p (byte b buffer) = waiting_by p (role_by (outcome m b buffer))
waiting_after m p (tick w buffer) =
    cond (tick_turned w buffer) p.waiting (cond (eqb p.left 1) none p.waiting)

-- Status bit 1.
abbrev pub moves : Machine → Bool
moves m = bit (status m) 1

abbrev pub is_tick : Call → Bool
is_tick (byte b buffer) = false
is_tick (tick w buffer) = true

-- A tick that is not turned away.
abbrev pub is_taken : Call → Bool
is_taken (byte b buffer) = false
is_taken (tick w buffer) = not (tick_turned w buffer)

-- A tick ends the move that runs or begins in it: after it status bit 1 is 0.
abbrev pub rests_in : Machine → Pause → Call → Bool
rests_in m p x = is_tick x && ((begins (takes_effect m p x) || moves m) && not (moves (after m x)))

-- At any end the dwell starts, 250 ticks for each ms set; a start that takes effect ends it, and so does a carry-on; a
-- tick counts it down.
abbrev pub left_after : Machine → Pause → ℕ → Call → ℕ
left_after m p ms x =
    cond (rests_in m p x) (250 * ms)
    (cond (starts_or_carries m p x) 0
    (cond (is_taken x) (p.left - 1) p.left))

abbrev pub pause_after : Machine → Pause → ℕ → Call → Pause
pause_after m p ms x = record { left = left_after m p ms x; waiting = waiting_after m p x }

-- ---- Stops and pulses

-- A stop begins where order 9 is accepted with status bit 1 set ..
abbrev pub stop_by : Machine → Role → Bool
stop_by m other = false
stop_by m (distance_line k s d) = false
stop_by m (dwell_line v) = false
stop_by m (start_line k waits) = false
stop_by m stop_order = moves m
stop_by m reset_order = false
stop_by m carry_order = false

-- .. or where a tick begins one by the tick order.
abbrev pub stops_in : Machine → Call → Bool
stops_in m (byte b buffer) = stop_by m (role_by (outcome m b buffer))
stops_in m (tick w buffer) = cond (tick_turned w buffer) false (cause (looks m w))

-- A pump sends a pulse where a tick answers 1 or -1 for it.
abbrev pub sent : Machine → Call → ℕ → ℤ
sent m (byte b buffer) k = pos 0
sent m (tick w buffer) k = (tick_step m w buffer).pulse k

-- A value that a start sets anew from its master, and that stays otherwise.
abbrev pub at_start : {A : Type 0} → Tried → (ℕ → A) → A → A
at_start untried new old = old
at_start (failed n) new old = old
at_start (began k) new old = new k
