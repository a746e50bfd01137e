-- Paper 01, "The list of demand 3": what an accepted line is to the list, and what it sets.
use Rattle.std.specs.Prelude.{ℕ, Bool, true, false, cond, eqb}
use Rattle.line.specs.declared.command.Command.{Command}
use Rattle.line.specs.declared.command.Command.TheVariants as C
use Rattle.machine.specs.State.{Machine}
use Rattle.machine.specs.Steps.{Outcome, untaken, gathered, refused, accepted, outcome}
use Rattle.machine.specs.Calls.{Call, byte, tick}

-- What an accepted line is to the list: a distance line, a dwell line, a start, order 9, a position reset, a carry-on
-- (paper 02, 6/14), or none of these.
pub data Role : Type 0 where
  other : Role
  distance_line : ℕ → Bool → ℕ → Role
  dwell_line : ℕ → Role
  start_line : ℕ → Bool → Role
  stop_order : Role
  reset_order : Role
  carry_order : Role

-- Of the settings A is the dwell, of the orders 9 is stop, B is position reset and C is carry on.
abbrev pub role_of : Command → Role
role_of (C.Distance k s d) = distance_line k s d
role_of (C.Set code v) = cond (eqb code 10) (dwell_line v) other
role_of (C.Start k waits) = start_line k waits
role_of (C.Order code) =
    cond (eqb code 9) stop_order (cond (eqb code 11) reset_order (cond (eqb code 12) carry_order other))
role_of (C.Outputs v) = other
role_of (C.Read r) = other

abbrev pub role_by : Outcome → Role
role_by untaken = other
role_by gathered = other
role_by (refused n silent ident) = other
role_by (accepted c digits silent ident) = role_of c

-- The accepted line that a call ends, if any.
abbrev pub line_of : Machine → Call → Role
line_of m (byte b buffer) = role_by (outcome m b buffer)
line_of m (tick w buffer) = other

-- ---- What a line sets

-- The distance, or the direction, of axis k after a line: that of an accepted distance line for k, else the old one.
abbrev pub distance_by : Role → ℕ → ℕ → ℕ
distance_by other k old = old
distance_by (distance_line j s d) k old = cond (eqb k j) d old
distance_by (dwell_line v) k old = old
distance_by (start_line j waits) k old = old
distance_by stop_order k old = old
distance_by reset_order k old = old
distance_by carry_order k old = old

abbrev pub minus_by : Role → ℕ → Bool → Bool
minus_by other k old = old
minus_by (distance_line j s d) k old = cond (eqb k j) s old
minus_by (dwell_line v) k old = old
minus_by (start_line j waits) k old = old
minus_by stop_order k old = old
minus_by reset_order k old = old
minus_by carry_order k old = old

-- The dwell set after a line, in ms.
abbrev pub dwell_by : Role → ℕ → ℕ
dwell_by other old = old
dwell_by (distance_line k s d) old = old
dwell_by (dwell_line v) old = v
dwell_by (start_line k waits) old = old
dwell_by stop_order old = old
dwell_by reset_order old = old
dwell_by carry_order old = old

-- An accepted position reset.
abbrev pub reset_by : Role → Bool
reset_by other = false
reset_by (distance_line k s d) = false
reset_by (dwell_line v) = false
reset_by (start_line k waits) = false
reset_by stop_order = false
reset_by reset_order = true
reset_by carry_order = false

-- A distance line, whatever it sets.
abbrev pub sets_distance : Role → Bool
sets_distance other = false
sets_distance (distance_line k s d) = true
sets_distance (dwell_line v) = false
sets_distance (start_line k waits) = false
sets_distance stop_order = false
sets_distance reset_order = false
sets_distance carry_order = false

-- A carry-on: the latest move goes on (paper 02, 6/14).
abbrev pub carries_by : Role → Bool
carries_by other = false
carries_by (distance_line k s d) = false
carries_by (dwell_line v) = false
carries_by (start_line k waits) = false
carries_by stop_order = false
carries_by reset_order = false
carries_by carry_order = true
