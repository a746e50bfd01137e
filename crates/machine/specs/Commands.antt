-- What an accepted line does, and which numbers from 11 on turn a line away (paper 01, "Lines", "Turned away").
use Rattle.std.specs.Prelude.{ℕ, Bool, true, false, cond, ◌&&◌, ltb, leb, eqb, pos, Option}
use Rattle.line.specs.declared.command.Command.{Command}
use Rattle.line.specs.declared.command.Command.TheVariants as C
use Rattle.line.specs.Codes.{is_w}
use Rattle.line.specs.Ranges.{is_within}
use Rattle.machine.specs.State.{
  Plan,
  Move,
  none,
  start,
  Settle,
  Machine,
  move_of,
  put,
  mark,
  with_settings,
  with_next,
  with_move,
  with_position,
  with_outputs,
  with_watch,
  with_flags,
  with_pause,
  with_settle,
}
use Rattle.machine.specs.Stops.{emergency_active, stopping, marks}
use Rattle.machine.specs.Starts.{turned_by, start_number, begun, carry_number, carried, notes}

-- 11 is for any start and any P but speed: distances, and the settings 9 to C; and for a carry-on, Q C (paper 02,
-- 6/14).
abbrev pub wants_rest : Command → Bool
wants_rest (C.Distance k s d) = true
wants_rest (C.Set code v) = is_within code 9 12
wants_rest (C.Start k waits) = true
wants_rest (C.Order code) = eqb code 12
wants_rest (C.Outputs v) = false
wants_rest (C.Read r) = false

-- A start after the dwell is stored if a dwell runs, and otherwise acts as a plain start.
abbrev pub stores : Machine → Bool → Bool
stores m waits = waits && ltb 0 m.pause.left

-- A start that is being stored meets 4 to 11 only. Of the orders a carry-on has numbers of its own.
abbrev pub own_number : Machine → Command → ℕ
own_number m (C.Distance k s d) = 0
own_number m (C.Set code v) = 0
own_number m (C.Start k waits) = cond (stores m waits) 0 (start_number m k)
own_number m (C.Order code) = cond (eqb code 12) (carry_number m) 0
own_number m (C.Outputs v) = 0
own_number m (C.Read r) = 0

-- The number that turns a well-formed line away: 11 a move runs, then its own; 0 where it is accepted.
abbrev pub number : Machine → Command → ℕ
number m c = turned_by 11 (m.move.moving && wants_rest c) (own_number m c)

-- ---- Effects

-- A distance line sets one axis's distance and direction.
abbrev pub set_axis : Plan → ℕ → Bool → ℕ → Plan
set_axis p k s d = record {
  distance = λ j. cond (eqb j k) d (p.distance j);
  minus = λ j. cond (eqb j k) s (p.minus j);
}

-- After a distance line the latest move is not carried on (paper 02, 6/14).
abbrev pub replans : Move → Move
replans v =
    move_of v.plan v.master v.travel v.speed v.phase v.ticks v.moving v.stopping true

-- Order 9 begins a stop of a running move, with bit 3, and drops a stored start.
abbrev pub ordered : Machine → Machine
ordered m =
    cond m.move.moving (with_flags (with_move m (stopping m.move)) (marks m.flags true false)) m

abbrev pub drops : Machine → Machine
drops m = with_pause m (record { left = m.pause.left; waiting = none })

-- A position reset zeroes positions and, with the emergency input inactive or disabled, frees the hold.
abbrev pub resets : Machine → Machine
resets m =
    with_flags (with_position m (λ k. pos 0)) (mark m.flags 5 (m.flags.emergency && emergency_active m))

-- A start that is stored waits (a later one replaces it); any other begins a move.
abbrev pub keeps_start : Machine → ℕ → Machine
keeps_start m k = with_pause m (record { left = m.pause.left; waiting = start k })

abbrev pub obeys_start : Machine → ℕ → Bool → Machine
obeys_start m k waits = cond (stores m waits) (keeps_start m k) (begun m k)

-- Orders by their codes: 9 stop, A clear bit 2, B position reset, C carry on.
abbrev pub obeys : Machine → ℕ → Machine
obeys m code =
    cond (eqb code 9) (drops (ordered m))
    (cond (eqb code 10) (with_flags m (mark m.flags 2 false))
    (cond (eqb code 11) (resets m)
    (cond (eqb code 12) (carried m)
    m)))

-- What an accepted command does. A reading alters nothing.
abbrev pub does : Machine → Command → Machine
does m (C.Distance k s d) = with_move (with_next m (set_axis m.next k s d)) (replans m.move)
does m (C.Set code v) = with_settings m (put m.settings code v)
does m (C.Start k waits) = obeys_start m k waits
does m (C.Order code) = obeys m code
does m (C.Outputs v) = with_outputs m v
does m (C.Read r) = m

-- Paper 02, 3/14: the block of an accepted W line comes in the answer of the 2,500th accepted tick after it. It takes
-- the earlier one's place; a silent one does so too and gives none.
abbrev pub settle_by : Command → Bool → Option ℕ → Settle → Settle
settle_by c silent ident old = cond (is_w c) (record { left = cond silent 0 2500; ident = ident }) old

abbrev pub awaits : Machine → Command → Bool → Option ℕ → Machine
awaits m c silent ident = with_settle m (settle_by c silent ident m.settle)

-- Lines turned away by 10 to 17, or by a number that a later request adds (26), zero the watch count, as accepted ones
-- do; 14 sets bit 2.
abbrev pub turned : Machine → ℕ → Machine
turned m n = cond (leb 10 n) (notes (with_watch m 0) n) m
