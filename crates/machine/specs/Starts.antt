-- When a start takes effect, and what it begins (paper 01, "Turned away" 12 to 17; "Lines"; "Stops"); when a stopped
-- move is carried on (paper 02, 6/14).
use Rattle.std.specs.Prelude.{ℕ, ◌-◌, Bool, true, false, cond, not, ◌&&◌, ◌||◌, ltb, eqb, ℤ, pos, negsuc, ◌+ℤ◌}
use Rattle.machine.specs.State.{Plan, Move, none, Machine, move_of, mark, with_move, with_flags, with_pause}
use Rattle.laws.specs.Axes.{some, directed}
use Rattle.machine.specs.Shares.{whole, gone}
use Rattle.machine.specs.Stops.{blocked, sensor_active}

-- The first rule that applies gives the number; 0 where none does.
abbrev pub turned_by : ℕ → Bool → ℕ → ℕ
turned_by number applies rest = cond applies number rest

-- Positions are -524,288 to 524,287.
abbrev pub outside : ℤ → Bool
outside (pos n) = ltb 524287 n
outside (negsuc n) = ltb 524287 n

-- The final position of an axis, after the distances of a plan.
abbrev pub final : Machine → Plan → ℕ → ℤ
final m p k = m.position k +ℤ directed (p.minus k) (p.distance k)

-- The number that turns a start with this master away: 12 emergency held, 13 sensor active, 14 an axis is longer than
-- the master, 15 master distance 0, 16 an axis blocked, 17 a final position out of range.
abbrev pub start_number : Machine → ℕ → ℕ
start_number m master =
    turned_by 12 m.flags.emergency
    (turned_by 13 (sensor_active m)
    (turned_by 14 (some (λ k. ltb (m.next.distance master) (m.next.distance k)))
    (turned_by 15 (eqb (m.next.distance master) 0)
    (turned_by 16 (blocked m m.next)
    (turned_by 17 (some (λ k. outside (final m m.next k)))
    0)))))

-- A move begins or is carried on: bits 3 and 6 are cleared, the dwell ends and a stored start is dropped.
abbrev pub set_running : Machine → Move → Machine
set_running m v =
    with_pause (with_flags (with_move m v) (mark (mark m.flags 3 false) 6 false)) (record { left = 0; waiting = none })

-- A move begins: the distances and directions set, travels at 0, speed, phase and ticks 0.
abbrev pub new_move : Plan → ℕ → Move
new_move p master = move_of p master (λ k. 0) 0 0 0 true false false

abbrev pub begun : Machine → ℕ → Machine
begun m master = set_running m (new_move m.next master)

-- A start turned away by 14 sets bit 2.
abbrev pub notes : Machine → ℕ → Machine
notes m number = with_flags m (mark m.flags 2 (m.flags.wrong_master || eqb number 14))

-- ---- Carry on a stopped blend (paper 02, 6/14)

-- A stop ended the latest move short of M, and since then no distance line was accepted. A move at rest has m < M where
-- a stop ended it so, and only there: any other ended at m = M, and before any move M is 0. A start that took effect
-- since has begun another move, which is the latest.
abbrev pub can_carry_on : Machine → Bool
can_carry_on m = ltb (gone m.move) (whole m.move) && not m.move.replanned

-- The stored move's open distances: what its travels leave of them, in its directions.
abbrev pub open_plan : Machine → Plan
open_plan m = record {
  distance = λ k. m.move.plan.distance k - m.move.travel k;
  minus = m.move.plan.minus;
}

-- The number that turns a carry-on away behind 11: 26 nothing to carry on, 12 emergency held, 13 sensor active, 16 an
-- axis blocked, 17 a final position out of range, the last two over the open distances.
abbrev pub carry_number : Machine → ℕ
carry_number m =
    turned_by 26 (not (can_carry_on m))
    (turned_by 12 m.flags.emergency
    (turned_by 13 (sensor_active m)
    (turned_by 16 (blocked m (open_plan m))
    (turned_by 17 (some (λ k. outside (final m (open_plan m) k)))
    0))))

-- Speed and phase begin at 0, and the ticks again; plan, master and travels go on.
abbrev pub onwards : Move → Move
onwards v = move_of v.plan v.master v.travel 0 0 0 true false v.replanned

abbrev pub carried : Machine → Machine
carried m = set_running m (onwards m.move)
