-- Paper 01, "Ramp": one tick of a move.
use Rattle.std.specs.Prelude.{ℕ, ◌+◌, ◌-◌, ◌*◌, min, max, false, cond, not, ◌&&◌, ltb, leb, eqb, ℤ, pos, ◌+ℤ◌}
use Rattle.machine.specs.State.{Settings, Move, Machine, move_of, with_move, with_position, with_pause}
use Rattle.machine.specs.Shares.{whole, gone, share, pulse}
use Rattle.machine.specs.Entries.{EntryAnswer, no_entry, entry, entry_of}

-- The phase at which the master pulses.
abbrev pub full : ℕ
full = 50000000

-- R = (M - m) × 50,000,000 - phase. In each tick of a move m < M and phase < 50,000,000, so nothing is cut off.
abbrev pub remaining : Move → ℕ
remaining v = (whole v - gone v) * full - v.phase

-- u falls by a but not below a, and stays where it is at or below a.
abbrev pub braked : ℕ → ℕ → ℕ
braked u a = cond (leb u a) u (max (u - a) a)

-- u goes towards the target by at most a.
abbrev pub towards : ℕ → ℕ → ℕ → ℕ
towards u target a = cond (leb u target) (min (u + a) target) (max (u - a) target)

-- The speed of this tick: stopping it falls by a; else, where u × u ≥ 2 × a × R, it is braked, and else goes towards
-- 50 × V.
abbrev pub ramped : Settings → Move → ℕ
ramped s v =
    cond v.stopping (v.speed - s.slope)
    (cond (leb (2 * s.slope * remaining v) (v.speed * v.speed)) (braked v.speed s.slope)
    (towards v.speed (50 * s.speed) s.slope))

-- The move with another speed and phase.
abbrev pub at_speed : Move → ℕ → ℕ → Move
at_speed v u phase =
    move_of v.plan v.master v.travel u phase v.ticks v.moving v.stopping v.replanned

-- At any end u and phase become 0 and the dwell starts: 250 ticks for each ms set.
abbrev pub at_rest : Move → Move
at_rest v = move_of v.plan v.master v.travel 0 0 v.ticks false false v.replanned

abbrev pub ended : Machine → Machine
ended m = with_pause (with_move m (at_rest m.move))
    (record { left = 250 * m.settings.dwell; waiting = m.pause.waiting })

-- What a tick's ramp leaves, the pulse that each axis sends, and the entry of a move that ends in it.
pub record Ran : Type 0 where
  pub machine : Machine
  pub pulse : ℕ → ℤ
  pub entry : EntryAnswer

abbrev pub quiet : Machine → Ran
quiet m = record { machine = m; pulse = λ k. pos 0; entry = no_entry }

-- A move that ends without a pulse.
abbrev pub halted : Machine → Ran
halted m = record { machine = ended m; pulse = λ k. pos 0; entry = entry (entry_of m.move) }

-- The master pulses: travels become shares of the master travel n, positions change by one with each pulse.
abbrev pub shared : Move → ℕ → ℕ → ℕ → Move
shared v u phase n =
    move_of v.plan v.master (share v n) u phase v.ticks v.moving v.stopping v.replanned

abbrev pub stepped : Machine → ℕ → ℕ → ℕ → Machine
stepped m u phase n =
    with_position (with_move m (shared m.move u phase n)) (λ k. m.position k +ℤ pulse m.move n k)

-- At m = M the move ends.
abbrev pub pulsed : Machine → ℕ → ℕ → ℕ → Ran
pulsed m u phase n = record {
  machine = cond (eqb n (whole m.move)) (ended (stepped m u phase n)) (stepped m u phase n);
  pulse = pulse m.move n;
  entry = cond (eqb n (whole m.move)) (entry (entry_of (stepped m u phase n).move)) no_entry;
}

-- Then phase grows by u; at 50,000,000 or more it loses 50,000,000 and the master pulses.
abbrev pub advanced : Machine → ℕ → ℕ → Ran
advanced m u grown =
    cond (ltb grown full)
    (quiet (with_move m (at_speed m.move u grown)))
    (pulsed m u (grown - full) (gone m.move + 1))

-- A tick of a move's ramp: if stopping and u ≤ a, the move ends without a pulse.
abbrev pub ramps : Machine → Ran
ramps m =
    cond (m.move.stopping && leb m.move.speed m.settings.slope) (halted m)
    (advanced m (ramped m.settings m.move) (m.move.phase + ramped m.settings m.move))

-- Paper 02, 1/14: it is one more of the move's ticks, the ending one included.
abbrev pub tallied : Machine → Machine
tallied m =
    let v = m.move in
    with_move m
    (move_of v.plan v.master v.travel v.speed v.phase (v.ticks + 1) v.moving v.stopping
    v.replanned)

-- Nothing at rest.
abbrev pub runs : Machine → Ran
runs m = cond (not m.move.moving) (quiet m) (ramps (tallied m))
