-- Lists of calls to which demand 3 has something to say. One: a start takes effect, its move is stopped by order 9 at
-- a pulse where the shares are no whole numbers, and another runs to its end. Distances 5, 2 and minus 3, master 0,
-- switch 0. Another, with a dwell of 1 ms: a start stored in the dwell begins with the master that it names, and one
-- fails as its dwell runs out. And a start turned away by each of its numbers.
use Rattle.std.specs.Prelude.{ℕ, Bool, true, false, List, [], ◌∷◌, ◌≡◌, ℤ, pos, negsuc}
use Prim.Native.String.{String}
use Rattle.laws.specs.Axes.{each}
use Rattle.machine.specs.State.{none, start}
use Rattle.machine.specs.Steps.{tick_step}
use Rattle.machine.specs.Calls.{Call, tick, state, buffer, line, lines, ticks}
use Rattle.machine.specs.Marked.{told}
use Rattle.machine.specs.Flagged.{Flagged}
use Rattle.machine.specs.List.{
  paused,
  started,
  ends,
  goes_on,
  stop_begun,
  distance,
  minus,
  master,
  travel,
  counted,
  position,
  signed,
  latest,
}

-- ---- The lists, the latest call first; ticks have the input word 0

-- Distances, speed and slope.
abbrev pub prepared : List Call
prepared = lines ("P0000005" ∷ "P0100002" ∷ "P0280003" ∷ "P08F4240" ∷ "P0900FFF" ∷ []) []

-- The start; order 9 under way; the tick that ends the stopped move; the start again; the tick that ends that move.
unfoldable pub begun : List Call
begun = line "Q080" prepared

unfoldable pub ordered : List Call
unfolding begun
ordered = line "Q09" (ticks 199 0 begun)

unfoldable pub stopped : List Call
unfolding ordered
stopped = ticks 199 0 ordered

unfoldable pub again : List Call
unfolding stopped
again = line "Q080" stopped

unfoldable pub finished : List Call
unfolding again
finished = ticks 480 0 again

-- A move of one pulse that axis 2 makes as master, ended in its 207th tick, with a dwell of 1 ms; then a start with
-- master 2 is stored (Q08A), and one with master 1 (Q089), which replaces it.
unfoldable pub dwelling : List Call
dwelling = ticks 207 0 (lines ("P0280001" ∷ "P08F4240" ∷ "P0900FFF" ∷ "P0A00001" ∷ "Q082" ∷ []) [])

unfoldable pub waiting : List Call
unfolding dwelling
waiting = line "Q089" (line "Q08A" dwelling)

-- The distances that the stored start is to find: axis 1 is as long as axis 2 in the one list, shorter in the other.
-- The dwell runs out in its 250th tick.
unfoldable pub passing : List Call
unfolding waiting
passing = ticks 249 0 (line "P0100001" waiting)

unfoldable pub failing : List Call
unfolding waiting
failing = ticks 249 0 waiting

-- A move of one pulse of axis 0.
abbrev pub move_of_one : List String
move_of_one = "P0000001" ∷ "P08F4240" ∷ "P0900FFF" ∷ "Q080" ∷ []

-- ---- What demand 3 reads off a list

-- Whether a start has taken effect, the latest move goes on, a stop has begun in it, and it ends in the latest call.
pub record Phase : Type 0 where
  pub started : Bool
  pub goes_on : Bool
  pub stop_begun : Bool
  pub ends : Bool

abbrev pub phase_of : List Call → Phase
phase_of h = record { started = started 0 h; goes_on = goes_on 0 h; stop_begun = stop_begun 0 h; ends = ends 0 h }

-- Of the five axes: travels, the pulses that ticks answered since the start, and the answers of the latest call.
pub record Figures : Type 0 where
  pub travel : List ℕ
  pub counted : List ℕ
  pub latest : List ℤ

abbrev pub figures_of : List Call → Figures
figures_of h = record {
  travel = each (travel 0 h);
  counted = each (counted 0 h);
  latest = each (latest 0 h);
}

-- The number that a tick after the list answers: that of a waiting start that failed, or 0.
abbrev pub told_by : List Call → ℕ
told_by h = (tick_step (state 0 h) 0 buffer).number

-- The first list, up to the end of the stopped move.
pub record Moved : Type 0 where
  -- no start has taken effect before the line that starts, and one has with it
  pub resting : phase_of prepared ≡ record { started = false; goes_on = false; stop_begun = false; ends = false }
  pub starts : phase_of begun ≡ record { started = true; goes_on = true; stop_begun = false; ends = false }
  -- order 9 begins a stop; the move goes on
  pub orders : phase_of ordered ≡ record { started = true; goes_on = true; stop_begun = true; ends = false }
  -- it ends short of M, at m = 3, where 3 × 2 / 5 and 3 × 3 / 5 are no whole numbers
  pub stops : phase_of stopped ≡ record { started = true; goes_on = false; stop_begun = true; ends = true }
  pub short : figures_of stopped ≡ record {
    travel = 3 ∷ 1 ∷ 1 ∷ 0 ∷ 0 ∷ [];
    counted = 3 ∷ 1 ∷ 1 ∷ 0 ∷ 0 ∷ [];
    latest = pos 0 ∷ pos 0 ∷ pos 0 ∷ pos 0 ∷ pos 0 ∷ [];
  }

-- The first list, with its second move.
pub record Finished : Type 0 where
  -- the same distances started again run to their end, and all three pumps send their last pulse in one tick
  pub restarts : phase_of again ≡ record { started = true; goes_on = true; stop_begun = false; ends = false }
  pub finishes : phase_of finished ≡ record { started = true; goes_on = false; stop_begun = false; ends = true }
  pub full : figures_of finished ≡ record {
    travel = 5 ∷ 2 ∷ 3 ∷ 0 ∷ 0 ∷ [];
    counted = 5 ∷ 2 ∷ 3 ∷ 0 ∷ 0 ∷ [];
    latest = pos 1 ∷ pos 1 ∷ negsuc 0 ∷ pos 0 ∷ pos 0 ∷ [];
  }
  -- positions are the sums of the answers of both moves
  pub positions : each (position 0 finished) ≡ pos 8 ∷ pos 3 ∷ negsuc 3 ∷ pos 0 ∷ pos 0 ∷ []
  pub sums : each (signed 0 finished) ≡ pos 8 ∷ pos 3 ∷ negsuc 3 ∷ pos 0 ∷ pos 0 ∷ []
  -- distances and directions are those of the distance lines
  pub distances : each (distance 0 finished) ≡ 5 ∷ 2 ∷ 3 ∷ 0 ∷ 0 ∷ []
  pub directions : each (minus 0 finished) ≡ false ∷ false ∷ true ∷ false ∷ false ∷ []

-- The lists with a dwell.
pub record Stored : Type 0 where
  -- the later of two starts stored in a dwell waits until its last tick, and there begins with the master that it names
  pub dwells : phase_of dwelling ≡ record { started = true; goes_on = false; stop_begun = false; ends = true }
  pub replaces : (paused 0 waiting).waiting ≡ start 1
  pub waits : (paused 0 passing).waiting ≡ start 1
  pub before : phase_of passing ≡ record { started = true; goes_on = false; stop_begun = false; ends = false }
  pub begins : phase_of (tick 0 buffer ∷ passing)
      ≡ record { started = true; goes_on = true; stop_begun = false; ends = false }
  pub named : master 0 (tick 0 buffer ∷ passing) ≡ 1
  pub tried : (paused 0 (tick 0 buffer ∷ passing)).waiting ≡ none
  pub passes : told_by passing ≡ 0
  -- that tick is the first of its move: a move of one pulse ends in the 207th, counted from it
  pub lasts : phase_of (ticks 207 0 passing) ≡ record { started = true; goes_on = false; stop_begun = false; ends = true }
  -- order 9 drops it; a plain start in the dwell begins at once and drops it; with no dwell a start after the dwell is
  -- a plain one
  pub unstores : (paused 0 (line "Q09" waiting)).waiting ≡ none
  pub plain : phase_of (line "Q082" waiting) ≡ record { started = true; goes_on = true; stop_begun = false; ends = false }
  pub replaced : (paused 0 (line "Q082" waiting)).waiting ≡ none
  pub undwelt : phase_of (line "Q088" prepared)
      ≡ record { started = true; goes_on = true; stop_begun = false; ends = false }
  -- with an axis longer than that master it fails there with 14 and is dropped, and no move begins
  pub fails : told_by failing ≡ 14
  pub rests : phase_of (tick 0 buffer ∷ failing)
      ≡ record { started = true; goes_on = false; stop_begun = false; ends = false }
  pub keeps : master 0 (tick 0 buffer ∷ failing) ≡ 2
  pub dropped : (paused 0 (tick 0 buffer ∷ failing)).waiting ≡ none

-- What a start is answered after some lines, and after a tick.
abbrev pub answer_to : List Call → ℕ
answer_to h = (told (state 0 h) "Q080").number

-- A start is turned away by each of its numbers: a move runs; emergency held; sensor active; an axis longer than the
-- master; master distance 0; an axis blocked; a final position out of range, a pulse after 524,287 more.
pub record TurnedAway : Type 0 where
  pub running : answer_to begun ≡ 11
  pub emergency : answer_to (tick 0 buffer ∷ lines ("Q0D01000" ∷ []) prepared) ≡ 12
  pub sensor : answer_to (lines ("Q0D02000" ∷ []) prepared) ≡ 13
  pub longer : answer_to (lines ("P0100006" ∷ []) prepared) ≡ 14
  pub resting : answer_to [] ≡ 15
  pub blocked : answer_to (lines ("P0080001" ∷ "Q0D00001" ∷ []) []) ≡ 16
  pub outside : answer_to (lines ("P007FFFF" ∷ []) (ticks 207 0 (lines move_of_one []))) ≡ 17

pub record Witness : Type 0 where
  pub moved : Moved
  pub finished : Finished
  pub stored : Stored
  pub turned_away : TurnedAway
  pub flagged : Flagged
