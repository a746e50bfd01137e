-- Paper 02, 6/14, on the move of Witness.antt that order 9 stops where its shares are no whole numbers: it is carried
-- on, stopped again, and carried on to its whole end. And which lists leave a move to carry on. Ticks have the input
-- word 0.
use Rattle.std.specs.Prelude.{ℕ, true, false, List, [], ◌∷◌, ◌≡◌, pos, negsuc}
use Rattle.laws.specs.Axes.{each}
use Rattle.machine.specs.State.{none, start}
use Rattle.machine.specs.Stops.{status}
use Rattle.machine.specs.Calls.{Call, tick, state, buffer, chars, line, lines, ticks}
use Rattle.machine.specs.Marked as marked
use Rattle.machine.specs.List.{paused, position, signed}
use Rattle.machine.specs.Journal.{latest_entry}
use Rattle.witness.specs.Witness.{prepared, begun, stopped, phase_of, figures_of}
use Rattle.witness.specs.Entries.{told, late}

-- Carried on from m = 3; stopped by order 9 at its next pulse, and ended at m = 4; carried on; and its end.
unfoldable pub carried : List Call
unfolding stopped
carried = line "Q0C" stopped

unfoldable pub stopped_again : List Call
unfolding carried
stopped_again = ticks 156 0 (line "Q09" (ticks 156 0 carried))

unfoldable pub carried_again : List Call
unfolding stopped_again
carried_again = line "Q0C" stopped_again

unfoldable pub whole : List Call
unfolding carried_again
whole = ticks 207 0 carried_again

-- A move stopped in its first tick, with a dwell of 1 ms, and a start that is stored in it.
unfoldable pub dwelt : List Call
dwelt = line "Q088" (tick 0 buffer ∷ lines ("P0A00001" ∷ "Q080" ∷ "Q09" ∷ []) prepared)

-- The longest move, stopped in its 207th tick.
unfoldable pub far_stopped : List Call
far_stopped = ticks 208 0 (line "Q09" (ticks 207 0 (lines ("P007FFFF" ∷ "P08F4240" ∷ "P0900FFF" ∷ "Q080" ∷ []) [])))

-- The first carry-on, and the stop in it.
pub record Resumed : Type 0 where
  -- the move goes on, and no stop has begun in it since; its travels are those that the first stop left
  pub resumes : phase_of carried ≡ record { started = true; goes_on = true; stop_begun = false; ends = false }
  pub kept : figures_of carried ≡ record {
    travel = 3 ∷ 1 ∷ 1 ∷ 0 ∷ 0 ∷ [];
    counted = 3 ∷ 1 ∷ 1 ∷ 0 ∷ 0 ∷ [];
    latest = pos 0 ∷ pos 0 ∷ pos 0 ∷ pos 0 ∷ pos 0 ∷ [];
  }
  -- bit 3 was set and is cleared
  pub was : status (state 0 stopped) ≡ 8
  pub now : status (state 0 carried) ≡ 3
  -- the second stop ends it at m = 4, with the ticks since the carry-on
  pub stops : phase_of stopped_again ≡ record { started = true; goes_on = false; stop_begun = true; ends = true }
  pub short : figures_of stopped_again ≡ record {
    travel = 4 ∷ 1 ∷ 2 ∷ 0 ∷ 0 ∷ [];
    counted = 4 ∷ 1 ∷ 2 ∷ 0 ∷ 0 ∷ [];
    latest = pos 0 ∷ pos 0 ∷ pos 0 ∷ pos 0 ∷ pos 0 ∷ [];
  }
  pub entry : latest_entry 0 stopped_again ≡ told 312 1 (pos 4) (pos 1) (negsuc 1)

-- The second carry-on, and the whole end.
pub record Whole : Type 0 where
  pub resumes : phase_of carried_again ≡ record { started = true; goes_on = true; stop_begun = false; ends = false }
  -- no stop has begun in it since: it ends at m = M, and all three pumps send their last pulse in one tick
  pub finishes : phase_of whole ≡ record { started = true; goes_on = false; stop_begun = false; ends = true }
  pub full : figures_of whole ≡ record {
    travel = 5 ∷ 2 ∷ 3 ∷ 0 ∷ 0 ∷ [];
    counted = 5 ∷ 2 ∷ 3 ∷ 0 ∷ 0 ∷ [];
    latest = pos 1 ∷ pos 1 ∷ negsuc 0 ∷ pos 0 ∷ pos 0 ∷ [];
  }
  -- positions are the sums: nothing was sent twice and nothing lost
  pub positions : each (position 0 whole) ≡ pos 5 ∷ pos 2 ∷ negsuc 2 ∷ pos 0 ∷ pos 0 ∷ []
  pub sums : each (signed 0 whole) ≡ pos 5 ∷ pos 2 ∷ negsuc 2 ∷ pos 0 ∷ pos 0 ∷ []
  -- the entry has the whole travels and the ticks since the carry-on
  pub entry : latest_entry 0 whole ≡ told 207 0 (pos 5) (pos 2) (negsuc 2)

-- What a line Q C is answered after a list.
abbrev pub answer_to : List Call → ℕ
answer_to h = (marked.told (state 0 h) "Q0C").number

pub record Carryable : Type 0 where
  -- a stopped move is carried on; so it is after lines that were turned away (a start by 14, a speed of 0 by 10, a
  -- distance of too few digits by 9), other settings, order 9 at rest and a position reset
  pub taken : answer_to stopped ≡ 0
  pub still : answer_to (lines ("Q081" ∷ "P0800000" ∷ "P000005" ∷ "P0900001" ∷ "P0A00001" ∷ "Q09" ∷ "Q0B" ∷ []) stopped)
      ≡ 0
  -- the reply echoes the digits
  pub echoes : (marked.told (state 0 stopped) "Q0C123").reply ≡ chars "S0C12300\r"
  -- 11 while it runs, 26 before any move, after one that went its whole distance, though a stop had begun in it, and
  -- after a distance line with the same value, silent or not
  pub running : answer_to begun ≡ 11
  pub none : answer_to prepared ≡ 26
  pub tells : (marked.told (state 0 prepared) "Q0C").reply ≡ chars "U000001A\r"
  pub ended : answer_to (tick 0 buffer ∷ late) ≡ 26
  pub distance : answer_to (line "P0000005" stopped) ≡ 26
  pub silent : answer_to (line "P4000005" stopped) ≡ 26
  -- then 12, 13 and 16; 26 comes before them
  pub emergency : answer_to (tick 0 buffer ∷ line "Q0D01000" stopped) ≡ 12
  pub sensor : answer_to (line "Q0D02000" stopped) ≡ 13
  pub blocked : answer_to (line "Q0D00002" stopped) ≡ 16
  pub first : answer_to (line "Q0D02000" prepared) ≡ 26
  -- 13 comes before 16, and 12 before both
  pub sensor_first : answer_to (line "Q0D02002" stopped) ≡ 13
  pub emergency_first : answer_to (tick 0 buffer ∷ line "Q0D03002" stopped) ≡ 12
  -- 17 is over what is open: a move of 524,287 pulses that was stopped after some of them is carried on
  pub far : answer_to far_stopped ≡ 0
  pub far_gone : each (position 0 far_stopped) ≡ pos 3 ∷ pos 0 ∷ pos 0 ∷ pos 0 ∷ pos 0 ∷ []
  -- both replies have the identification, and a silent line has none
  pub named : (marked.told (state 0 stopped) "Q0C12345F").reply ≡ chars "S0C12345F\r"
  pub turned_named : (marked.told (state 0 prepared) "Q0C00000A").reply ≡ chars "U000001AA\r"
  pub unanswered : (marked.told (state 0 stopped) "Q4C").reply ≡ []

-- In a dwell, with a start that waits for its end: a carry-on ends the one and drops the other.
pub record Undwelt : Type 0 where
  pub waits : paused 0 dwelt ≡ record { left = 250; waiting = start 0 }
  pub taken : answer_to dwelt ≡ 0
  pub drops : paused 0 (line "Q0C" dwelt) ≡ record { left = 0; waiting = none }

pub record CarryWitness : Type 0 where
  pub resumed : Resumed
  pub whole : Whole
  pub carryable : Carryable
  pub undwelt : Undwelt
