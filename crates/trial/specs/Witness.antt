-- Trials, computed. Lines are written as texts; the machine has switch 0.
use Rattle.std.specs.Prelude.{ℕ, List, [], ◌∷◌, ◌≡◌, ℤ, pos, negsuc}
use Rattle.machine.specs.State.{with_watch}
use Rattle.machine.specs.Calls.{Call, tick, state, buffer, chars, bytes, line, lines}
use Rattle.trial.specs.declared.Trial.{Trial}
use Rattle.trial.specs.Trial.{turned, trial_of}

-- What is shown with these travels and positions of axes 0 to 2; axes 3 and 4 have none.
abbrev pub showing : ℕ → ℕ → ℕ → ℕ → ℤ → ℤ → ℤ → Trial
showing end a b c x y z = record {
  number = 0;
  end = end;
  travels = record { 0 = a } ∷ record { 0 = b } ∷ record { 0 = c } ∷ record { 0 = 0 } ∷ record { 0 = 0 } ∷ [];
  positions = x ∷ y ∷ z ∷ pos 0 ∷ pos 0 ∷ [];
}

-- The sensor is high-ON; axis 0 has distance 1 at 250 kHz and the steepest slope.
unfoldable pub ready : List Call
ready = lines ("P0000001" ∷ "P08F4240" ∷ "P0900FFF" ∷ "Q0E02000" ∷ []) []

-- Distances 5, 2 and minus 3.
unfoldable pub crooked : List Call
crooked = lines ("P0000005" ∷ "P0100002" ∷ "P0280003" ∷ []) ready

pub record TrialWitness : Type 0 where
  -- 3 before 25, 25 before 10, and 10 before the start's own
  pub word : trial_of (state 0 ready) 9 16777216 2000000 ≡ turned 3
  pub most : trial_of (state 0 ready) 9 16777215 1000001 ≡ turned 25
  pub master : trial_of (state 0 (line "Q080" ready)) 5 16777215 1000000 ≡ turned 10
  -- the start's own
  pub moving : trial_of (state 0 (line "Q080" ready)) 1 0 1000000 ≡ turned 11
  pub longer : trial_of (state 0 ready) 1 0 1000000 ≡ turned 14
  -- no tick
  pub none : trial_of (state 0 crooked) 0 0 0 ≡ showing 0 0 0 0 (pos 0) (pos 0) (pos 0)
  -- the held word has the sensor's bit: the start does not see it, the first tick does and ends the move; in the last
  -- word before, the start sees it
  pub unsensed : trial_of (state 0 ready) 0 8192 0 ≡ showing 0 0 0 0 (pos 0) (pos 0) (pos 0)
  pub sensed : trial_of (state 0 ready) 0 8192 3 ≡ showing 1 0 0 0 (pos 0) (pos 0) (pos 0)
  pub active : trial_of (state 0 (tick 8192 buffer ∷ ready)) 0 0 3 ≡ turned 13

-- The move of one pulse, and one back of axis 1, ends in tick 207, though the watch, on from power-on, has counted to
-- 999,990 and a half-received line would set another distance: the start zeroes the one, and the other is aside.
pub record WholeTrial : Type 0 where
  pub ends : trial_of (with_watch (state 0 (bytes (chars "P0000003") (line "P0180001" ready))) 999990) 0 0 207
      ≡ showing 207 1 1 0 (pos 1) (negsuc 0) (pos 0)
