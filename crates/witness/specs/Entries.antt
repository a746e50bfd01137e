-- Paper 02, 1/14, on the lists of Witness.antt and a few more: the entries that ticks answer. Ticks have the input word
-- 0.
use Rattle.std.specs.Prelude.{ℕ, List, [], ◌∷◌, ◌≡◌, ℤ, pos, negsuc, replicate}
use Rattle.machine.specs.Entries.{EntryAnswer, no_entry, entry}
use Rattle.machine.specs.Calls.{Call, tick, buffer, line, lines, ticks}
use Rattle.machine.specs.Journal.{latest_entry}
use Rattle.witness.specs.Witness.{stopped, finished, passing, move_of_one}

-- An entry with these travels of axes 0 to 2; axes 3 and 4 have none.
abbrev pub told : ℕ → ℕ → ℤ → ℤ → ℤ → EntryAnswer
told ticks cause a b c =
    entry (record { ticks = ticks; cause = cause; travels = a ∷ b ∷ c ∷ pos 0 ∷ pos 0 ∷ [] })

-- A move of one pulse: order 9 as its line ends, and order 9 before the very tick that reaches m = M.
unfoldable pub halted : List Call
halted = line "Q09" (lines move_of_one [])

unfoldable pub late : List Call
late = line "Q09" (ticks 206 0 (lines move_of_one []))

-- The printed session of paper 01: distances 1 and minus 1.
unfoldable pub printed : List Call
printed = ticks 206 0 (lines ("P0000001" ∷ "P0180001" ∷ "P08F4240" ∷ "P0900FFF" ∷ "Q080" ∷ []) [])

pub record EntryWitness : Type 0 where
  -- the tick that ends a move answers its entry, and the one before and the one after it none
  pub ends : latest_entry 0 (tick 0 buffer ∷ printed) ≡ told 207 0 (pos 1) (negsuc 0) (pos 0)
  pub before : latest_entry 0 printed ≡ no_entry
  pub after : latest_entry 0 (tick 0 buffer ∷ tick 0 buffer ∷ printed) ≡ no_entry
  -- a tick that is turned away, by 3 or by 2, is none of the move's
  pub refused : latest_entry 0 (tick 16777216 buffer ∷ printed) ≡ no_entry
  pub uncounted : latest_entry 0 (tick 0 buffer ∷ tick 16777216 buffer ∷ printed) ≡ told 207 0 (pos 1) (negsuc 0) (pos 0)
  pub short : latest_entry 0 (tick 0 (replicate 119 0) ∷ printed) ≡ no_entry
  pub unlent : latest_entry 0 (tick 0 buffer ∷ tick 0 (replicate 119 0) ∷ printed)
      ≡ told 207 0 (pos 1) (negsuc 0) (pos 0)
  -- stopped short of M: cause 1; the same distances started again, to their end
  pub stops : latest_entry 0 stopped ≡ told 398 1 (pos 3) (pos 1) (negsuc 0)
  pub restarts : latest_entry 0 finished ≡ told 480 0 (pos 5) (pos 2) (negsuc 2)
  -- stopped in its first tick, without a pulse
  pub first : latest_entry 0 (tick 0 buffer ∷ halted) ≡ told 1 1 (pos 0) (pos 0) (pos 0)
  -- m reaches M though a stop has begun: cause 0
  pub reaches : latest_entry 0 (tick 0 buffer ∷ late) ≡ told 207 0 (pos 1) (pos 0) (pos 0)
  -- a stored start's own tick is the first of its move
  pub stored : latest_entry 0 (ticks 207 0 passing) ≡ told 207 0 (pos 0) (pos 1) (negsuc 0)
