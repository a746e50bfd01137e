-- Paper 02, 3/14, on a few lists from power-on with switch 0: the blocks of W lines that ticks answer. A list has its
-- latest call first.
use Rattle.std.specs.Prelude.{List, [], ◌∷◌, ◌≡◌, pos, replicate, drop}
use Rattle.machine.specs.Entries.{entry}
use Rattle.machine.specs.Steps.{tick_step}
use Rattle.machine.specs.Calls.{Call, tick, state, buffer, chars, line, lines, ticks}
use Rattle.machine.specs.Marked.{told}
use Rattle.machine.specs.Journal.{latest_entry}
use Rattle.machine.specs.Settle.{latest_block}

-- A W line with a small identification, and 2,499 ticks with the word 5.
abbrev pub settling : List Call
settling = ticks 2499 5 (line "W0ABCDEFf" [])

-- The same with the capital and with calls in between that do not count: a W line that is turned away by 9, ticks that
-- 2 and 3 turn away.
abbrev pub disturbed : List Call
disturbed =
    ticks 1499 5 (tick 16777216 buffer ∷ tick 5 (replicate 119 0) ∷ line "W01" (ticks 1000 5 (line "W0ABCDEFF" [])))

-- A query that takes the place of the line, and 2,499 ticks.
abbrev pub replaced : List Call
replaced = ticks 2499 5 (line "W0" (ticks 1000 5 (line "W0ABCDEF1" [])))

-- A silent query that does.
abbrev pub silenced : List Call
silenced = ticks 2499 5 (lines ("W0" ∷ "W4" ∷ []) [])

-- A W line placed so that its 2,500th tick ends a move, and so that it is the one in which a stored start fails.
abbrev pub ending : List Call
ending =
    ticks 206 0 (lines ("P0000001" ∷ "P08F4240" ∷ "P0900FFF" ∷ "Q080" ∷ []) (ticks 2293 0 (line "W0" [])))

abbrev pub failing : List Call
failing =
    ticks 249 0 (lines ("Q08A" ∷ "P0100002" ∷ []) (ticks 207 0
    (lines ("P0280001" ∷ "P08F4240" ∷ "P0900FFF" ∷ "P0A00001" ∷ "Q082" ∷ []) (ticks 2043 0 (line "W0" [])))))

pub record OneTick : Type 0 where
  -- the block comes beside the entry of the move that ends there
  pub block : latest_block 0 (tick 7 buffer ∷ ending) ≡ chars "R0000007\r"
  pub entry : latest_entry 0 (tick 7 buffer ∷ ending)
      ≡ entry (record { ticks = 207; cause = 0; travels = pos 1 ∷ pos 0 ∷ pos 0 ∷ pos 0 ∷ pos 0 ∷ [] })
  -- and beside the number of the start that fails there
  pub block_too : latest_block 0 (tick 7 buffer ∷ failing) ≡ chars "R0000007\r"
  pub number : (tick_step (state 0 failing) 7 buffer).number ≡ 14

-- The words and the number of a tick after the W line, and what q 8 tells.
pub record Words : Type 0 where
  -- its outputs show in the next tick, and stay for a query and for W lines that are turned away
  pub shown : (tick_step (state 0 (line "W0ABCDEF1" [])) 0 buffer).first ≡ 0xABCC00
  pub kept : (tick_step (state 0 (lines ("W0ABCDEF1" ∷ "W0" ∷ "W01" ∷ "W0123456G" ∷ []) [])) 0 buffer).first ≡ 0xABCC00
  pub silent : (tick_step (state 0 (lines ("W0ABCDEF1" ∷ "W4123456" ∷ []) [])) 0 buffer).second ≡ 0x123400
  -- 2 with a good word, 3 with a buffer of 120 bytes, none with the greatest word, 2 before 3; words are 0 then
  pub short : (tick_step (state 0 (line "W0ABCDEF1" [])) 5 (replicate 119 0)).number ≡ 2
  pub dark : (tick_step (state 0 (line "W0ABCDEF1" [])) 5 (replicate 119 0)).first ≡ 0
  pub large : (tick_step (state 0 (line "W0ABCDEF1" [])) 16777216 buffer).number ≡ 3
  pub taken : (tick_step (state 0 (line "W0ABCDEF1" [])) 16777215 buffer).number ≡ 0
  pub first : (tick_step (state 0 (line "W0ABCDEF1" [])) 16777216 (replicate 119 0)).number ≡ 2
  -- q 8 tells the inputs of the last tick, at once, while the W line waits
  pub inputs : drop 99 (told (state 0 (tick 5 buffer ∷ line "W0ABCDEF1" [])) "q08").reply ≡ chars "R0000005\r"

pub record BlockWitness : Type 0 where
  -- the 2,500th tick answers the block, with its own inputs and the line's very identification; those about it
  -- answer none
  pub before : latest_block 0 settling ≡ []
  pub due : latest_block 0 (tick 0x123456 buffer ∷ settling) ≡ chars "R0123456f\r"
  pub after : latest_block 0 (tick 0x123456 buffer ∷ tick 5 buffer ∷ settling) ≡ []
  pub uncounted : latest_block 0 (tick 7 buffer ∷ disturbed) ≡ chars "R0000007F\r"
  pub later : latest_block 0 (tick 7 buffer ∷ replaced) ≡ chars "R0000007\r"
  pub none : latest_block 0 (tick 7 buffer ∷ silenced) ≡ []
  -- a tick that is turned away answers none
  pub short : latest_block 0 (tick 7 (replicate 119 0) ∷ settling) ≡ []
  pub one_tick : OneTick
  pub words : Words
