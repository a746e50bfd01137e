-- Paper 01, "Marked, and traps": what is proved together as one table. Power-on is with switch 0; lines are written as
-- texts and go in byte by byte; ticks have the input word 0.
use Rattle.std.specs.Prelude.{ℕ, zero, suc, Bool, true, cond, not, List, [], ◌∷◌, ◌≡◌, eqb, negsuc, nat_abs, get_or}
use Prim.Native.String.{String}
use Rattle.laws.specs.Axes.{some, each}
use Rattle.line.specs.declared.command.Command.TheVariants as C
use Rattle.line.specs.Line.{judge_of, accepting}
use Rattle.machine.specs.State.{Machine}
use Rattle.machine.specs.Replies.{travel_of, position_of}
use Rattle.machine.specs.Steps.{power_on, ByteAnswer, byte_step, TickAnswer, tick_step}
use Rattle.machine.specs.Calls.{from, state, buffer, chars, bytes, lines, ticks}

-- ---- Lines and ticks

-- What a line is answered by the machine m: the answer to its 0D.
abbrev pub told : Machine → String → ByteAnswer
told m l = byte_step (from m (bytes (chars l) [])) 13 buffer

-- Whether a tick answers a pulse for some axis.
abbrev pub pulses : TickAnswer → Bool
pulses a = some (λ k. not (eqb (nat_abs (a.pulse k)) 0))

-- Tick i answered a: of it and those after it, n in all, the first that answers a pulse; 0 where none does.
abbrev pub first_from : ℕ → ℕ → TickAnswer → ℕ
first_from zero i a = 0
first_from (suc n) i a = cond (pulses a) i (first_from n (suc i) (tick_step a.machine 0 buffer))

-- The travels of the five axes after each tick that answers a pulse, of the tick that answered a and those after it,
-- n in all.
abbrev pub noted : Bool → List ℕ → List (List ℕ) → List (List ℕ)
noted on row rows = cond on (row ∷ rows) rows

abbrev pub rows_from : ℕ → TickAnswer → List (List ℕ)
rows_from zero a = []
rows_from (suc n) a = noted (pulses a) (each (travel_of a.machine)) (rows_from n (tick_step a.machine 0 buffer))

-- What axis k has in each row.
abbrev pub column : ℕ → List (List ℕ) → List ℕ
column k [] = []
column k (row ∷ rows) = get_or row k 0 ∷ column k rows

-- ---- The runs

-- Of the first n ticks after some lines the first that answers a pulse; 0 where none does.
unfoldable pub first_pulse : ℕ → List String → ℕ
first_pulse n ls = first_from n 1 (tick_step (state 0 (lines ls [])) 0 buffer)

-- The travels of the five axes after each pulse, of the first n ticks after some lines.
unfoldable pub travels : ℕ → List String → List (List ℕ)
travels n ls = rows_from n (tick_step (state 0 (lines ls [])) 0 buffer)

-- The machine after some lines and n ticks.
unfoldable pub ticked : ℕ → List String → Machine
ticked n ls = state 0 (ticks n 0 (lines ls []))

-- V 1,000,000, M 1,000, and a 4,095 or 16.
abbrev pub steep : List String
steep = "P00003E8" ∷ "P08F4240" ∷ "P0900FFF" ∷ "Q080" ∷ []

abbrev pub gentle : List String
gentle = "P00003E8" ∷ "P08F4240" ∷ "P0900010" ∷ "Q080" ∷ []

-- M 5 with d 2, d 3, d 5 and d 0 at axes 1 to 4; the move takes 480 ticks.
abbrev pub five : List String
five =
    "P0000005" ∷ "P0100002" ∷ "P0200003" ∷ "P0300005" ∷ "P0400000" ∷ "P08F4240" ∷ "P0900FFF" ∷ "Q080"
    ∷ []

-- The lines of the printed session before its 1,000 ticks.
abbrev pub printed : List String
printed = "P0000001" ∷ "P0180001" ∷ "P08F4240" ∷ "P0900FFF" ∷ "Q080" ∷ []

-- ---- The table

pub record Marked : Type 0 where
  -- M 5, after its five pulses: d 2 travels 0 0 1 1 2; d 3 travels 0 1 1 2 3; d 5 follows; d 0 rests
  pub master : column 0 (travels 480 five) ≡ 1 ∷ 2 ∷ 3 ∷ 4 ∷ 5 ∷ []
  pub two : column 1 (travels 480 five) ≡ 0 ∷ 0 ∷ 1 ∷ 1 ∷ 2 ∷ []
  pub three : column 2 (travels 480 five) ≡ 0 ∷ 1 ∷ 1 ∷ 2 ∷ 3 ∷ []
  pub follows : column 3 (travels 480 five) ≡ 1 ∷ 2 ∷ 3 ∷ 4 ∷ 5 ∷ []
  pub rests : column 4 (travels 480 five) ≡ 0 ∷ 0 ∷ 0 ∷ 0 ∷ 0 ∷ []
  -- a 4,095, V 1,000,000, M 1,000: first pulse in tick 156; a 16, V 1,000,000, M 1,000: tick 2,500
  pub steep_first : first_pulse 156 steep ≡ 156
  pub gentle_first : first_pulse 2500 gentle ≡ 2500
  -- speed F4240 taken, F4241 is 10
  pub speed_read : judge_of (chars "P08F4240") ≡ accepting (C.Set 8 1000000) 0x8F4240
  pub speed_taken : (told (power_on 0) "P08F4240").machine.settings.speed ≡ 1000000
  pub speed_over : (told (power_on 0) "P08F4241").number ≡ 10
  -- position -1 reads FFFFF (negsuc 0 is -1)
  pub position : position_of (ticked 1000 printed) 1 ≡ negsuc 0
  pub position_read : (told (ticked 1000 printed) "q01").reply ≡ chars "s01FFFFF\r"
  -- P0281388 is axis 2, minus 5,000
  pub distance_read : judge_of (chars "P0281388") ≡ accepting (C.Distance 2 true 5000) 0x281388
  pub distance : (told (power_on 0) "P0281388").machine.next.distance 2 ≡ 5000
  pub minus : (told (power_on 0) "P0281388").machine.next.minus 2 ≡ true
