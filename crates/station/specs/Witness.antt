-- Lists that meet the premises of `Executes`, computed: two speeds, a move of both axes, moves of one axis each, all
-- run to their end, and a stop at rest, with a tick before each byte. No command alone gives the sums: each sign, axis
-- and distance counts. The machine has switch 0 and the steepest slope. And what the last speed and a stop bring about.
-- `convert` promises `Witness`.
use Rattle.std.specs.Prelude.{ℕ, zero, suc, true, false, List, [], ◌∷◌, ◌++◌, ◌≡◌, pos, negsuc}
use Prim.Native.String.{String}
use Rattle.laws.specs.Axes.{each}
use Rattle.machine.specs.Calls.{Call, byte, tick, buffer, chars, line}
use Rattle.machine.specs.List.{position, goes_on, stop_begun, latest}
use Rattle.station.specs.Executed.{lines_of, onto, Executed}

-- A command with its 00.
abbrev pub command : String → List ℕ
command t = chars t ++ (0 ∷ [])

-- Bytes, each behind a tick, and ticks with the input word 0, before the calls of f, in order of time.
abbrev pub sends : List ℕ → List Call → List Call
sends [] f = f
sends (b ∷ bs) f = tick 0 buffer ∷ byte b buffer ∷ sends bs f

abbrev pub runs : ℕ → List Call → List Call
runs zero f = f
runs (suc n) f = tick 0 buffer ∷ runs n f

abbrev pub ready : List Call
ready = line "P0900FFF" []

-- Up to the first move, whose longer axis is X, and one by one those behind it.
abbrev pub first : List (List ℕ)
first = command "SPD X 250000" ∷ command "SPD Y 2000" ∷ command "LNI X -3, Y 2" ∷ []

abbrev pub second : List (List ℕ)
second = command "INC X 1" ∷ []

abbrev pub third : List (List ℕ)
third = command "INC Y -1" ∷ []

abbrev pub last : List (List ℕ)
last = command "SST X,Y" ∷ []

-- The first move ends in its 472nd tick, the others in their 222nd.
unfoldable pub calls : List Call
calls =
    sends (lines_of first) (runs 472
    (sends (lines_of second) (runs 222
    (sends (lines_of third) (runs 222
    (sends (lines_of last) []))))))

pub record Whole : Type 0 where
  pub executed : Executed 0 ready calls (first ++ (second ++ (third ++ last)))
  pub moved : each (position 0 (onto calls ready)) ≡ negsuc 1 ∷ pos 1 ∷ pos 0 ∷ pos 0 ∷ pos 0 ∷ []

-- "Both axes share one speed, the last SPD"; "n pps becomes 4n units": at 2,000 pps pulses are 125 of the 250,000 ticks
-- of a second apart, once the speed is reached and before it is left. n ticks of the first move:
abbrev pub under : ℕ → List Call
under n = onto (sends (lines_of first) (runs n [])) ready

pub record Paces : Type 0 where
  pub one : each (latest 0 (under 174)) ≡ negsuc 0 ∷ pos 0 ∷ pos 0 ∷ pos 0 ∷ pos 0 ∷ []
  pub before : each (position 0 (under 298)) ≡ negsuc 0 ∷ pos 0 ∷ pos 0 ∷ pos 0 ∷ pos 0 ∷ []
  pub two : each (latest 0 (under 299)) ≡ negsuc 0 ∷ pos 1 ∷ pos 0 ∷ pos 0 ∷ pos 0 ∷ []
  pub still : goes_on 0 (under 471) ≡ true
  pub ended : goes_on 0 (under 472) ≡ false

-- SST under way is a stop: the move ends short of its distances.
abbrev pub halted : List Call
halted = onto (sends (lines_of first) (runs 200 (sends (lines_of last) (runs 98 [])))) ready

pub record Halts : Type 0 where
  pub begun : stop_begun 0 halted ≡ true
  pub ended : goes_on 0 halted ≡ false
  pub short : each (position 0 halted) ≡ negsuc 0 ∷ pos 0 ∷ pos 0 ∷ pos 0 ∷ pos 0 ∷ []

pub record Witness : Type 0 where
  pub whole : Whole
  pub paces : Paces
  pub halts : Halts
