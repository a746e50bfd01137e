-- The table of paper 01, "Marked, and traps", by computation: each run once. Assumes nothing.
use mathlib.Core.List.{[], ◌∷◌}
use mathlib.Core.Path.{◌≡◌, refl, ap}
use Rattle.digits.specs.Digits.{six_of, number_of}
use Rattle.block.specs.Block.{block_of}
use Rattle.line.specs.Line.{judge_of, judge_row}
use Rattle.reply.specs.Reply.{reply_of}
use Rattle.machine.specs.Calls.{run}
use Rattle.machine.specs.Marked.{column, first_pulse, travels, ticked, five, Marked}

-- The travels after the five pulses, of axes 0 to 4.
rows : travels 480 five
    ≡ (1 ∷ 0 ∷ 0 ∷ 1 ∷ 0 ∷ [])
    ∷ (2 ∷ 0 ∷ 1 ∷ 2 ∷ 0 ∷ [])
    ∷ (3 ∷ 1 ∷ 1 ∷ 3 ∷ 0 ∷ [])
    ∷ (4 ∷ 1 ∷ 2 ∷ 4 ∷ 0 ∷ [])
    ∷ (5 ∷ 2 ∷ 3 ∷ 5 ∷ 0 ∷ []) ∷ []
unfolding run travels number_of judge_of judge_row
rows = refl

pub marked : Marked
unfolding run first_pulse ticked number_of judge_of judge_row six_of block_of reply_of
marked = record {
  master = ap (column 0) rows;
  two = ap (column 1) rows;
  three = ap (column 2) rows;
  follows = ap (column 3) rows;
  rests = ap (column 4) rows;
  steep_first = refl;
  gentle_first = refl;
  speed_read = refl;
  speed_taken = refl;
  speed_over = refl;
  position = refl;
  position_read = refl;
  distance_read = refl;
  distance = refl;
  minus = refl;
}
