-- The list of calls in specs/Flagged.antt is what that file says, by computation. Assumes nothing.
use mathlib.Core.Path.{refl}
use Rattle.digits.specs.Digits.{number_of}
use Rattle.line.specs.Line.{judge_of, judge_row}
use Rattle.machine.specs.Calls.{run}
use Rattle.machine.specs.Flagged.{Flagged}

pub flags_kept : Flagged
unfolding number_of judge_of judge_row run
flags_kept = record { set = refl; stored = refl; kept = refl }
