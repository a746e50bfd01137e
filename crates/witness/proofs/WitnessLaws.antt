-- The lists of calls in specs/Witness.antt are what that file says, by computation. Assumes nothing.
use mathlib.Core.Path.{refl}
use Rattle.digits.specs.Digits.{number_of}
use Rattle.line.specs.Line.{judge_of, judge_row}
use Rattle.machine.specs.Calls.{run}
use Rattle.machine.specs.List.{
  last_distance,
  last_minus,
  last_dwell,
  paused,
  started,
  ends,
  goes_on,
  stop_begun,
  distance,
  minus,
  master,
  counted,
  signed,
  latest,
}
use Rattle.witness.specs.Witness.{
  begun,
  ordered,
  stopped,
  again,
  finished,
  dwelling,
  waiting,
  passing,
  failing,
  Moved,
  Finished,
  Stored,
  TurnedAway,
  Witness,
}
use Rattle.machine.proofs.FlaggedLaws.{flags_kept}

moved : Moved
unfolding
    number_of judge_of judge_row run last_distance last_minus last_dwell paused started ends goes_on stop_begun distance minus
    master counted signed latest begun ordered stopped
moved = record {
  resting = refl;
  starts = refl;
  orders = refl;
  stops = refl;
  short = refl;
}

ended : Finished
unfolding
    number_of judge_of judge_row run last_distance last_minus last_dwell paused started ends goes_on stop_begun distance minus
    master counted signed latest begun ordered stopped again finished
ended = record {
  restarts = refl;
  finishes = refl;
  full = refl;
  positions = refl;
  sums = refl;
  distances = refl;
  directions = refl;
}

stored : Stored
unfolding
    number_of judge_of judge_row run last_distance last_minus last_dwell paused started ends goes_on stop_begun distance minus
    master counted signed latest dwelling waiting passing failing
stored = record {
  dwells = refl;
  replaces = refl;
  waits = refl;
  before = refl;
  begins = refl;
  named = refl;
  tried = refl;
  passes = refl;
  lasts = refl;
  unstores = refl;
  plain = refl;
  replaced = refl;
  undwelt = refl;
  fails = refl;
  rests = refl;
  keeps = refl;
  dropped = refl;
}

turned : TurnedAway
unfolding number_of judge_of judge_row run begun
turned = record {
  running = refl;
  emergency = refl;
  sensor = refl;
  longer = refl;
  resting = refl;
  blocked = refl;
  outside = refl;
}

pub witness : Witness
witness = record { moved = moved; finished = ended; stored = stored; turned_away = turned; flagged = flags_kept }
