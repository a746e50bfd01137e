-- The carried-on move of specs/Carried.antt, by computation. Assumes nothing.
use mathlib.Core.Path.{refl}
use Rattle.digits.specs.Digits.{six_of, number_of}
use Rattle.block.specs.Block.{block_of}
use Rattle.line.specs.Line.{judge_of, judge_row}
use Rattle.reply.specs.Reply.{reply_of, refusal_of}
use Rattle.machine.specs.Calls.{run}
use Rattle.machine.specs.List.{
  last_distance,
  last_minus,
  last_dwell,
  paused,
  started,
  ends,
  goes_on,
  stop_begun,
  distance,
  minus,
  master,
  counted,
  signed,
  latest,
}
use Rattle.machine.specs.Journal.{latest_entry}
use Rattle.witness.specs.Witness.{begun, ordered, stopped}
use Rattle.witness.specs.Entries.{late}
use Rattle.witness.specs.Carried.{
  carried,
  stopped_again,
  carried_again,
  whole,
  dwelt,
  far_stopped,
  Resumed,
  Whole,
  Carryable,
  Undwelt,
  CarryWitness,
}

resumed : Resumed
unfolding
    number_of judge_of judge_row run last_distance last_minus last_dwell paused started ends goes_on stop_begun distance minus
    master counted signed latest latest_entry begun ordered stopped carried stopped_again
resumed = record {
  resumes = refl;
  kept = refl;
  was = refl;
  now = refl;
  stops = refl;
  short = refl;
  entry = refl;
}

ended : Whole
unfolding
    number_of judge_of judge_row run last_distance last_minus last_dwell paused started ends goes_on stop_begun distance minus
    master counted signed latest latest_entry begun ordered stopped carried stopped_again carried_again whole
ended = record {
  resumes = refl;
  finishes = refl;
  full = refl;
  positions = refl;
  sums = refl;
  entry = refl;
}

carryable : Carryable
unfolding six_of number_of block_of judge_of judge_row reply_of refusal_of run begun ordered stopped late far_stopped
carryable = record {
  taken = refl;
  still = refl;
  echoes = refl;
  running = refl;
  none = refl;
  tells = refl;
  ended = refl;
  distance = refl;
  silent = refl;
  emergency = refl;
  sensor = refl;
  blocked = refl;
  first = refl;
  sensor_first = refl;
  emergency_first = refl;
  far = refl;
  far_gone = refl;
  named = refl;
  turned_named = refl;
  unanswered = refl;
}

undwelt : Undwelt
unfolding
    number_of judge_of judge_row run last_distance last_minus last_dwell paused started ends goes_on stop_begun distance minus
    master counted signed latest dwelt
undwelt = record { waits = refl; taken = refl; drops = refl }

pub carries_on : CarryWitness
carries_on = record { resumed = resumed; whole = ended; carryable = carryable; undwelt = undwelt }
