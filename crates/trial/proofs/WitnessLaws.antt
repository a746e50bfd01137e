-- The trials of specs/Witness.antt, by computation. Assumes nothing.
use mathlib.Core.Path.{refl}
use Rattle.digits.specs.Digits.{number_of}
use Rattle.line.specs.Line.{judge_of, judge_row}
use Rattle.machine.specs.Calls.{run}
use Rattle.trial.specs.Trial.{end_of}
use Rattle.trial.specs.Witness.{ready, crooked, TrialWitness, WholeTrial}

pub trials : TrialWitness
unfolding number_of judge_of judge_row run end_of ready crooked
trials = record {
  word = refl;
  most = refl;
  master = refl;
  moving = refl;
  longer = refl;
  none = refl;
  unsensed = refl;
  sensed = refl;
  active = refl;
}

pub whole_trial : WholeTrial
unfolding number_of judge_of judge_row run end_of ready
whole_trial = record { ends = refl }
