-- The entries of specs/Entries.antt, by computation. Assumes nothing.
use mathlib.Core.Path.{refl}
use Rattle.digits.specs.Digits.{number_of}
use Rattle.line.specs.Line.{judge_of, judge_row}
use Rattle.machine.specs.Calls.{run}
use Rattle.machine.specs.Journal.{latest_entry}
use Rattle.witness.specs.Witness.{begun, ordered, stopped, again, finished, dwelling, waiting, passing}
use Rattle.witness.specs.Entries.{halted, late, printed, EntryWitness}

pub entries : EntryWitness
unfolding
    number_of judge_of judge_row run latest_entry begun ordered stopped again finished dwelling waiting passing halted late
    printed
entries = record {
  ends = refl;
  before = refl;
  after = refl;
  refused = refl;
  uncounted = refl;
  short = refl;
  unlent = refl;
  stops = refl;
  restarts = refl;
  first = refl;
  reaches = refl;
  stored = refl;
}
