-- The lists of specs/Witness.antt, computed. Assumes nothing.
use mathlib.Core.Path.{refl}
use Rattle.machine.specs.Calls.{run}
use Rattle.machine.specs.List.{goes_on, paused, last_dwell, stop_begun, latest}
use Rattle.machine.specs.Identified.{received}
use Rattle.digits.specs.Digits.{number_of as digits_number, six_of}
use Rattle.block.specs.Block.{block_of}
use Rattle.line.specs.Line.{judge_of, judge_row}
use Rattle.host.specs.Writer.{line_of}
use Rattle.host.specs.Master.{master_of}
use Rattle.text.specs.Parts.{behind, marks, same}
use Rattle.receiver.specs.Receiver.{before}
use Rattle.station.specs.Names.{names, is_among}
use Rattle.station.specs.Forms.{are_digits, joined, form_of}
use Rattle.station.specs.Station.{number_of, values_in, convert_of}
use Rattle.station.specs.Executed.{are_converted, written, lines_of, onto, bytes_in, is_undisturbed}
use Rattle.station.specs.Witness.{calls, Whole, Paces, Halts, Witness}

whole : Whole
unfolding judge_of digits_number judge_row block_of six_of run goes_on paused last_dwell received line_of master_of behind
    marks same before names is_among are_digits joined form_of number_of values_in convert_of are_converted written lines_of
    onto bytes_in is_undisturbed calls stop_begun latest
whole = record {
  executed = record {
    fresh = refl;
    rests = refl;
    converted = refl;
    lines = refl;
    undisturbed = refl;
    ended = refl;
  };
  moved = refl;
}

paces : Paces
unfolding judge_of digits_number judge_row block_of six_of run goes_on paused last_dwell received line_of master_of behind
    marks same before names is_among are_digits joined form_of number_of values_in convert_of are_converted written lines_of
    onto bytes_in is_undisturbed calls stop_begun latest
paces = record { one = refl; before = refl; two = refl; still = refl; ended = refl }

halts : Halts
unfolding judge_of digits_number judge_row block_of six_of run goes_on paused last_dwell received line_of master_of behind
    marks same before names is_among are_digits joined form_of number_of values_in convert_of are_converted written lines_of
    onto bytes_in is_undisturbed calls stop_begun latest
halts = record { begun = refl; ended = refl; short = refl }

pub witness : Witness
witness = record { whole = whole; paces = paces; halts = halts }
