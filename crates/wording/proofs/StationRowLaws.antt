-- The commands of docs/PROTOCOL.md, "Lines of the other bench make", computed. Assumes nothing.
use mathlib.Core.Path.{refl}
use Rattle.digits.specs.Digits.{six_of}
use Rattle.block.specs.Block.{block_of}
use Rattle.receiver.specs.Receiver.{before}
use Rattle.host.specs.Master.{master_of}
use Rattle.host.specs.Writer.{line_of}
use Rattle.text.specs.Decimal.{spell, decimal_of}
use Rattle.text.specs.Parts.{behind, marks, same}
use Rattle.station.specs.Names.{names, is_among}
use Rattle.station.specs.Forms.{are_digits, joined, form_of}
use Rattle.station.specs.Station.{number_of, values_in}
use Rattle.sentences.specs.Sentences.{sentences}
use Rattle.wording.specs.StationPage.{ConvertedRows, UnknownRows, LackedRows, RangeRows, StationPage}
use Rattle.wording.specs.Stations.{is_station, more_text, lines_text, station_text}
use Rattle.wording.specs.Wording.{answer_text}

converted : ConvertedRows
unfolding six_of block_of before master_of line_of behind marks same names is_among are_digits joined form_of number_of values_in
    is_station more_text lines_text station_text answer_text
converted = record {
  speed = refl;
  single_x = refl;
  single_y = refl;
  pair = refl;
  stop_x = refl;
  stop_y = refl;
  stop_both = refl;
  stop_spaced = refl;
}

unknown : UnknownRows
unfolding before spell decimal_of behind marks same names is_among are_digits joined form_of number_of values_in sentences
    is_station station_text answer_text
unknown = record {
  name = refl;
  word = refl;
  no_number = refl;
  exchanged = refl;
  minus = refl;
  plus = refl;
  no_axis = refl;
}

lacked : LackedRows
unfolding before spell decimal_of behind marks same names is_among are_digits joined form_of number_of values_in sentences
    is_station station_text answer_text
lacked = record {
  absolute = refl;
  home = refl;
  restart = refl;
  block = refl;
}

range : RangeRows
unfolding before spell decimal_of behind marks same names is_among are_digits joined form_of number_of values_in sentences
    is_station station_text answer_text
range = record {
  no_speed = refl;
  speed = refl;
  distance = refl;
  long = refl;
}

pub stations : StationPage
stations = record { converted = converted; unknown = unknown; lacked = lacked; range = range }
