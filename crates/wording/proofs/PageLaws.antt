-- The examples of docs/PROTOCOL.md, computed. Assumes nothing.
use Rattle.std.proofs.Common.{None}
use Prim.Native.Nat.{ℕ}
use Prim.Native.String.{String}
use native.Mathlib.Omega.{arith}
use mathlib.Core.Bool.{false}
use mathlib.Core.List.{List}
use mathlib.Core.Path.{refl, ap}
use Rattle.line.specs.declared.command.Command.TheVariants.{Set}
use Rattle.machine.specs.Calls.{chars}
use Rattle.digits.specs.Digits.{six_of, number_of}
use Rattle.receiver.specs.Receiver.{before}
use Rattle.text.specs.Parts.{behind, marks, same, common}
use Rattle.text.specs.Decimal.{spell, decimal_of}
use Rattle.numerals.specs.Numerals.{read_on, noughts}
use Rattle.sentences.specs.Sentences.{sentences, states, keywords, forms, closest, place_in}
use Rattle.phrases.specs.Meanings.{asked_meant, meant_by}
use Rattle.phrases.specs.Phrases.{request_text, command_text, words_text}
use Rattle.readout.specs.Readout.{block_text}
use Rattle.reader.specs.Reader.{fields_in, read_of}
use Rattle.host.specs.Master.{master_of}
use Rattle.host.specs.Writer.{line_of}
use Rattle.block.specs.Block.{block_of}
use Rattle.figures.specs.Figures.{Answer, asks}
use Rattle.figures.proofs.Trip.{speed_trip, slope_trip}
use Rattle.wording.specs.Stations.{is_station}
use Rattle.wording.specs.Wording.{sums_in, answer_text}
use Rattle.wording.specs.Page.{
  CommandRows,
  MarkRows,
  ProgramRows,
  ReplyRows,
  NearestRows,
  AxisRows,
  FormRows,
  Page,
}
use Rattle.wording.proofs.StationRowLaws.{stations}
use Rattle.wording.proofs.TrialRowLaws.{trials}

-- What is printed for a figure whose units crate figures has read: what it reads is no matter of computing.
abbrev asked : String → ℕ → Answer ℕ → List ℕ
asked l code units = request_text false None (chars l) (asked_meant (asks (Set code) units))

commands : CommandRows
unfolding master_of six_of number_of before behind marks same common spell decimal_of read_on noughts sentences states
    keywords forms closest place_in meant_by command_text words_text block_text fields_in read_of line_of block_of sums_in
    is_station answer_text
commands = record {
  start = refl;
  waiting_start_lem = refl;
  travel = refl;
  position = refl;
  dwell = refl;
  watch = refl;
  polarity = refl;
  low = refl;
  high = refl;
  outputs = refl;
  speed = ap (asked "speed 2500.25" 8) (speed_trip 10001 (omega arith) (omega arith));
  slope = ap (asked "slope 1250" 9) (slope_trip 1000 (omega arith) (omega arith));
  distance = refl;
  stop = refl;
  status = refl;
  everything = refl;
  inputs = refl;
  clear = refl;
  reset = refl;
  carry = refl;
}

marked : MarkRows
unfolding master_of six_of number_of before behind marks same common spell decimal_of read_on noughts sentences states
    keywords forms closest place_in meant_by command_text words_text block_text fields_in read_of line_of block_of sums_in
    is_station answer_text
marked = record {
  silent = refl;
  identification = refl;
  small = refl;
  no_line = refl;
  not_exact = refl;
}

programs : ProgramRows
unfolding master_of six_of number_of before behind marks same common spell decimal_of read_on noughts sentences states
    keywords forms closest place_in meant_by command_text words_text block_text fields_in read_of line_of block_of sums_in
    is_station answer_text
programs = record {
  opening = refl;
  master = refl;
  ticks = refl;
  ticks_with_word = refl;
}

replies : ReplyRows
unfolding master_of six_of number_of before behind marks same common spell decimal_of read_on noughts sentences states
    keywords forms closest place_in meant_by command_text words_text block_text fields_in read_of line_of block_of sums_in
    is_station answer_text
replies = record {
  accepted = refl;
  turned_away = refl;
  minus_travel = refl;
  plus_travel = refl;
  at_rest = refl;
  moving = refl;
  dwell = refl;
  wrong_master = refl;
  blocked = refl;
  held = refl;
  sensor = refl;
  start = refl;
  waiting_start_lem = refl;
  stop = refl;
  clear = refl;
  reset = refl;
  carry = refl;
  nothing_to_carry = refl;
  low = refl;
  high = refl;
  position = refl;
  inputs = refl;
  switch = refl;
  identification = refl;
  small = refl;
  both = refl;
  no_block = refl;
  small_digits = refl;
  sums = refl;
}

nearest : NearestRows
unfolding master_of six_of number_of before behind marks same common spell decimal_of read_on noughts sentences states
    keywords forms closest place_in meant_by command_text words_text block_text fields_in read_of line_of block_of sums_in
    is_station answer_text
nearest = record {
  capital = refl;
  letters = refl;
  silent = refl;
  first = refl;
  carry_alone = refl;
  carry_more = refl;
}

axes : AxisRows
unfolding master_of six_of number_of before behind marks same common spell decimal_of read_on noughts sentences states
    keywords forms closest place_in meant_by command_text words_text block_text fields_in read_of line_of block_of sums_in
    is_station answer_text
axes = record {
  distance_4 = refl;
  travel_3 = refl;
  position_4 = refl;
  start_3 = refl;
  start_4 = refl;
}

forms_are : FormRows
unfolding before behind forms
forms_are = record {
  start = refl;
  travel = refl;
  position = refl;
  dwell = refl;
  watch = refl;
  polarity = refl;
  low = refl;
  high = refl;
  outputs = refl;
  speed = refl;
  slope = refl;
  distance = refl;
  stop = refl;
  status = refl;
  everything = refl;
  inputs = refl;
  clear = refl;
  reset = refl;
  carry = refl;
  opening = refl;
  master = refl;
  ticks = refl;
  trial = refl;
}

pub page : Page
page = record {
  commands = commands;
  marked = marked;
  programs = programs;
  trials = trials;
  replies = replies;
  nearest = nearest;
  axes = axes;
  forms_are = forms_are;
  stations = stations;
}
