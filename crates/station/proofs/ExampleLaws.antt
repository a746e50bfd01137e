-- The examples: computed. Assumes nothing.
use mathlib.Core.Path.{refl}
use Rattle.receiver.specs.Receiver.{before}
use Rattle.text.specs.Parts.{behind, marks, same}
use Rattle.host.specs.Master.{master_of}
use Rattle.station.specs.Names.{names, is_among}
use Rattle.station.specs.Forms.{are_digits, joined, form_of}
use Rattle.station.specs.Station.{number_of, values_in, convert_of}
use Rattle.station.specs.Examples.{Values, Ranges, Forms, Listed, Answers, Examples}

values : Values
unfolding before behind marks same names is_among are_digits joined form_of number_of values_in master_of
values = record {
  lni = refl;
  lni_y = refl;
  inc_x = refl;
  inc_y = refl;
  inc_zero = refl;
  inc_minus_zero = refl;
  spd_x = refl;
  spd_y = refl;
  sst_x = refl;
  sst_y = refl;
  sst_both = refl;
  sst_spaced = refl;
}

ranges : Ranges
unfolding before behind marks same names is_among are_digits joined form_of number_of
ranges = record {
  spd_over = refl;
  spd_zero = refl;
  inc_over = refl;
  inc_under = refl;
  inc_most = refl;
  inc_least = refl;
  lni_over = refl;
  inc_long = refl;
  spd_long = refl;
  inc_zeros = refl;
}

forms : Forms
unfolding before behind marks same names is_among are_digits joined form_of number_of
forms = record {
  spd_minus = refl;
  inc_plus = refl;
  inc_bare = refl;
  inc_letter = refl;
  inc_two = refl;
  lni_exchanged = refl;
  lni_one = refl;
  spaced = refl;
  unended = refl;
  ended_twice = refl;
}

listed : Listed
unfolding before behind marks same names is_among are_digits joined form_of number_of
listed = record {
  count = refl;
  longer = refl;
  small = refl;
  event = refl;
  nothing = refl;
  lacked = refl;
  lacked_unended = refl;
  reset = refl;
}

answers : Answers
unfolding before behind marks same names is_among are_digits joined form_of number_of values_in convert_of master_of
answers = record { one = refl; all = refl; unknown = refl; lacked = refl; out = refl }

pub examples : Examples
examples = record { values = values; ranges = ranges; forms = forms; listed = listed; answers = answers }
