-- The examples of the page, each by computing. Assumes nothing.
use mathlib.Core.Path.{refl}
use Rattle.receiver.specs.Receiver.{before}
use Rattle.text.specs.Decimal.{spell, decimal_of}
use Rattle.text.specs.Parts.{behind, marks, same}
use Rattle.numerals.specs.Numerals.{read_on}
use Rattle.sentences.specs.Sentences.{sentences}
use Rattle.screen.specs.Asked.{asked_of}
use Rattle.screen.specs.Page.{Forms, Screens}
use Rattle.screen.specs.Screen.{pulses_in, wine_lines}

pub forms : Forms
unfolding asked_of before behind marks same read_on
forms = record {
  plain = refl;
  with_word = refl;
  large = refl;
  no_word = refl;
  two_spaces = refl;
  no_letter = refl;
  no_number = refl;
  no_decimal = refl;
}

pub screens : Screens
unfolding pulses_in wine_lines decimal_of spell before behind sentences
screens = record { ends = refl; stays = refl; refused = refl; asks_back = refl }
