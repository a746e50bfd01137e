-- The tables fit each other: computed. Assumes nothing.
use mathlib.Core.Path.{refl}
use Rattle.receiver.specs.Receiver.{before}
use Rattle.text.specs.Parts.{behind, marks, same}
use Rattle.sentences.specs.Sentences.{sentences, states, keywords, forms}
use Rattle.sentences.specs.Promises.{filled, forms_begin, all_words, Tables}

pub tables : Tables
unfolding before behind marks same sentences states keywords forms filled forms_begin all_words
tables = record {
  keyword_parts = refl;
  form_parts = refl;
  sentence_parts = refl;
  state_parts = refl;
  keywords_filled = refl;
  forms_filled = refl;
  sentences_filled = refl;
  states_filled = refl;
  forms_begin_lem = refl;
  forms_end = refl;
}
