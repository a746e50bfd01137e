-- What the entries promise beside what they write: each word has its place, the tables fit each other, and what the
-- nearest form is without the search for it.
use Rattle.std.specs.Prelude.{ℕ, zero, suc, ◌≤◌, ◌<◌, Bool, true, false, cond, List, [], ◌++◌, ◌≡◌}
use Rattle.text.specs.Parts.{part, parts, same}
use Rattle.machine.specs.Calls.{chars}
use Rattle.sentences.specs.Places.{
  start,
  travel,
  position,
  dwell,
  watch,
  polarity,
  low,
  high,
  outputs,
  speed,
  slope,
  distance,
  stop,
  status,
  everything,
  inputs,
  clear,
  reset,
  carry,
  opening,
  master,
  ticks,
  trial,
}
use Rattle.sentences.specs.Sentences.{sentences, states, keywords, forms, word_count, shared, closest, place_of}

-- Each word is found at its place.
pub record Places : Type 0 where
  pub start_is : place_of (chars "start") ≡ start
  pub travel_is : place_of (chars "travel") ≡ travel
  pub position_is : place_of (chars "position") ≡ position
  pub dwell_is : place_of (chars "dwell") ≡ dwell
  pub watch_is : place_of (chars "watch") ≡ watch
  pub polarity_is : place_of (chars "polarity") ≡ polarity
  pub low_is : place_of (chars "low") ≡ low
  pub high_is : place_of (chars "high") ≡ high
  pub outputs_is : place_of (chars "outputs") ≡ outputs
  pub speed_is : place_of (chars "speed") ≡ speed
  pub slope_is : place_of (chars "slope") ≡ slope
  pub distance_is : place_of (chars "distance") ≡ distance
  pub stop_is : place_of (chars "stop") ≡ stop
  pub status_is : place_of (chars "status") ≡ status
  pub everything_is : place_of (chars "everything") ≡ everything
  pub inputs_is : place_of (chars "inputs") ≡ inputs
  pub clear_is : place_of (chars "clear") ≡ clear
  pub reset_is : place_of (chars "reset") ≡ reset
  pub carry_is : place_of (chars "carry") ≡ carry
  pub opening_is : place_of (chars "opening") ≡ opening
  pub master_is : place_of (chars "master") ≡ master
  pub ticks_is : place_of (chars "ticks") ≡ ticks
  pub trial_is : place_of (chars "trial") ≡ trial

-- Whether each of the first n rows of a table has something in it.
unfoldable pub filled : ℕ → List ℕ → Bool
filled zero table = true
filled (suc n) table = cond (same (part 10 n table) []) false (filled n table)

-- Whether each of the first n forms begins with its word: what stands before the first space is the row of words.
unfoldable pub forms_begin : ℕ → Bool
forms_begin zero = true
forms_begin (suc n) = cond (same (part 32 0 (part 10 n forms)) (part 10 n keywords)) (forms_begin n) false

-- The words at the places 0 to n in order, a comma and a space between two of them.
unfoldable pub all_words : ℕ → List ℕ
all_words zero = part 10 0 keywords
all_words (suc n) = all_words n ++ (chars ", " ++ part 10 (suc n) keywords)

-- The tables fit each other. A table has one part more than rows, for a line feed stands behind each row: 23 words, 24
-- forms, 30 sentences (0 to 29), 8 states, none of them empty; each form begins with its word, the last is all words.
pub record Tables : Type 0 where
  pub keyword_parts : parts 10 keywords ≡ 24
  pub form_parts : parts 10 forms ≡ 25
  pub sentence_parts : parts 10 sentences ≡ 31
  pub state_parts : parts 10 states ≡ 9
  pub keywords_filled : filled 23 keywords ≡ true
  pub forms_filled : filled 24 forms ≡ true
  pub sentences_filled : filled 30 sentences ≡ true
  pub states_filled : filled 8 states ≡ true
  pub forms_begin_lem : forms_begin 23 ≡ true
  pub forms_end : part 10 23 forms ≡ all_words 22

-- The place whose form answers a word w: no place has more first letters in common with w, each one before it has
-- fewer, and it has at least one; that of no word only where no place has any.
pub record Nearest (w : List ℕ) : Type 0 where
  pub within : closest word_count w ≤ word_count
  pub best : (k : ℕ) → k < word_count → shared k w ≤ shared (closest word_count w) w
  pub first : closest word_count w < word_count → (k : ℕ) → k < closest word_count w
      → shared k w < shared (closest word_count w) w
  pub some : closest word_count w < word_count → 0 < shared (closest word_count w) w
  pub none : closest word_count w ≡ word_count → (k : ℕ) → k < word_count → shared k w ≡ 0
