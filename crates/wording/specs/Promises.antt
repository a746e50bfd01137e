-- What the desk promises of every line and of every input.
use Rattle.std.specs.Prelude.{ℕ, ◌≤◌, ◌<◌, Bool, true, false, cond, ◌&&◌, List, [], ◌∷◌, ◌++◌, ◌≡◌, ltb, eqb, length, Some, Ok}
use Rattle.digits.specs.Digits.{end_byte, numbered}
use Rattle.block.specs.Block.{front_of}
use Rattle.line.specs.declared.command.Command.{Command}
use Rattle.receiver.specs.Receiver.{before_end}
use Rattle.host.specs.Writer.{has_line, line_of}
use Rattle.reader.specs.Reader.{Figures}
use Rattle.reader.specs.Blocks.{Says}
use Rattle.session.specs.Asked.{ticks_by, asked_of}
use Rattle.screen.specs.Asked as screen
use Rattle.numerals.specs.Numerals.{spelled_of}
use Rattle.sentences.specs.Places as K
use Rattle.sentences.specs.Sentences.{place_of, turned_text}
use Rattle.phrases.specs.Meanings.{word, words, meant_by}
use Rattle.phrases.specs.Phrases.{body_of, number_at}
use Rattle.phrases.specs.Promises.{request_in}
use Rattle.readout.specs.Readout.{is_block, figure_text}
use Rattle.station.specs.Executed.{written}
use Rattle.station.specs.Station.{number_of, values_in}
use Rattle.text.specs.Parts.{parts}
use Rattle.text.specs.declared.Text.{Text}
use Rattle.wording.specs.declared.Desk.{Desk}
use Rattle.wording.specs.Stations.{is_station, command_in}
use Rattle.wording.specs.Wording.{are_sums, answer_text, answer_of, desk_of, taken_of, finished_of}

-- No answer is cut: a text has room for 250 bytes, and each answer fits with its line feed.
abbrev pub Whole : Type 0
Whole = (l : List ℕ) → length (answer_of l) ≤ 250

-- Whether a line is a station's command that is converted.
abbrev pub is_converted : List ℕ → Bool
is_converted l = ltb (length l) 100 && (is_station l && eqb (number_of (command_in l)) 0)

-- How many lines answer it: then one for each command value, else one.
abbrev pub lines_to : List ℕ → ℕ
lines_to l = cond (is_converted l) (length (values_in (command_in l))) 1

-- To a line, which has no line feed (10) and so one part, the answer has so many lines.
abbrev pub AnswerLines : Type 0
AnswerLines = (l : List ℕ) → parts 10 l ≡ 1 → parts 10 (answer_text l) ≡ lines_to l

-- ---- What a whole line is answered with

-- A line that is neither over-long, nor a block, nor five sums.
abbrev pub Wordy : List ℕ → Type 0
Wordy l = (length l < 100) × (is_block l ≡ false) × (are_sums l ≡ false)

-- What is printed as the bench program takes it: a line feed goes in as 0D.
unfoldable pub entered : List ℕ → List ℕ
entered [] = []
entered (c ∷ cs) = cond (eqb c 10) end_byte c ∷ entered cs

-- Blocks by their figures, words by the line that they ask for. `request_in`, what the bench reads as ticks (session's
-- `ticks_by n (numbered w false)`: n ticks with w) and what the preview reads as a trial (`asked_of` of screen) are
-- those of `SameLine`, `TickLine` and `TrialLine` of phrases.
pub record Told : Type 0 where
  -- a reply block s that says f, its line feed in the place of 0D, is told by f
  pub reply : (s : List ℕ) (f : Figures) → Says s f → answer_text (before_end s) ≡ figure_text f
  -- words that mean a command are answered with the command's very line
  pub command : (l : List ℕ) (c : Command) → Wordy l → meant_by (body_of l) ≡ Ok c
      → has_line (request_in l c) ≡ true → answer_text l ++ (end_byte ∷ []) ≡ line_of (request_in l c)
  -- words that ask for ticks are answered with what the bench program reads as these
  pub ticks : (l : List ℕ) (w : ℕ) → Wordy l → place_of (word 0 l) ≡ K.ticks → words l ≡ 3
      → 1 ≤ number_at l 1 → number_at l 1 ≤ 1000000 → spelled_of 16 (word 2 l) ≡ Some w → w < 16777216
      → asked_of (answer_text l) ≡ ticks_by (number_at l 1) (numbered w false)
  -- and without an input word, by 0
  pub ticks_alone : (l : List ℕ) → Wordy l → place_of (word 0 l) ≡ K.ticks → words l ≡ 2
      → 1 ≤ number_at l 1 → number_at l 1 ≤ 1000000
      → asked_of (answer_text l) ≡ ticks_by (number_at l 1) (numbered 0 false)
  -- words that ask for a trial are answered with what the program preview reads as it
  pub trial : (l : List ℕ) (k n w : ℕ) → Wordy l → place_of (word 0 l) ≡ K.trial → words l ≡ 4
      → spelled_of 10 (word 1 l) ≡ Some k → spelled_of 10 (word 2 l) ≡ Some n → spelled_of 16 (word 3 l) ≡ Some w
      → k ≤ 4 → n ≤ 1000000 → w < 16777216 → screen.asked_of (answer_text l) ≡ screen.asking k n w
  -- without an input word, by 0
  pub trial_wordless : (l : List ℕ) (k n : ℕ) → Wordy l → place_of (word 0 l) ≡ K.trial → words l ≡ 3
      → spelled_of 10 (word 1 l) ≡ Some k → spelled_of 10 (word 2 l) ≡ Some n
      → k ≤ 4 → n ≤ 1000000 → screen.asked_of (answer_text l) ≡ screen.asking k n 0
  -- and with a master alone, by 1,000,000 ticks
  pub trial_alone : (l : List ℕ) (k : ℕ) → Wordy l → place_of (word 0 l) ≡ K.trial → words l ≡ 2
      → spelled_of 10 (word 1 l) ≡ Some k → k ≤ 4 → screen.asked_of (answer_text l) ≡ screen.asking k 1000000 0
  -- a station's command that is converted is answered with the very lines of its command values, in order
  pub station : (l : List ℕ) → is_converted l ≡ true → entered (answer_of l) ≡ written (values_in (command_in l))
  -- and any other with the number that turns it away
  pub station_refused : (l : List ℕ) → length l < 100 → is_station l ≡ true → (number_of (command_in l) ≡ 0 → ⊥)
      → answer_text l ≡ turned_text (number_of (command_in l))

-- ---- A whole input

-- The bytes of a text: what is written of it.
abbrev pub bytes_of : Text → List ℕ
bytes_of t = front_of t.chars t.count

-- What a desk prints to an input, taken byte by byte to its end.
unfoldable pub prints : Desk → List ℕ → List ℕ
prints d [] = bytes_of (finished_of d)
prints d (b ∷ bs) = bytes_of (taken_of d b).text ++ prints (taken_of d b).desk bs

-- The answers to the lines of an input, l being the characters of the first so far: a line feed (10) ends a line, which
-- the last may lack.
unfoldable pub answers : List ℕ → List ℕ → List ℕ
answers l [] = cond (eqb (length l) 0) [] (answer_of l)
answers l (b ∷ bs) = cond (eqb b 10) (answer_of l ++ answers [] bs) (answers (l ++ (b ∷ [])) bs)

-- A desk prints the answer to each line, whole and in order, and nothing else.
abbrev pub AnswersInOrder : Type 0
AnswersInOrder = (bs : List ℕ) → prints (desk_of []) bs ≡ answers [] bs
