-- What `words` promises beside what it writes: the line printed for a command is that command's line, a printed T line
-- is to the bench program the ticks that the words ask for, and a printed D line to the program preview the trial.
use Rattle.std.specs.Prelude.{ℕ, ◌-◌, ◌≤◌, ◌<◌, true, false, List, [], ◌∷◌, ◌++◌, ◌≡◌, length, get_or, Some, Ok}
use Rattle.digits.specs.Digits.{end_byte, numbered}
use Rattle.line.specs.declared.command.Command.{Command}
use Rattle.host.specs.Writer.{has_line, line_of}
use Rattle.host.specs.declared.Request.{Request}
use Rattle.session.specs.Asked.{ticks_by, asked_of}
use Rattle.screen.specs.Asked as screen
use Rattle.numerals.specs.Numerals.{spelled_of}
use Rattle.sentences.specs.Places as K
use Rattle.sentences.specs.Sentences.{place_of}
use Rattle.phrases.specs.Meanings.{word, words, meant_by}
use Rattle.phrases.specs.Phrases.{
  is_silent,
  unsilenced,
  has_ident,
  named_of,
  body_of,
  line_text,
  number_at,
  tick_text,
  trial_line_text,
  words_text,
}

-- The command c as a line of words asks for it: silent or not, with the identification behind ` as ` or none.
abbrev pub request_in : List ℕ → Command → Request
request_in l c = record { silent = is_silent l; command = c; ident = (named_of (unsilenced l)).ident }

-- What is printed for a command, and 0D behind it, is its line and nothing else. With `LineTrip` of crate host (the
-- controller's own receiver and byte step read `line_of r` as that very request) it is read as the same command.
pub record SameLine : Type 0 where
  -- every request that has a line
  pub line : (r : Request) → has_line r ≡ true → line_text r ++ (end_byte ∷ []) ≡ line_of r
  -- every line of words that means a command
  pub said : (l : List ℕ) (c : Command) → meant_by (body_of l) ≡ Ok c → has_line (request_in l c) ≡ true
      → words_text l ++ (end_byte ∷ []) ≡ line_of (request_in l c)
  -- and an identification is printed as it was typed, a letter in its own case (paper 02, 7/14): the last character
  pub named : (l : List ℕ) (c : Command) → meant_by (body_of l) ≡ Ok c → has_line (request_in l c) ≡ true
      → has_ident (unsilenced l) ≡ true → get_or (words_text l) 8 0 ≡ get_or l (length l - 1) 0

-- The T line that is printed for n ticks with the input word w, read by the bench program's own form (crate session,
-- `asked_of`), asks for n ticks with w, which is `ticks_by n (numbered w false)`.
pub record TickLine : Type 0 where
  -- any number of ticks and any input word that the form takes
  pub asked : (n w : ℕ) → 1 ≤ n → n ≤ 1000000 → w < 16777216
      → asked_of (tick_text n w) ≡ ticks_by n (numbered w false)
  -- every line of `ticks`, such a number and such an input word
  pub said : (l : List ℕ) (w : ℕ) → place_of (word 0 l) ≡ K.ticks → words l ≡ 3
      → 1 ≤ number_at l 1 → number_at l 1 ≤ 1000000 → spelled_of 16 (word 2 l) ≡ Some w → w < 16777216
      → asked_of (words_text l) ≡ ticks_by (number_at l 1) (numbered w false)
  -- every line of `ticks` and such a number alone: the input word is 0
  pub alone : (l : List ℕ) → place_of (word 0 l) ≡ K.ticks → words l ≡ 2
      → 1 ≤ number_at l 1 → number_at l 1 ≤ 1000000
      → asked_of (words_text l) ≡ ticks_by (number_at l 1) (numbered 0 false)

-- The D line that is printed for a trial with master k and n ticks with the input word w, read by the program preview's
-- own form (crate screen, `asked_of`), asks for that very trial.
pub record TrialLine : Type 0 where
  -- any master, number of ticks and input word that a trial takes
  pub asked : (k n w : ℕ) → k ≤ 4 → n ≤ 1000000 → w < 16777216
      → screen.asked_of (trial_line_text k n w) ≡ screen.asking k n w
  -- every line of `trial` and three such numbers
  pub said : (l : List ℕ) (k n w : ℕ) → place_of (word 0 l) ≡ K.trial → words l ≡ 4
      → spelled_of 10 (word 1 l) ≡ Some k → spelled_of 10 (word 2 l) ≡ Some n → spelled_of 16 (word 3 l) ≡ Some w
      → k ≤ 4 → n ≤ 1000000 → w < 16777216 → screen.asked_of (words_text l) ≡ screen.asking k n w
  -- without an input word: it is 0
  pub wordless : (l : List ℕ) (k n : ℕ) → place_of (word 0 l) ≡ K.trial → words l ≡ 3
      → spelled_of 10 (word 1 l) ≡ Some k → spelled_of 10 (word 2 l) ≡ Some n
      → k ≤ 4 → n ≤ 1000000 → screen.asked_of (words_text l) ≡ screen.asking k n 0
  -- with a master alone: 1,000,000 ticks
  pub alone : (l : List ℕ) (k : ℕ) → place_of (word 0 l) ≡ K.trial → words l ≡ 2
      → spelled_of 10 (word 1 l) ≡ Some k → k ≤ 4 → screen.asked_of (words_text l) ≡ screen.asking k 1000000 0
