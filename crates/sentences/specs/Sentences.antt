-- What the desk says in fixed words (docs/PROTOCOL.md, "From words"): the sentence of each number, what a status says,
-- the words that begin a form, and the form that is nearest to a word.
use Rattle.std.specs.Prelude.{ℕ, zero, suc, Bool, cond, List, [], ◌∷◌, ◌++◌, ltb}
use Prim.Native.String.{String}
use Rattle.text.specs.Decimal.{decimal_of}
use Rattle.text.specs.Parts.{part, same, common}
use Rattle.machine.specs.Calls.{chars}

-- Rows, each with a line feed (10) behind it.
abbrev pub rows : List String → List ℕ
rows [] = []
rows (r ∷ rs) = chars r ++ (10 ∷ rows rs)

-- ---- The sentence of each number, from 0 on (paper 01, "Turned away"; paper 02: 22 to 24 1/14, 25 5/14, 26 6/14, 27
-- to 29 8/14)

unfoldable pub sentences : List ℕ
sentences =
    rows
    ("accepted"
    ∷ "the switch is over 15 or equal to 12"
    ∷ "a reply buffer is under 120 bytes"
    ∷ "an input word is over FFFFFF"
    ∷ "under 2 or over 9 characters"
    ∷ "the first character is not P, Q, q or W"
    ∷ "the second character is not 0 or 4"
    ∷ "a digit or the identification is not 0-9, A-F or a-f"
    ∷ "no code, or one that the letter has not"
    ∷ "too few or too many digits for the code"
    ∷ "a value is out of its range"
    ∷ "a move runs"
    ∷ "emergency is held"
    ∷ "the sensor is active"
    ∷ "an axis is longer than the master"
    ∷ "the master's distance is 0"
    ∷ "an axis is blocked"
    ∷ "a final position is out of range"
    ∷ "a line buffer is under 10 bytes"
    ∷ "no line has this value"
    ∷ "this is no reply block"
    ∷ "a figure is not exact or out of range"
    ∷ "no space for the whole entry"
    ∷ "the journal ends within an entry"
    ∷ "a number of the entry is out of its range or longer than it need be"
    ∷ "more than 1,000,000 ticks"
    ∷ "there is nothing to carry on"
    ∷ "no MD5230D command, or not in its form"
    ∷ "an MD5230D command that this bench lacks"
    ∷ "a speed of 0 or over 250,000 pps, or a distance over 524,287"
    ∷ [])

-- The sentence of a number, and behind the number itself.
abbrev pub sentence_text : ℕ → List ℕ
sentence_text n = part 10 n sentences

abbrev pub turned_text : ℕ → List ℕ
turned_text n = chars "turned away by " ++ (decimal_of n ++ (chars ": " ++ sentence_text n))

-- ---- What a status says (paper 01, "Stops"): of bits 0 and 1 together, then of each bit from 2 on

unfoldable pub states : List ℕ
states =
    rows
    ("at rest"
    ∷ "dwell"
    ∷ "moving"
    ∷ "wrong master"
    ∷ "stopped by order, limit or watch"
    ∷ "an axis is blocked"
    ∷ "emergency is held"
    ∷ "stopped by the sensor"
    ∷ [])

abbrev pub state_text : ℕ → List ℕ
state_text k = part 10 k states

-- ---- The words that begin a form, from place 0 on, and the form of each; behind them the form of no word: all words

unfoldable pub keywords : List ℕ
keywords =
    rows
    ("start"
    ∷ "travel"
    ∷ "position"
    ∷ "dwell"
    ∷ "watch"
    ∷ "polarity"
    ∷ "low"
    ∷ "high"
    ∷ "outputs"
    ∷ "speed"
    ∷ "slope"
    ∷ "distance"
    ∷ "stop"
    ∷ "status"
    ∷ "everything"
    ∷ "inputs"
    ∷ "clear"
    ∷ "reset"
    ∷ "carry"
    ∷ "opening"
    ∷ "master"
    ∷ "ticks"
    ∷ "trial"
    ∷ [])

unfoldable pub forms : List ℕ
forms =
    rows
    ("start 0, start 0 after dwell"
    ∷ "travel 2"
    ∷ "position 1"
    ∷ "dwell 20"
    ∷ "watch 3"
    ∷ "polarity 003"
    ∷ "low 00010"
    ∷ "high 01000"
    ∷ "outputs ABCDEF"
    ∷ "speed 2500.25"
    ∷ "slope 1250"
    ∷ "distance 2 -5000"
    ∷ "stop"
    ∷ "status"
    ∷ "everything"
    ∷ "inputs"
    ∷ "clear"
    ∷ "reset"
    ∷ "carry on"
    ∷ "opening"
    ∷ "master 5 2 3 0 0"
    ∷ "ticks 1000, ticks 1000 000010"
    ∷ "trial 0, trial 0 6000, trial 0 6000 002000"
    ∷ [])
    ++ (chars "start, travel, position, dwell, watch, polarity, low, high, outputs, speed, slope, distance, stop, "
    ++ rows ("status, everything, inputs, clear, reset, carry, opening, master, ticks, trial" ∷ []))

-- How many words there are, and so the place of no word.
abbrev pub word_count : ℕ
word_count = 23

-- How many first letters a word has in common with the one at place k; none with that behind the last.
abbrev pub shared : ℕ → List ℕ → ℕ
shared k w = common (part 10 k keywords) w

-- Of two places the one whose word has more of them in common, and the first where both have as many.
abbrev pub better_of : List ℕ → ℕ → ℕ → ℕ
better_of w j k = cond (ltb (shared j w) (shared k w)) k j

-- The best of the first n places; that of no word where none has a letter in common.
unfoldable pub closest : ℕ → List ℕ → ℕ
closest zero w = word_count
closest (suc n) w = better_of w (closest n w) n

-- Whether the word at place k is this very one.
abbrev pub is_word : ℕ → List ℕ → Bool
is_word k w = same (part 10 k keywords) w

-- The place k for its very word, else the one that was found before.
abbrev pub or_else : List ℕ → ℕ → ℕ → ℕ
or_else w found k = cond (is_word k w) k found

-- The place of the very word among the first n; that of no word where it is none of them.
unfoldable pub place_in : ℕ → List ℕ → ℕ
place_in zero w = word_count
place_in (suc n) w = or_else w (place_in n w) n

abbrev pub place_of : List ℕ → ℕ
place_of w = place_in word_count w

-- A question mark and the nearest form.
abbrev pub question_text : List ℕ → List ℕ
question_text w = chars "? " ++ part 10 (closest word_count w) forms
