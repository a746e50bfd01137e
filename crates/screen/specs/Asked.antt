-- The line that asks for a trial (docs/PROTOCOL.md, "A dose on screen first"): `D`, the master and the ticks in
-- decimal, the input word in hexadecimal, one space between two of them, and under 100 characters.
use Rattle.std.specs.Prelude.{ℕ, cond, List, leb, eqb, length, Option, Some, None}
use Rattle.machine.specs.Calls.{chars}
use Rattle.text.specs.Parts.{part, parts, same}
use Rattle.numerals.specs.Numerals.{spelled_of}
use Rattle.screen.specs.declared.asked.Asked.{Asked}

-- The words of a line, one space (32) between two of them, from place 0 on; and how many they are.
abbrev pub word : ℕ → List ℕ → List ℕ
word k l = part 32 k l

abbrev pub words : List ℕ → ℕ
words l = parts 32 l

-- A trial is asked for with this master, so many ticks and this input word.
abbrev pub asking : ℕ → ℕ → ℕ → Option Asked
asking master ticks w = Some (record { master = master; ticks = ticks; word = w })

-- A trial, where each of the three words spells its number.
abbrev pub with_word : ℕ → ℕ → Option ℕ → Option Asked
with_word master ticks None = None
with_word master ticks (Some w) = asking master ticks w

abbrev pub with_ticks : ℕ → Option ℕ → Option ℕ → Option Asked
with_ticks master None word = None
with_ticks master (Some n) word = with_word master n word

abbrev pub with_master : Option ℕ → Option ℕ → Option ℕ → Option Asked
with_master None ticks word = None
with_master (Some k) ticks word = with_ticks k ticks word

-- The first word is D; the master, the ticks and the input word follow.
abbrev pub four_words : List ℕ → Option Asked
four_words l =
    cond (same (word 0 l) (chars "D"))
    (with_master (spelled_of 10 (word 1 l)) (spelled_of 10 (word 2 l)) (spelled_of 16 (word 3 l)))
    None

-- What a line asks, by its characters; none where it has not the form.
unfoldable pub asked_of : List ℕ → Option Asked
asked_of l =
    cond (leb 100 (length l)) None
    (cond (eqb (words l) 4) (four_words l)
    None)
