-- What the desk answers to a command of an MD5230D station (docs/PROTOCOL.md, "Lines of the other bench make"; paper
-- 02, 8/14): the lines of the command values that the converter gives, or the number that turns the command away.
use Rattle.std.specs.Prelude.{ℕ, Bool, false, cond, List, [], ◌∷◌, ◌++◌, eqb, length, get_or, take}
use Rattle.line.specs.Ranges.{is_within}
use Rattle.host.specs.declared.Request.{Request}
use Rattle.station.specs.declared.Converted.{Converted}
use Rattle.station.specs.Station.{number_of, values_in}
use Rattle.sentences.specs.Sentences.{turned_text}
use Rattle.phrases.specs.Meanings.{word}
use Rattle.phrases.specs.Phrases.{line_text}

-- ---- Which lines are commands: the first word is three capitals A-Z

abbrev pub is_capital : ℕ → Bool
is_capital c = is_within c 65 90

abbrev pub is_name : List ℕ → Bool
is_name w =
    cond (eqb (length w) 3)
    (cond (is_capital (get_or w 0 0))
    (cond (is_capital (get_or w 1 0)) (is_capital (get_or w 2 0))
    false)
    false)
    false

unfoldable pub is_station : List ℕ → Bool
is_station l = is_name (word 0 l)

-- The command as the station has it, the byte 00 behind it.
abbrev pub command_in : List ℕ → List ℕ
command_in l = l ++ (0 ∷ [])

-- ---- The lines of command values, each without 0D, a line feed (10) between two of them

-- With a line feed before each.
unfoldable pub more_text : List Request → List ℕ
more_text [] = []
more_text (r ∷ rs) = 10 ∷ (line_text r ++ more_text rs)

unfoldable pub lines_text : List Request → List ℕ
lines_text [] = []
lines_text (r ∷ rs) = line_text r ++ more_text rs

-- ---- The answer

-- Of the converter's six places those that are used.
abbrev pub used_in : Converted → List Request
used_in c = take c.count c.requests

-- The number with its sentence, or the lines where it is 0.
abbrev pub converted_text : ℕ → List Request → List ℕ
converted_text n rs = cond (eqb n 0) (lines_text rs) (turned_text n)

-- What is told of what comes of a command.
abbrev pub told_of : Converted → List ℕ
told_of c = converted_text c.number (used_in c)

unfoldable pub station_text : List ℕ → List ℕ
station_text l = converted_text (number_of (command_in l)) (values_in (command_in l))
