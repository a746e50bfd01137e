-- What words mean as a command of paper 01 (docs/PROTOCOL.md, "From words"), by the place of their first word in the
-- table of words and by the words behind it.
use Rattle.std.specs.Prelude.{ℕ, min, true, false, cond, List, [], ◌∷◌, ltb, eqb, Option, Some, None, Result, Ok, Err}
use Rattle.line.specs.declared.command.Command.{Command}
use Rattle.line.specs.declared.command.Command.TheVariants as C
use Rattle.line.specs.declared.command.Reading.TheVariants as R
use Rattle.machine.specs.Calls.{chars}
use Rattle.text.specs.Parts.{part, parts, same}
use Rattle.numerals.specs.Numerals.{spelled_of, signed_of, figure_of}
use Rattle.numerals.specs.declared.Signed.{Signed}
use Rattle.numerals.specs.declared.NoFigure.{NoFigure}
use Rattle.numerals.specs.declared.NoFigure.TheVariants.{Misspelled, Inexact}
use Rattle.figures.specs.Figures.{Answer, speed_hz, command_of}
use Rattle.figures.specs.declared.Setting.{Setting}
use Rattle.figures.specs.declared.Setting.TheVariants.{Speed, Slope}
use Rattle.sentences.specs.Places as K
use Rattle.sentences.specs.Sentences.{place_of}
use Rattle.phrases.specs.declared.meaning.NoCommand.{NoCommand}
use Rattle.phrases.specs.declared.meaning.NoCommand.TheVariants as N

-- What words mean: a command for the writer, or why there is none.
abbrev pub Meant : Type 0
Meant = Result Command NoCommand

-- Where words have no figure, a command or none: then they have no form.
abbrev pub formed : Option Command → Meant
formed None = Err N.Misspelled
formed (Some c) = Ok c

-- ---- A word alone

abbrev pub plain_of : ℕ → Option Command
plain_of k =
    cond (eqb k K.stop) (Some (C.Order 9))
    (cond (eqb k K.status) (Some (C.Read R.Status))
    (cond (eqb k K.everything) (Some (C.Read R.Everything))
    (cond (eqb k K.inputs) (Some (C.Read R.Inputs))
    (cond (eqb k K.clear) (Some (C.Order 10))
    (cond (eqb k K.reset) (Some (C.Order 11))
    None)))))

-- ---- A word and a number n

-- An axis or a master: a number over 255 counts as 255, which no command has either.
abbrev pub axis_of : ℕ → ℕ
axis_of n = min 255 n

abbrev pub decimal_meant : ℕ → ℕ → Option Command
decimal_meant k n =
    cond (eqb k K.start) (Some (C.Start (axis_of n) false))
    (cond (eqb k K.travel) (Some (C.Read (R.Travel (axis_of n))))
    (cond (eqb k K.position) (Some (C.Read (R.Position (axis_of n))))
    (cond (eqb k K.dwell) (Some (C.Set 10 n))
    (cond (eqb k K.watch) (Some (C.Set 11 n))
    None))))

abbrev pub hexadecimal_meant : ℕ → ℕ → Option Command
hexadecimal_meant k n =
    cond (eqb k K.polarity) (Some (C.Set 12 n))
    (cond (eqb k K.low) (Some (C.Set 13 n))
    (cond (eqb k K.high) (Some (C.Set 14 n))
    (cond (eqb k K.outputs) (Some (C.Outputs n))
    None)))

-- The number of the word, which may spell none.
abbrev pub with_decimal : ℕ → Option ℕ → Option Command
with_decimal k None = None
with_decimal k (Some n) = decimal_meant k n

abbrev pub with_hexadecimal : ℕ → Option ℕ → Option Command
with_hexadecimal k None = None
with_hexadecimal k (Some n) = hexadecimal_meant k n

-- ---- A word and a figure: a speed in hertz or a slope in hertz per ms, as q quarters of it

-- The setting of q/4 hertz, or q/4 hertz per ms: crate figures has its command, or 21.
abbrev pub setting_of : ℕ → ℕ → Setting
setting_of k q = cond (eqb k K.speed) (Speed (speed_hz q)) (Slope (speed_hz q))

-- The answer of crate figures: its command, or none, with the number 21.
abbrev pub answer_meant : List Command → Meant
answer_meant [] = Err N.NotExact
answer_meant (c ∷ cs) = Ok c

abbrev pub asked_meant : Answer Command → Meant
asked_meant a = answer_meant a.values

abbrev pub quarters_meant : ℕ → ℕ → Meant
quarters_meant k q =
    cond (ltb K.slope k) (Err N.Misspelled)
    (asked_meant (command_of (setting_of k q)))

-- A figure that is no whole number of quarters, or below 0, is 21 for a speed and for a slope.
abbrev pub inexact_meant : ℕ → Meant
inexact_meant k = cond (ltb K.slope k) (Err N.Misspelled) (Err N.NotExact)

abbrev pub unread : NoFigure → NoCommand
unread Misspelled = N.Misspelled
unread Inexact = N.NotExact

abbrev pub with_figure : ℕ → Result ℕ NoFigure → Meant
with_figure k (Err Misspelled) = Err N.Misspelled
with_figure k (Err Inexact) = inexact_meant k
with_figure k (Ok q) = quarters_meant k q

-- ---- `carry` and `on`: the order C (paper 02, 6/14)

abbrev pub carry_of : List ℕ → Option Command
carry_of w = cond (same w (chars "on")) (Some (C.Order 12)) None

-- Two words. What follows `carry` is no number; else the kind of number: decimal before `polarity`, hexadecimal before
-- `speed`, else a figure.
abbrev pub single_of : ℕ → List ℕ → Meant
single_of k w =
    cond (eqb k K.carry) (formed (carry_of w))
    (cond (ltb k K.polarity) (formed (with_decimal k (spelled_of 10 w)))
    (cond (ltb k K.speed) (formed (with_hexadecimal k (spelled_of 16 w)))
    (with_figure k (figure_of w))))

-- ---- `distance`, an axis, a distance whose minus sign is the direction

abbrev pub signed_distance : ℕ → Option Signed → Option Command
signed_distance axis None = None
signed_distance axis (Some z) = Some (C.Distance (axis_of axis) z.minus z.size)

abbrev pub axis_distance : Option ℕ → Option Signed → Option Command
axis_distance None d = None
axis_distance (Some axis) d = signed_distance axis d

abbrev pub pair_of : ℕ → List ℕ → List ℕ → Option Command
pair_of k axis d = cond (eqb k K.distance) (axis_distance (spelled_of 10 axis) (signed_of d)) None

-- ---- `start`, a master, `after dwell`

abbrev pub waiting_start : Option ℕ → Option Command
waiting_start None = None
waiting_start (Some n) = Some (C.Start (axis_of n) true)

abbrev pub waiting_of : ℕ → List ℕ → List ℕ → List ℕ → Option Command
waiting_of k master w x =
    cond (eqb k K.start)
    (cond (same w (chars "after"))
    (cond (same x (chars "dwell")) (waiting_start (spelled_of 10 master))
    None)
    None)
    None

-- ---- Words with one space (32) between two of them

abbrev pub word : ℕ → List ℕ → List ℕ
word k l = part 32 k l

abbrev pub words : List ℕ → ℕ
words l = parts 32 l

-- By how many words there are, k being the place of the first.
abbrev pub meant_at : ℕ → List ℕ → Meant
meant_at k l =
    cond (eqb (words l) 1) (formed (plain_of k))
    (cond (eqb (words l) 2) (single_of k (word 1 l))
    (cond (eqb (words l) 3) (formed (pair_of k (word 1 l) (word 2 l)))
    (cond (eqb (words l) 4) (formed (waiting_of k (word 1 l) (word 2 l) (word 3 l)))
    (Err N.Misspelled))))

unfoldable pub meant_by : List ℕ → Meant
meant_by l = meant_at (place_of (word 0 l)) l
