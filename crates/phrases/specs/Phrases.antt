-- What the desk prints to a line of words (docs/PROTOCOL.md, "From words").
use Rattle.std.specs.Prelude.{ℕ, ◌-◌, Bool, true, false, cond, List, [], ◌∷◌, ◌++◌, ltb, eqb, length, get_or, take, drop, Option, None, Some, Ok, Err}
use Rattle.digits.specs.Digits.{end_byte, six_of}
use Rattle.block.specs.Block.{front_of}
use Rattle.line.specs.Ranges.{is_within}
use Rattle.machine.specs.Calls.{chars}
use Rattle.host.specs.Master.{master_of}
use Rattle.host.specs.Watch.{watch_off}
use Rattle.host.specs.Writer.{has_line, line_of}
use Rattle.host.specs.declared.Request.{Request}
use Rattle.text.specs.Decimal.{decimal_of}
use Rattle.text.specs.Parts.{part, same}
use Rattle.numerals.specs.Numerals.{spelled_of}
use Rattle.sentences.specs.Places as K
use Rattle.sentences.specs.Sentences.{turned_text, question_text, place_of}
use Rattle.phrases.specs.declared.meaning.NoCommand.TheVariants as N
use Rattle.phrases.specs.declared.Named.{Named}
use Rattle.phrases.specs.Meanings.{Meant, word, words, meant_by}

-- ---- `silent ` before a form, and ` as ` with one character behind it

abbrev pub is_silent : List ℕ → Bool
is_silent l = same (front_of l 7) (chars "silent ")

-- What stands behind `silent `, or all.
abbrev pub unsilenced : List ℕ → List ℕ
unsilenced l = cond (is_silent l) (drop 7 l) l

-- The last five characters are ` as ` and one more: the identification.
abbrev pub has_ident : List ℕ → Bool
has_ident l = cond (ltb (length l) 5) false (same (take 4 (drop (length l - 5) l)) (chars " as "))

abbrev pub named_of : List ℕ → Named
named_of l =
    cond (has_ident l)
    (record { ident = Some (get_or l (length l - 1) 0); length = length l - 5 })
    (record { ident = None; length = length l })

-- What is left: the form.
abbrev pub body_of : List ℕ → List ℕ
body_of l = front_of (unsilenced l) (named_of (unsilenced l)).length

-- A question mark and the form that is nearest to its first word.
abbrev pub nearest_text : List ℕ → List ℕ
nearest_text l = question_text (word 0 (body_of l))

-- ---- A command

-- Its line without 0D, or 19 with its sentence.
abbrev pub line_text : Request → List ℕ
line_text r = cond (has_line r) (part end_byte 0 (line_of r)) (turned_text 19)

abbrev pub request_text : Bool → Option ℕ → List ℕ → Meant → List ℕ
request_text silent ident l (Err N.Misspelled) = nearest_text l
request_text silent ident l (Ok c) = line_text (record { silent = silent; command = c; ident = ident })
request_text silent ident l (Err N.NotExact) = turned_text 21

unfoldable pub command_text : List ℕ → List ℕ
command_text l = request_text (is_silent l) (named_of (unsilenced l)).ident l (meant_by (body_of l))

-- ---- `opening`: the line that host tools send first (paper 02, 2/14), without 0D

abbrev pub opening_text : List ℕ → List ℕ
opening_text l = cond (eqb (words l) 1) (part end_byte 0 watch_off) (nearest_text l)

-- ---- `master` and five distances: the picker's axis

abbrev pub is_number : Option ℕ → Bool
is_number None = false
is_number (Some n) = true

abbrev pub number_of : Option ℕ → ℕ
number_of None = 0
number_of (Some n) = n

-- The decimal number that the word at place k spells, and whether it spells one.
abbrev pub is_number_at : List ℕ → ℕ → Bool
is_number_at l k = is_number (spelled_of 10 (word k l))

abbrev pub number_at : List ℕ → ℕ → ℕ
number_at l k = number_of (spelled_of 10 (word k l))

abbrev pub are_distances : List ℕ → Bool
are_distances l =
    cond (eqb (words l) 6)
    (cond (is_number_at l 1)
    (cond (is_number_at l 2)
    (cond (is_number_at l 3)
    (cond (is_number_at l 4) (is_number_at l 5)
    false)
    false)
    false)
    false)
    false

abbrev pub distances_of : List ℕ → List ℕ
distances_of l = number_at l 1 ∷ number_at l 2 ∷ number_at l 3 ∷ number_at l 4 ∷ number_at l 5 ∷ []

-- The five where they are numbers.
abbrev pub five_of : List ℕ → Option (List ℕ)
five_of l = cond (are_distances l) (Some (distances_of l)) None

abbrev pub master_text : List ℕ → List ℕ
master_text l =
    cond (are_distances l) (chars "master " ++ decimal_of (master_of (distances_of l)))
    (nearest_text l)

-- ---- `ticks`, their number, and an input word or none: the bench program's T line

-- 3 for an input word of more than 24 bits.
abbrev pub tick_text : ℕ → ℕ → List ℕ
tick_text n w =
    cond (ltb 16777215 w) (turned_text 3)
    (chars "T " ++ (decimal_of n ++ (chars " " ++ six_of w)))

-- The bench program takes 1 to 1,000,000 ticks (paper 01, "Host end and program").
abbrev pub tick_line_text : List ℕ → ℕ → Option ℕ → List ℕ
tick_line_text l n None = nearest_text l
tick_line_text l n (Some w) = cond (is_within n 1 1000000) (tick_text n w) (nearest_text l)

abbrev pub ticks_text : List ℕ → List ℕ
ticks_text l =
    cond (eqb (words l) 2) (tick_line_text l (number_at l 1) (Some 0))
    (cond (eqb (words l) 3) (tick_line_text l (number_at l 1) (spelled_of 16 (word 2 l)))
    (nearest_text l))

-- ---- `trial`, a master, a number of ticks or none, an input word or none: the program preview's D line

-- The first that applies: 3 for an input word of more than 24 bits, 25 for more than 1,000,000 ticks, 10 for a master
-- over 4 (paper 02, 5/14); else the line.
abbrev pub trial_line_text : ℕ → ℕ → ℕ → List ℕ
trial_line_text k n w =
    cond (ltb 16777215 w) (turned_text 3)
    (cond (ltb 1000000 n) (turned_text 25)
    (cond (ltb 4 k) (turned_text 10)
    (chars "D " ++ (decimal_of k ++ (chars " " ++ (decimal_of n ++ (chars " " ++ six_of w)))))))

-- Master, ticks and input word, where each is a number.
abbrev pub tried_text : List ℕ → Option ℕ → Option ℕ → Option ℕ → List ℕ
tried_text l None n w = nearest_text l
tried_text l (Some k) None w = nearest_text l
tried_text l (Some k) (Some n) None = nearest_text l
tried_text l (Some k) (Some n) (Some w) = trial_line_text k n w

-- Without a number of ticks there are 1,000,000, and without an input word it is 0.
abbrev pub trial_text : List ℕ → List ℕ
trial_text l =
    cond (eqb (words l) 2) (tried_text l (spelled_of 10 (word 1 l)) (Some 1000000) (Some 0))
    (cond (eqb (words l) 3) (tried_text l (spelled_of 10 (word 1 l)) (spelled_of 10 (word 2 l)) (Some 0))
    (cond (eqb (words l) 4)
    (tried_text l (spelled_of 10 (word 1 l)) (spelled_of 10 (word 2 l)) (spelled_of 16 (word 3 l)))
    (nearest_text l)))

-- ---- A line of words, by the place of its first

abbrev pub text_at : ℕ → List ℕ → List ℕ
text_at k l =
    cond (eqb k K.opening) (opening_text l)
    (cond (eqb k K.master) (master_text l)
    (cond (eqb k K.ticks) (ticks_text l)
    (cond (eqb k K.trial) (trial_text l)
    (command_text l))))

unfoldable pub words_text : List ℕ → List ℕ
words_text l = text_at (place_of (word 0 l)) l

-- Of a line that is too long the first 100 characters are looked at.
unfoldable pub overlong_text : List ℕ → List ℕ
overlong_text l = question_text (word 0 (unsilenced (front_of l 100)))
