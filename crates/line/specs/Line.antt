-- The line judged, as paper 01 has it ("Lines"): the checks 4 to 10 ("Turned away"), in order.
-- A line is the list of its characters, of any length, without the 0D that ended it.
use Rattle.line.specs.declared.Accepted.{Accepted}
use Rattle.line.specs.declared.Refusal.{Refusal}
use Rattle.line.specs.declared.Refusal.TheVariants as N
use Rattle.std.specs.Prelude.{ℕ, ◌-◌, min, Bool, true, false, cond, not, ◌||◌, List, [], ◌∷◌, ltb, eqb, length, get_or, Option, None, Some, Result, Ok, Err}
use Rattle.digits.specs.Digits.{digit_of, number_of, numbered}
use Rattle.digits.specs.Characters.{is_digit}
use Rattle.digits.specs.declared.Digit.{Digit}
use Rattle.digits.specs.declared.Number.{Number}
use Rattle.line.specs.declared.command.Command.{Command}
use Rattle.line.specs.declared.row.Row.{Row}
use Rattle.line.specs.Ranges.{is_within, fits}
use Rattle.line.specs.Codes.{letter_p, letter_q, letterq, letter_w, row_of}

-- ---- The characters of a line: letter, 0 or 4, up to six digits, an identification after six.

-- The characters 0 and 4.
abbrev pub digit0 : ℕ
digit0 = 48

abbrev pub digit4 : ℕ
digit4 = 52

-- The character at a place; an absent one counts as the digit 0.
abbrev pub char_at : List ℕ → ℕ → ℕ
char_at cs i = get_or cs i digit0

-- P, Q, q or W.
abbrev pub is_letter : ℕ → Bool
is_letter c = eqb c letter_p || eqb c letter_q || eqb c letterq || eqb c letter_w

-- 0 (reply) or 4 (silent).
abbrev pub is_switch : ℕ → Bool
is_switch c = eqb c digit0 || eqb c digit4

-- A line whose second character is 4 is silent, an over-long one too.
abbrev pub silent_of : List ℕ → Bool
silent_of cs = eqb (char_at cs 1) digit4

-- How many digits the line has: the characters after the second, six at most.
abbrev pub digit_count : List ℕ → ℕ
digit_count cs = min 6 (length cs - 2)

-- The six digits, the code first.
abbrev pub digit_chars : List ℕ → List ℕ
digit_chars cs = char_at cs 2 ∷ char_at cs 3 ∷ char_at cs 4 ∷ char_at cs 5 ∷ char_at cs 6 ∷ char_at cs 7 ∷ []

-- An identification is 0-9, A-F or a-f (paper 02, 7/14): any digit.
abbrev pub is_ident : Option Digit → Bool
is_ident d = is_digit d

-- The line's identification, the very ninth character.
abbrev pub ident_of : List ℕ → Option ℕ
ident_of cs = cond (eqb (length cs) 9) (Some (char_at cs 8)) None

-- Whether all six are digits, and their number.
abbrev pub is_number : Option Number → Bool
is_number None = false
is_number (Some x) = true

abbrev pub value_of : Option Number → ℕ
value_of None = 0
value_of (Some x) = x.value

-- ---- Turned away, in checking order: the first rule that applies gives the number.

-- An accepted line: its command, and its six digits as a number, absent ones 0.
abbrev pub accepting : Command → ℕ → Result Accepted Refusal
accepting command digits = Ok (record { command = command; digits = digits })

-- The numbers 4 to 10 of the rules.
abbrev pub refusal_number : Refusal → ℕ
refusal_number N.Length = 4
refusal_number N.Letter = 5
refusal_number N.Switch = 6
refusal_number N.Digits = 7
refusal_number N.Code = 8
refusal_number N.Count = 9
refusal_number N.Range = 10

-- The refusal if its rule applies, else the rest of the list.
abbrev pub turned_away : Refusal → Bool → Result Accepted Refusal → Result Accepted Refusal
turned_away refusal applies rest = cond applies (Err refusal) rest

-- 8. P, Q, q: code absent or unlisted. 9. Digit count not the code's. 10. Value outside its range.
unfoldable pub judge_row : Option Row → ℕ → ℕ → Result Accepted Refusal
judge_row None count n = Err N.Code
judge_row (Some row) count n =
    turned_away N.Count (not (is_within count row.least 6))
    (turned_away N.Range (not (fits row.command))
    (accepting row.command n))

-- The line's letter, digit count and number, from 8 on.
abbrev pub judge_value : ℕ → ℕ → ℕ → Result Accepted Refusal
judge_value letter count n = judge_row (row_of letter count n) count n

-- 4. Under 2 or over 9 characters. 5. First character not P, Q, q, W. 6. Second not 0 or 4.
-- 7. A later character is no digit, or the ninth no identification.
unfoldable pub judge_of : List ℕ → Result Accepted Refusal
judge_of cs =
    let number = number_of (digit_chars cs) in
    turned_away N.Length (ltb (length cs) 2 || ltb 9 (length cs))
    (turned_away N.Letter (not (is_letter (char_at cs 0)))
    (turned_away N.Switch (not (is_switch (char_at cs 1)))
    (turned_away N.Digits (not (is_ident (digit_of (char_at cs 8))) || not (is_number number))
    (judge_value (char_at cs 0) (digit_count cs) (value_of number)))))
