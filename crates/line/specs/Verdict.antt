-- A judgement in the paper's terms ("Turned away", 4 to 10): its number and values for each case, and what they are for
-- every line.
use Rattle.line.specs.declared.Accepted.{Accepted}
use Rattle.line.specs.declared.Refusal.{Refusal}
use Rattle.std.specs.Prelude.{ℕ, Bool, true, false, cond, not, ◌||◌, List, [], ◌∷◌, ltb, eqb, length, Option, Some, None, Result, Ok, Err}
use Rattle.digits.specs.Digits.{digit_of, number_of}
use Rattle.line.specs.declared.command.Command.{Command}
use Rattle.line.specs.declared.row.Row.{Row}
use Rattle.line.specs.Ranges.{is_within, fits}
use Rattle.line.specs.Codes.{row_of, listed}
use Rattle.line.specs.Line.{
  char_at,
  is_letter,
  is_switch,
  is_ident,
  is_number,
  value_of,
  digit_chars,
  digit_count,
  refusal_number,
}

-- What an accepted line asks for: its command and its six digits, absent ones 0.
pub record Asked : Type 0 where
  pub command : Command
  pub digits : ℕ

-- A number, 0 where no rule turns the line away, and what a line that is accepted asks for.
pub record Verdict : Type 0 where
  pub number : ℕ
  pub asked : List Asked

-- The paper's number and values for each case of a judgement: 0 with the command and its digits, or the number alone.
abbrev pub verdict_of : Result Accepted Refusal → Verdict
verdict_of (Ok a) = record {
  number = 0;
  asked = record { command = a.command; digits = a.digits } ∷ [];
}
verdict_of (Err r) = record { number = refusal_number r; asked = [] }

-- A rule: its number, and whether it applies.
pub record Rule : Type 0 where
  pub number : ℕ
  pub applies : Bool

-- In checking order: the first rule that applies gives the number.
abbrev pub first_of : List Rule → ℕ
first_of [] = 0
first_of (r ∷ rs) = cond r.applies r.number (first_of rs)

-- What a row of the table says: that the code is listed, that it takes this many digits, that its value is in range,
-- and what it asks for.
abbrev pub is_listed : Option Row → Bool
is_listed None = false
is_listed (Some row) = true

abbrev pub has_count : Option Row → ℕ → Bool
has_count None count = false
has_count (Some row) count = is_within count row.least 6

abbrev pub in_range : Option Row → Bool
in_range None = false
in_range (Some row) = fits row.command

abbrev pub asked_by : Option Row → ℕ → List Asked
asked_by None n = []
asked_by (Some row) n = record { command = row.command; digits = n } ∷ []

-- 4. Under 2 or over 9 characters. 5. First character not P, Q, q, W. 6. Second not 0 or 4.
-- 7. A later character is no digit, or the ninth no identification. 8. P, Q, q: code absent or unlisted.
-- 9. Digit count not the code's. 10. Value outside its range.
abbrev pub rules : List ℕ → List Rule
rules cs =
    let digits = number_of (digit_chars cs) in
    let n = value_of digits in
    let row = row_of (char_at cs 0) (digit_count cs) n in
    record { number = 4; applies = ltb (length cs) 2 || ltb 9 (length cs) }
    ∷ record { number = 5; applies = not (is_letter (char_at cs 0)) }
    ∷ record { number = 6; applies = not (is_switch (char_at cs 1)) }
    ∷ record { number = 7; applies = not (is_ident (digit_of (char_at cs 8))) || not (is_number digits) }
    ∷ record { number = 8; applies = not (is_listed row) }
    ∷ record { number = 9; applies = not (has_count row (digit_count cs)) }
    ∷ record { number = 10; applies = not (in_range row) }
    ∷ []

-- The line's number.
unfoldable pub line_number : List ℕ → ℕ
line_number cs = first_of (rules cs)

-- What the line asks for, from its row of the table and its digits.
unfoldable pub line_asked : List ℕ → List Asked
line_asked cs =
    let n = value_of (number_of (digit_chars cs)) in
    asked_by (row_of (char_at cs 0) (digit_count cs) n) n

-- Every line: its number, and what it asks for where that is 0.
abbrev pub line_verdict : List ℕ → Verdict
line_verdict cs = record {
  number = line_number cs;
  asked = cond (eqb (line_number cs) 0) (line_asked cs) [];
}
