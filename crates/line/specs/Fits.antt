-- What a line can ask for: the ranges of paper 01 ("Lines"), as facts about a judged line.
use Rattle.line.specs.declared.Accepted.{Accepted}
use Rattle.line.specs.declared.Refusal.{Refusal}
use Rattle.line.specs.Line.{refusal_number}
use Rattle.std.specs.Prelude.{ℕ, ◌%◌, ◌≤◌, ◌<◌, true, ◌≡◌, leb, Result, Ok, Err}
use Rattle.digits.specs.Digits.{six_digits}
use Rattle.line.specs.declared.command.Command.{Command}
use Rattle.line.specs.declared.command.Command.TheVariants as C
use Rattle.line.specs.Ranges.{fits}
use Rattle.line.specs.Codes.{code, five, second}

-- A command's values are in their ranges.
abbrev pub CommandFits : Command → Type 0
CommandFits c = fits c ≡ true

-- The six digits of an order, which its reply echoes: its code, and a start's second digit or an input setting's five.
-- Of any other command they are not echoed.
abbrev pub OrderFits : Command → ℕ → Type 0
OrderFits (C.Distance k minus d) n = 0 < 1
OrderFits (C.Set c v) n = 13 ≤ c → (code n ≡ c) × (five n ≡ v)
OrderFits (C.Start k waits) n = (code n ≡ 8) × (second n % 8 ≡ k) × (leb 8 (second n) ≡ waits)
OrderFits (C.Order c) n = code n ≡ c
OrderFits (C.Outputs v) n = 0 < 1
OrderFits (C.Read r) n = 0 < 1

-- An accepted line: its command fits, and its six digits are a number of 24 bits, an order's its own.
pub record AcceptedFits (c : Command) (n : ℕ) : Type 0 where
  pub command : CommandFits c
  pub digits : n < six_digits
  pub order : OrderFits c n

-- A judged line: accepted as above, or turned away by a number from 4 to 10.
abbrev pub JudgedFits : Result Accepted Refusal → Type 0
JudgedFits (Ok a) = AcceptedFits a.command a.digits
JudgedFits (Err r) = (4 ≤ refusal_number r) × (refusal_number r ≤ 10)
