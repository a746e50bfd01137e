-- The host's writer (paper 01, "Host end and program"): from a command value to a full line. A full line has six digits
-- in capitals, those without meaning 0; a W query has none and no identification.
use Rattle.std.specs.Prelude.{ℕ, ◌+◌, ◌*◌, Bool, true, false, cond, not, ◌&&◌, List, [], ◌∷◌, ltb, eqb, length, Option, None, Some, Result, Ok, Err}
use Rattle.laws.specs.Bits.{weight}
use Rattle.digits.specs.Digits.{end_byte, four_digits, top_bit, digit_of, capital_of}
use Rattle.block.specs.Block.{block_of, over}
use Rattle.line.specs.Ranges.{fits}
use Rattle.line.specs.Codes.{letter_p, letter_q, letterq, letter_w, is_query}
use Rattle.line.specs.Line.{is_ident}
use Rattle.line.specs.declared.command.Reading.{Reading}
use Rattle.line.specs.declared.command.Reading.TheVariants as R
use Rattle.line.specs.declared.command.Command.{Command}
use Rattle.line.specs.declared.command.Command.TheVariants as C
use Rattle.reply.specs.Reply.{coded}
use Rattle.host.specs.declared.Request.{Request}
use Rattle.host.specs.declared.WriteError.{WriteError}
use Rattle.host.specs.declared.WriteError.TheVariants.{ShortBuffer, NoLine}
use Rattle.host.specs.declared.content.Content.{Content}

-- ---- A command's letter and digits ("Lines"; chapter 7)

-- A reading of positions or of everything is q's, of the inputs W's.
abbrev pub reading_letter : Reading → ℕ
reading_letter (R.Travel k) = letter_q
reading_letter (R.Position k) = letterq
reading_letter R.Status = letter_q
reading_letter R.Everything = letterq
reading_letter R.Inputs = letter_w

-- Settings are P's up to C, those of the inputs Q's.
abbrev pub letter_of : Command → ℕ
letter_of (C.Distance k minus d) = letter_p
letter_of (C.Set code v) = cond (ltb code 13) letter_p letter_q
letter_of (C.Start k waits) = letter_q
letter_of (C.Order code) = letter_q
letter_of (C.Outputs v) = letter_w
letter_of (C.Read r) = reading_letter r

-- The code alone; a W query has none.
abbrev pub reading_digits : Reading → ℕ
reading_digits (R.Travel k) = coded k 0
reading_digits (R.Position k) = coded k 0
reading_digits R.Status = coded 6 0
reading_digits R.Everything = coded 8 0
reading_digits R.Inputs = 0

-- The six digits: a distance's top bit is minus; watch and start have their value in the second digit, a start from 8
-- on where it waits; digits without meaning are 0.
abbrev pub digits_of : Command → ℕ
digits_of (C.Distance k minus d) = coded k (weight minus top_bit + d)
digits_of (C.Set code v) = coded code (cond (eqb code 11) (v * four_digits) v)
digits_of (C.Start k waits) = coded 8 ((weight waits 8 + k) * four_digits)
digits_of (C.Order code) = coded code 0
digits_of (C.Outputs v) = v
digits_of (C.Read r) = reading_digits r

-- A letter and six digits; those of a command.
abbrev pub content : ℕ → ℕ → Content
content letter digits = record { letter = letter; number = digits }

abbrev pub content_of : Command → Content
content_of c = content (letter_of c) (digits_of c)

-- ---- Which values have a line: those whose fields are in the ranges of "Lines" (crate line, `fits`)

-- An identification is absent, or a character 0-9, A-F or a-f.
abbrev pub ident_fits : Option ℕ → Bool
ident_fits None = true
ident_fits (Some c) = is_ident (digit_of c)

-- There is none.
abbrev pub is_absent : Option ℕ → Bool
is_absent None = true
is_absent (Some c) = false

-- A W query has no identification.
abbrev pub has_line : Request → Bool
has_line r = fits r.command && cond (is_query r.command) (is_absent r.ident) (ident_fits r.ident)

-- ---- The line

-- 0 (reply) or 4 (silent).
abbrev pub switch_of : Bool → ℕ
switch_of silent = weight silent 4

-- W, 0 or 4, 0D.
abbrev pub query_of : Bool → List ℕ
query_of silent = letter_w ∷ capital_of (switch_of silent) ∷ end_byte ∷ []

-- Letter, 0 or 4, six digits, the identification if given, 0D.
abbrev pub full_of : Bool → ℕ → ℕ → Option ℕ → List ℕ
full_of silent letter digits ident =
    block_of (record { letter = letter; switch = switch_of silent; number = digits; ident = ident })

-- The line of a request.
unfoldable pub line_of : Request → List ℕ
line_of r =
    cond (is_query r.command) (query_of r.silent)
    (full_of r.silent (letter_of r.command) (digits_of r.command) r.ident)

-- ---- The answer, and the buffer d after it

-- What the writer answers in the paper's terms.
pub data Written : Type 0 where
  -- number 0: a line of this length stands at the front of the buffer
  line : ℕ → Written
  -- the number that turns the request away
  refused : ℕ → Written

-- 18. Line buffer under 10 bytes. 19. Value without a line.
abbrev pub error_number : WriteError → ℕ
error_number ShortBuffer = 18
error_number NoLine = 19

-- The paper's number and values for each case of the writer's answer.
abbrev pub result_of : Result ℕ WriteError → Written
result_of (Ok n) = line n
result_of (Err e) = refused (error_number e)

-- 18. Line buffer under 10 bytes. 19. Value without a line. Else the line's length.
unfoldable pub written_of : Request → List ℕ → Written
written_of r d =
    cond (ltb (length d) 10) (refused 18)
    (cond (not (has_line r)) (refused 19)
    (line (length (line_of r))))

-- A refusal leaves the buffer as it was; bytes past the line keep their values.
unfoldable pub buffer_of : Request → List ℕ → List ℕ
buffer_of r d =
    cond (ltb (length d) 10) d
    (cond (not (has_line r)) d
    (over (line_of r) d))
