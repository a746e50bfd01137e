-- The replies (paper 01, "Lines", Replies): what each accepted command answers, from the figures that a controller can
-- tell, and how a travel and a position are held.
use Rattle.std.specs.Prelude.{ℕ, ◌+◌, ◌-◌, ◌*◌, ◌%◌, Bool, false, cond, List, [], ◌∷◌, ltb, ℤ, pos, negsuc, ◌+ℤ◌, get_or, Option, None}
use Rattle.laws.specs.Bits.{weight}
use Rattle.digits.specs.Digits.{five_digits, top_bit}
use Rattle.block.specs.Block.{block_of, row_of}
use Rattle.line.specs.declared.command.Command.{Command}
use Rattle.line.specs.declared.command.Command.TheVariants as C
use Rattle.line.specs.declared.command.Reading.{Reading}
use Rattle.line.specs.declared.command.Reading.TheVariants as R
use Rattle.reply.specs.declared.Answer.{Answer}
use Rattle.reply.specs.declared.Answer.TheVariants.{One, All, Later}
use Rattle.reply.specs.declared.readings.Position.{Position}
use Rattle.reply.specs.declared.readings.Readings.{Readings}

-- What replies are made from: the switch, for each axis the five digits of its travel (with the minus bit) and of its
-- position, the status and the last tick's inputs.
pub record Told : Type 0 where
  pub switch : ℕ
  pub travel : ℕ → ℕ
  pub position : ℕ → ℕ
  pub status : ℕ
  pub inputs : ℕ

-- A code and the five digits after it.
abbrev pub coded : ℕ → ℕ → ℕ
coded code v = code * five_digits + v

-- The letters U, S, s and R.
abbrev pub letter_u : ℕ
letter_u = 85

abbrev pub letter_s : ℕ
letter_s = 83

abbrev pub letter_small_s : ℕ
letter_small_s = 115

abbrev pub letter_r : ℕ
letter_r = 82

-- One block: its letter, the switch, the digits, the identification.
abbrev pub block_for : ℕ → ℕ → ℕ → Option ℕ → List ℕ
block_for switch letter digits ident =
    block_of (record { letter = letter; switch = switch; number = digits; ident = ident })

-- q 8: the five S travels, S status, five s, R, each with the identification.
abbrev pub letters : List ℕ
letters =
    letter_s ∷ letter_s ∷ letter_s ∷ letter_s ∷ letter_s ∷ letter_s
    ∷ letter_small_s ∷ letter_small_s ∷ letter_small_s ∷ letter_small_s ∷ letter_small_s ∷ letter_r ∷ []

abbrev pub numbers : Told → List ℕ
numbers t =
    coded 0 (t.travel 0) ∷ coded 1 (t.travel 1) ∷ coded 2 (t.travel 2) ∷ coded 3 (t.travel 3)
    ∷ coded 4 (t.travel 4)
    ∷ coded 6 t.status
    ∷ coded 0 (t.position 0) ∷ coded 1 (t.position 1) ∷ coded 2 (t.position 2) ∷ coded 3 (t.position 3)
    ∷ coded 4 (t.position 4) ∷ t.inputs ∷ []

-- Q readings: S, code, the latest move's minus bit with travel, or status. q: s, code, position; q 8 everything. W:
-- nothing, for its block comes with a later tick (paper 02, 3/14).
abbrev pub reading_of : Told → Reading → Answer
reading_of t (R.Travel k) = One letter_s (coded k (t.travel k))
reading_of t (R.Position k) = One letter_small_s (coded k (t.position k))
reading_of t R.Status = One letter_s (coded 6 t.status)
reading_of t R.Everything = All
reading_of t R.Inputs = Later

-- A setting: P (codes to C) U with 000000, Q (D and E) S echoing.
abbrev pub setting_of : ℕ → ℕ → Answer
setting_of code digits = cond (ltb code 13) (One letter_u 0) (One letter_s digits)

-- P: U with 000000. Readings as above. Other Q: S echoing the digits, absent ones 0. W: nothing yet.
abbrev pub answer_of : Told → Command → ℕ → Answer
answer_of t (C.Distance k minus d) digits = One letter_u 0
answer_of t (C.Set code v) digits = setting_of code digits
answer_of t (C.Start k waits) digits = One letter_s digits
answer_of t (C.Order code) digits = One letter_s digits
answer_of t (C.Outputs v) digits = Later
answer_of t (C.Read r) digits = reading_of t r

-- The bytes of an answer.
abbrev pub bytes_of : Told → Answer → Option ℕ → List ℕ
bytes_of t (One letter number) ident = block_for t.switch letter number ident
bytes_of t All ident = row_of 12 letters (numbers t) t.switch ident
bytes_of t Later ident = []

-- The reply to a command with these six digits and this identification.
unfoldable pub reply_of : Told → Command → ℕ → Option ℕ → List ℕ
reply_of t c digits ident = bytes_of t (answer_of t c digits) ident

-- The block of a W line: R with the inputs (paper 02, 3/14: those of the 2,500th tick after it).
unfoldable pub inputs_of : ℕ → ℕ → Option ℕ → List ℕ
inputs_of switch inputs ident = block_for switch letter_r inputs ident

-- A turned-away line answers U 0000nn, nn its number, with the line's identification from 8 on and none for 4 to 7.
abbrev pub refusal_ident : ℕ → Option ℕ → Option ℕ
refusal_ident n ident = cond (ltb n 8) None ident

unfoldable pub refusal_of : ℕ → ℕ → Option ℕ → List ℕ
refusal_of switch n ident = block_for switch letter_u n (refusal_ident n ident)

-- The five digits of a travel: the minus bit, then 19 bits.
abbrev pub travel_digits : Bool → ℕ → ℕ
travel_digits minus travel = weight minus top_bit + travel

-- A position in 20-bit two's complement.
abbrev pub twenty : ℤ → ℕ
twenty (pos n) = n % five_digits
twenty (negsuc n) = 1048575 - n % five_digits

-- ---- How a travel and a position are held, for every value of them.

-- A position is held with 524,288 added.
abbrev pub bias : ℤ → ℕ
bias (pos n) = n + top_bit
bias (negsuc n) = 524287 - n

-- The position that is held so: what is held less 524,288, whatever is held.
abbrev pub position_of : Position → ℤ
position_of p = pos p.0 +ℤ negsuc 524287

-- Position 0, as it is held.
abbrev pub origin : Position
origin = record { 0 = top_bit }

-- What readings tell: of a travel its low 19 bits. An axis that is not there reads as one that never moved: plus,
-- travel 0, position 0.
abbrev pub told_by : Readings → Told
told_by r = record {
  switch = r.switch;
  travel = λ k. travel_digits (get_or r.minus k false) ((get_or r.travels k (record { 0 = 0 })).0 % top_bit);
  position = λ k. twenty (position_of (get_or r.positions k origin));
  status = r.status;
  inputs = r.inputs;
}
