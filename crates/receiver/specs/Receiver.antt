-- The receiver of paper 01, "Lines": what a byte does to the characters received since the last 0D, and how those are
-- held.
use Rattle.line.specs.declared.Accepted.{Accepted}
use Rattle.line.specs.declared.Refusal.{Refusal}
use Rattle.receiver.specs.declared.Line.{Line}
use Rattle.std.specs.Prelude.{ℕ, ◌+◌, ◌-◌, min, Bool, cond, List, [], ◌∷◌, ◌++◌, ◌≡◌, leb, eqb, length, take, set, replicate, Option, None, Some, Result}
use Rattle.digits.specs.Digits.{end_byte}
use Rattle.line.specs.Line.{silent_of, ident_of, judge_of}
use Rattle.receiver.specs.declared.Receiver.{Receiver}
use Rattle.receiver.specs.declared.Taken.{Taken}
use Rattle.receiver.specs.declared.Gathered.{Gathered}

-- The end of a line: whether it is silent, its identification, and its judgement.
abbrev pub line_heard : Bool → Option ℕ → Result Accepted Refusal → Option Line
line_heard silent ident judged = Some (record { silent = silent; ident = ident; judged = judged })

-- A line that has ended, by its characters.
abbrev pub heard_line : List ℕ → Option Line
heard_line l = line_heard (silent_of l) (ident_of l) (judge_of l)

-- The characters after a byte, and what comes of it.
pub record Receipt : Type 0 where
  pub line : List ℕ
  pub heard : Option Line

-- Byte 0D ends the line, and the next begins; every other byte is a character of it.
abbrev pub receive : List ℕ → ℕ → Receipt
receive l b =
    cond (eqb b end_byte)
    (record { line = []; heard = heard_line l })
    (record { line = l ++ (b ∷ []); heard = None })

-- ---- A stretch of bytes

-- The bytes before the first that the test marks.
unfoldable pub before : (ℕ → Bool) → List ℕ → List ℕ
before marks [] = []
before marks (b ∷ bs) = cond (marks b) [] (b ∷ before marks bs)

-- Those before the first 0D: characters all of them.
abbrev pub before_end : List ℕ → List ℕ
before_end bs = before (λ b. eqb b end_byte) bs

-- ---- How the characters are held: the first ten, zeros after them, and their count up to ten.

abbrev pub holding : List ℕ → Receiver
holding l = record { chars = take 10 l ++ replicate (10 - length l) 0; count = min 10 (length l) }

abbrev pub held_taken : Receipt → Taken
held_taken r = record { next = holding r.line; heard = r.heard }

-- The characters before the first 0D of a stretch join the line, and are counted.
abbrev pub held_gathered : List ℕ → List ℕ → Gathered
held_gathered l bs = record { next = holding (l ++ before_end bs); count = length (before_end bs) }

-- P of every list of characters that the receiver r holds.
abbrev pub Holding : Receiver → (List ℕ → Type 0) → Type 0
Holding r P = (l : List ℕ) → holding l ≡ r → P l

-- ---- The same on the held characters, for every value of a receiver.

-- The characters held.
abbrev pub kept : Receiver → List ℕ
kept r = take r.count r.chars

abbrev pub heard_of : Receiver → Option Line
heard_of r = heard_line (kept r)

-- One character more; from ten on the count stands still.
abbrev pub push_of : Receiver → ℕ → Receiver
push_of r b =
    cond (leb 10 r.count) r
    (record { chars = set r.chars r.count b; count = r.count + 1 })

abbrev pub taken_of : Receiver → ℕ → Taken
taken_of r b =
    cond (eqb b end_byte)
    (record { next = holding []; heard = heard_of r })
    (record { next = push_of r b; heard = None })

-- Characters one after another.
unfoldable pub push_all : Receiver → List ℕ → Receiver
push_all r [] = r
push_all r (b ∷ bs) = push_all (push_of r b) bs

abbrev pub gathered_of : Receiver → List ℕ → Gathered
gathered_of r bs = record { next = push_all r (before_end bs); count = length (before_end bs) }
