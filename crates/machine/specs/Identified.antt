-- Paper 02, 7/14, of every list of calls: the characters of a line, and that each block of its reply returns its very
-- identification, the block that a tick answers to a W line too. All is read off the list as in List.antt. Which lines
-- are accepted is what the machine of paper 01 does.
use Rattle.std.specs.Prelude.{ℕ, ◌+◌, ◌*◌, ◌<◌, Bool, true, false, cond, ◌||◌, List, [], ◌∷◌, ◌++◌, ◌≡◌, leb, eqb, length, get_or, None}
use Rattle.digits.specs.Digits.{end_byte}
use Rattle.block.specs.Block.{Blocks}
use Rattle.line.specs.Line.{char_at, ident_of}
use Rattle.receiver.specs.Receiver.{heard_line}
use Rattle.machine.specs.Steps.{outcome_of, outcome, byte_step, is_short, tick_step}
use Rattle.machine.specs.Calls.{Call, byte, tick, state}
use Rattle.machine.specs.Settle.{ends_w, switch_of}

-- The characters since the last 0D. A byte that 2 turns away is not taken, and a tick alters none.
unfoldable pub received : List Call → List ℕ
received [] = []
received (byte b buffer ∷ h) =
    cond (is_short buffer) (received h)
    (cond (eqb b end_byte) [] (received h ++ (b ∷ [])))
received (tick w buffer ∷ h) = received h

-- Those of the latest accepted W line, query or not.
unfoldable pub latest_w : ℕ → List Call → List ℕ
latest_w s [] = []
latest_w s (byte b buffer ∷ h) = cond (ends_w (outcome (state s h) b buffer)) (received h) (latest_w s h)
latest_w s (tick w buffer ∷ h) = latest_w s h

-- A line that meets the number n is answered with its identification if it is accepted or turned away from 8 on.
abbrev pub is_returned : ℕ → Bool
is_returned n = eqb n 0 || leb 8 n

-- The character stands in the ninth place of each ten bytes.
abbrev pub Bears : ℕ → List ℕ → Type 0
Bears c bytes = (i : ℕ) → i * 10 + 8 < length bytes → get_or bytes (i * 10 + 8) 0 ≡ c

-- What is answered to a line of the characters cs, with its identification or without.
pub record Returned (switch : ℕ) (cs : List ℕ) (with : Bool) (bytes : List ℕ) : Type 0 where
  -- blocks one behind the other, or none, and all have the line's identification or all have none
  pub blocks : Blocks switch (cond with (ident_of cs) None) bytes
  -- it is the very ninth of nine characters, and stands in each block
  pub ninth : with ≡ true → length cs ≡ 9 → Bears (char_at cs 8) bytes
  -- a line of fewer characters, or of more, has none, and neither has its answer
  pub bare : (length cs ≡ 9 → ⊥) → Blocks switch None bytes

pub record ReturnsAfter (s : ℕ) (h : List Call) : Type 0 where
  -- a 0D that is taken ends the line of these characters
  pub line : (buffer : List ℕ) → is_short buffer ≡ false
      → outcome (state s h) end_byte buffer ≡ outcome_of (state s h) (heard_line (received h))
  -- what a byte answers has that line's identification, by the number that the line meets
  pub reply : (b : ℕ) (buffer : List ℕ)
      → Returned (switch_of s) (received h) (is_returned (byte_step (state s h) b buffer).number)
      (byte_step (state s h) b buffer).reply
  -- what a tick answers has that of the latest accepted W line
  pub block : (w : ℕ) (buffer : List ℕ)
      → Returned (switch_of s) (latest_w s h) true (tick_step (state s h) w buffer).reply

-- For every switch and every list of calls.
abbrev pub Returns : Type 0
Returns = (s : ℕ) (h : List Call) → ReturnsAfter s h
