-- Paper 02, 7/14, over the code's own calls: a power-on answer and any list of answered calls after it, as in
-- Answers.antt. A reply, and a tick's block, is the front part of the lent buffer of the length that the answer tells;
-- whose identification it has is read off the list of the calls (machine/specs/Identified.antt).
use Rattle.std.specs.Prelude.{ℕ, true, List, [], ◌∷◌}
use Rattle.block.specs.Block.{front_of}
use Rattle.machine.specs.Settle.{switch_of}
use Rattle.machine.specs.Identified.{received, latest_w, is_returned, Returned}
use Rattle.controller.specs.declared.state.PowerOn.{PowerOn}
use Rattle.controller.specs.Answers.{Answered, byte, tick, stretch, Follows, calls_of}

-- The latest answer has the identification of the line that it ends, by the number that it tells; that of a tick has
-- the one of the latest accepted W line. No line ends in a stretch.
abbrev pub ReturnedIn : ℕ → List Answered → Type 0
ReturnedIn s [] = Unit {0}
ReturnedIn s (byte b entry exit r ∷ l) =
    Returned (switch_of s) (received (calls_of l)) (is_returned r.number) (front_of exit r.length)
ReturnedIn s (tick w entry exit r ∷ l) =
    Returned (switch_of s) (latest_w s (calls_of l)) true (front_of exit r.length)
ReturnedIn s (stretch bs r ∷ l) = Unit {0}

-- For every switch, every power-on answer and every list of answered calls after it.
abbrev pub ReturnsAnswers : Type 0
ReturnsAnswers = (s : ℕ) (p : PowerOn) (l : List Answered) → Follows s p l → ReturnedIn s l
