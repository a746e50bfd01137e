-- Paper 02, 3/14, over the code's own calls: a power-on answer and any list of answered calls after it, as in
-- Answers.antt. The block is the front part of the lent buffer of the length that the latest answer tells; which one is
-- due is read off the list of the calls (machine/specs/Settle.antt).
use Rattle.std.specs.Prelude.{ℕ, true, false, List, [], ◌∷◌, ◌≡◌, pos, length}
use Rattle.laws.specs.Axes.{each}
use Rattle.block.specs.Block.{over, front_of}
use Rattle.journal.specs.Journal.{zero_entry}
use Rattle.receiver.specs.Receiver.{before_end}
use Rattle.machine.specs.Steps.{outcome, is_short, too_large, tick_turned}
use Rattle.machine.specs.Calls.{state}
use Rattle.machine.specs.Settle.{ends_w, block_due, Shows}
use Rattle.controller.specs.declared.state.Controller.{Controller}
use Rattle.controller.specs.declared.state.TickAnswer.{TickAnswer}
use Rattle.controller.specs.declared.state.PowerOn.{PowerOn}
use Rattle.controller.specs.Answers.{Answered, byte, tick, stretch, last, Follows, calls_of, after_bytes}

-- The block of a W line that the latest call answered. The reply to a byte is no such block.
unfoldable pub latest_block_in : List Answered → List ℕ
latest_block_in [] = []
latest_block_in (byte b entry exit r ∷ l) = []
latest_block_in (tick w entry exit r ∷ l) = front_of exit r.length
latest_block_in (stretch bs r ∷ l) = after_bytes [] (before_end bs) (latest_block_in l)

-- A tick that the number n turns away.
abbrev pub refused_with : Controller → ℕ → TickAnswer
refused_with c n = record {
  controller = c;
  first = 0;
  second = 0;
  pulses = each (λ k. pos 0);
  number = n;
  ended = false;
  length = 0;
  entry = zero_entry;
}

-- A tick turned away by n: controller and buffer as they were, pulses and words 0, no end, no block.
abbrev pub Turned : Controller → ℕ → List ℕ → List ℕ → TickAnswer → Type 0
Turned c n entry exit r = (r ≡ refused_with c n) × (exit ≡ entry)

-- A tick tells the length of the block that is due and leaves it at the front of its buffer, which is otherwise as it
-- was; its words show the general outputs; 2, or else 3, turns it away.
pub record TickTold (s : ℕ) (p : PowerOn) (l : List Answered) (w : ℕ) (entry exit : List ℕ) (r : TickAnswer)
    : Type 0 where
  pub size : r.length ≡ length (block_due s (calls_of (tick w entry exit r ∷ l)))
  pub laid : exit ≡ over (block_due s (calls_of (tick w entry exit r ∷ l))) entry
  pub words : tick_turned w entry ≡ false → Shows s (calls_of (tick w entry exit r ∷ l)) r.first r.second
  pub short : is_short entry ≡ true → Turned (last p l) 2 entry exit r
  pub large : is_short entry ≡ false → too_large w ≡ true → Turned (last p l) 3 entry exit r

-- A byte that ends an accepted W line has no reply, number 0, and leaves its buffer as it was.
abbrev pub ToldIn : ℕ → PowerOn → List Answered → Type 0
ToldIn s p [] = Unit {0}
ToldIn s p (byte b entry exit r ∷ l) =
    ends_w (outcome (state s (calls_of l)) b entry) ≡ true
    → (r.length ≡ 0) × ((r.number ≡ 0) × (exit ≡ entry))
ToldIn s p (tick w entry exit r ∷ l) = TickTold s p l w entry exit r
ToldIn s p (stretch bs r ∷ l) = Unit {0}

pub record SettledOf (s : ℕ) (p : PowerOn) (l : List Answered) : Type 0 where
  -- a tick's answer has a block exactly if the latest accepted W line is not silent and that tick is the 2,500th
  -- accepted one after it: this block
  pub answered : latest_block_in l ≡ block_due s (calls_of l)
  pub told : ToldIn s p l

-- For every switch, every power-on answer and every list of answered calls after it.
abbrev pub SettlesAnswers : Type 0
SettlesAnswers = (s : ℕ) (p : PowerOn) (l : List Answered) → Follows s p l → SettledOf s p l
