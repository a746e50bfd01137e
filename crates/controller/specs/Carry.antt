-- Paper 02, 6/14, over the code's own calls: a power-on answer and any list of answered calls after it, as in
-- Answers.antt. The number of a line Q C is the one that its answer tells; what it must be is read off the list: pulses
-- off the `pulses` of the answers.
use Rattle.std.specs.Prelude.{ℕ, ◌-◌, Bool, false, cond, not, ◌&&◌, List, [], ◌∷◌, ◌≡◌, ltb, ℤ, ◌+ℤ◌}
use Rattle.laws.specs.Axes.{directed}
use Rattle.block.specs.Block.{over}
use Rattle.machine.specs.State.{Plan}
use Rattle.machine.specs.Calls as calls
use Rattle.machine.specs.Calls.{state}
use Rattle.machine.specs.Roles.{line_of, sets_distance}
use Rattle.machine.specs.List.{start_or_carry, distance, minus, master, stop_begun, goes_on, ends, whole}
use Rattle.machine.specs.Settle.{switch_of}
use Rattle.machine.specs.Carry.{carry_number_by, carry_reply, CarryLine}
use Rattle.controller.specs.declared.state.PowerOn.{PowerOn}
use Rattle.controller.specs.declared.state.ByteAnswer.{ByteAnswer}
use Rattle.controller.specs.Answers.{Answered, byte, tick, stretch, Follows, calls_of, count_in, sum_in}

-- Whether a stop ended the latest move short of M, and since then no distance line was accepted and no start took
-- effect; m is the number of pulses that the master was answered. No line ends in a stretch.
unfoldable pub short_in : ℕ → List Answered → Bool
short_in s [] = false
short_in s (byte b before exit r ∷ l) =
    not (sets_distance (line_of (state s (calls_of l)) (calls.byte b before)))
    && (not (start_or_carry s (calls_of l) (calls.byte b before)) && short_in s l)
short_in s (tick w before exit r ∷ l) =
    let h = calls_of (tick w before exit r ∷ l) in
    cond (ends s h) (stop_begun s h && ltb (count_in s (tick w before exit r ∷ l) (master s h)) (whole s h))
    (not (start_or_carry s (calls_of l) (calls.tick w before)) && short_in s l)
short_in s (stretch bs r ∷ l) = short_in s l

-- What is open of the latest move: its distances less the pulses that were answered in it; and the final positions.
abbrev pub open_in : ℕ → List Answered → Plan
open_in s l = record { distance = λ k. distance s (calls_of l) k - count_in s l k; minus = minus s (calls_of l) }

abbrev pub final_in : ℕ → List Answered → ℕ → ℤ
final_in s l k = sum_in s l k +ℤ directed ((open_in s l).minus k) ((open_in s l).distance k)

-- The number that a line Q C meets after the list.
abbrev pub carry_number_in : ℕ → List Answered → ℕ
carry_number_in s l =
    carry_number_by (goes_on s (calls_of l)) (short_in s l) (state s (calls_of l)) (open_in s l) (final_in s l)

-- What the answer r to a byte that ends the line c tells, the lent buffer being `before` it and `exit` after it.
pub record CarryTold (s : ℕ) (l : List Answered) (b : ℕ) (before exit : List ℕ) (r : ByteAnswer)
    (c : CarryLine (state s (calls_of l)) b before) : Type 0 where
  pub number : r.number ≡ carry_number_in s l
  pub reply : exit
      ≡ over (cond c.silent [] (carry_reply (switch_of s) (carry_number_in s l) c.digits c.ident)) before

-- For every switch, every power-on answer, every list of answered calls after it and every byte behind them that ends a
-- line Q C.
abbrev pub CarryAnswers : Type 0
CarryAnswers =
    (s : ℕ) (p : PowerOn) (l : List Answered) (b : ℕ) (before exit : List ℕ) (r : ByteAnswer)
    → Follows s p (byte b before exit r ∷ l) → (c : CarryLine (state s (calls_of l)) b before)
    → CarryTold s l b before exit r c
