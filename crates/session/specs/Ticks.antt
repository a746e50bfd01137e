-- So many ticks with one input word: the machine after them, the sums of the signed pulses, the number of a waiting
-- start that failed, and the block of a W line.
use Rattle.std.specs.Prelude.{ℕ, zero, suc, ◌≤◌, ◌<◌, cond, List, [], ◌++◌, eqb, ℤ, pos, ◌+ℤ◌, nat_abs, length, get_or}
use Rattle.std.specs.Int.{w8, w32}
use Rattle.std.proofs.Common.{SFits}
use Rattle.laws.specs.Axes.{each}
use Rattle.machine.specs.State.{Machine}
use Rattle.machine.specs.Steps as steps
use Rattle.machine.specs.Steps.{tick_step}
use Rattle.machine.specs.Calls.{from, buffer, ticks}
use Rattle.controller.specs.Held.{held}
use Rattle.session.specs.declared.ticks.Ran.{Ran}

-- The machine after n ticks with the input word w, each with a reply buffer of 120 bytes.
abbrev pub after_ticks : ℕ → ℕ → Machine → Machine
after_ticks n w m = from m (ticks n w [])

-- The sum of the signed pulses of axis k in these ticks.
unfoldable pub sum_of : ℕ → ℕ → Machine → ℕ → ℤ
sum_of zero w m k = pos 0
sum_of (suc n) w m k = sum_of n w m k +ℤ (tick_step (after_ticks n w m) w buffer).pulse k

-- The number of the last of these ticks that has one: that of a waiting start that failed. 0 where none has one.
abbrev pub later_of : ℕ → ℕ → ℕ
later_of before n = cond (eqb n 0) before n

unfoldable pub number_in : ℕ → ℕ → Machine → ℕ
number_in zero w m = 0
number_in (suc n) w m = later_of (number_in n w m) (tick_step (after_ticks n w m) w buffer).number

-- The blocks that these ticks answer. No line comes between them, so that there is one at most.
unfoldable pub blocks_of : ℕ → ℕ → Machine → List ℕ
blocks_of zero w m = []
blocks_of (suc n) w m = blocks_of n w m ++ (tick_step (after_ticks n w m) w buffer).reply

abbrev pub ran_of : ℕ → ℕ → Machine → Ran
ran_of n w m = record {
  controller = held (after_ticks n w m);
  sums = each (sum_of n w m);
  number = number_in n w m;
  length = length (blocks_of n w m);
}

-- ---- One tick more, on what is held

abbrev pub sum_at : List ℤ → List ℤ → ℕ → ℤ
sum_at sums pulses k = get_or sums k (pos 0) +ℤ get_or pulses k (pos 0)

abbrev pub added_of : List ℤ → List ℤ → List ℤ
added_of sums pulses = each (sum_at sums pulses)

abbrev pub ticked_of : Ran → steps.TickAnswer → Ran
ticked_of r a = record {
  controller = held a.machine;
  sums = added_of r.sums (each a.pulse);
  number = later_of r.number a.number;
  length = later_of r.length (length a.reply);
}

-- Neither a sum, nor a pulse, nor the two added leave their range.
pub record Room (z p : ℤ) : Type 0 where
  pub sum : SFits w32 z
  pub pulse : SFits w8 p
  pub both : SFits w32 (z +ℤ p)

abbrev pub Rooms : List ℤ → List ℤ → Type 0
Rooms sums pulses = (k : ℕ) → k < 5 → Room (get_or sums k (pos 0)) (get_or pulses k (pos 0))

-- Sums over any number of ticks: no larger than the way from the least position to the greatest.
abbrev pub Small : List ℤ → Type 0
Small sums = (k : ℕ) → k < 5 → nat_abs (get_or sums k (pos 0)) ≤ 1048576
