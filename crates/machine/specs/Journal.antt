-- Paper 02, 1/14, of every list of calls: which calls answer an entry, and what it tells, read off the list as in
-- List.antt.
use Rattle.std.specs.Prelude.{ℕ, ◌+◌, ◌^◌, ◌<◌, true, cond, List, [], ◌∷◌, ◌≡◌, eqb, ℤ, pos, ◌+ℤ◌}
use Rattle.laws.specs.Axes.{each}
use Rattle.laws.specs.Bits.{weight}
use Rattle.journal.specs.declared.Entry.{Entry}
use Rattle.journal.specs.Entries.{fits}
use Rattle.machine.specs.State.{Machine}
use Rattle.machine.specs.Entries.{EntryAnswer, no_entry, entry}
use Rattle.machine.specs.Steps.{tick_step}
use Rattle.machine.specs.Calls.{Call, byte, tick, state}
use Rattle.machine.specs.Roles.{begins, is_taken, sent}
use Rattle.machine.specs.List.{effect, start_or_carry, master, counted, goes_on, ends, whole}

-- The ticks that were not turned away since the latest move's start took effect, for a stored start that very tick
-- included, or since its last carry-on (6/14): those in which its ramp ran, until it ends.
unfoldable pub ticks_since : ℕ → List Call → ℕ
ticks_since s [] = 0
ticks_since s (x ∷ h) = cond (start_or_carry s h x) 0 (ticks_since s h) + weight (is_taken x) 1

-- The sum of the answers for an axis of all ticks since that start, across carry-ons.
unfoldable pub moved : ℕ → List Call → ℕ → ℤ
moved s [] k = pos 0
moved s (x ∷ h) k = cond (begins (effect s h x)) (pos 0) (moved s h k) +ℤ sent (state s h) x k

-- The latest move's entry, in the tick that ends it. m is the number of the master's answers that are not 0.
abbrev pub move_entry : ℕ → List Call → Entry
move_entry s h = record {
  ticks = ticks_since s h;
  cause = cond (eqb (counted s h (master s h)) (whole s h)) 0 1;
  travels = each (moved s h);
}

-- The entry that a call answers: a byte answers none.
abbrev pub answers_entry : Machine → Call → EntryAnswer
answers_entry m (byte b buffer) = no_entry
answers_entry m (tick w buffer) = (tick_step m w buffer).entry

-- The one that the latest call answers.
unfoldable pub latest_entry : ℕ → List Call → EntryAnswer
latest_entry s [] = no_entry
latest_entry s (x ∷ h) = answers_entry (state s h) x

pub record EntryAnswered (s : ℕ) (h : List Call) : Type 0 where
  -- the tick that ends a move, and no other call, answers its entry
  pub answered : latest_entry s h ≡ cond (ends s h) (entry (move_entry s h)) no_entry
  -- and the journal takes it: 1 to 2 to the power 45, less 1, ticks, and travels in range
  pub taken : ends s h ≡ true → fits (move_entry s h) ≡ true
  -- under way the machine's count is the list's, and under 2 to the power 45
  pub counts : goes_on s h ≡ true → ((state s h).move.ticks ≡ ticks_since s h) × (ticks_since s h < 2 ^ 45)

-- For every switch and every list of calls.
abbrev pub Journal : Type 0
Journal = (s : ℕ) (h : List Call) → EntryAnswered s h
