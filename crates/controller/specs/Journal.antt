-- Paper 02, 1/14, over the code's own calls: a power-on answer and any list of answered calls after it, as in
-- Answers.antt. The entry is the one that the latest answer tells; what it must tell is read off the list: pulses off
-- the `pulses` of the answers.
use Rattle.std.specs.Prelude.{ℕ, ◌+◌, true, cond, List, [], ◌∷◌, ◌≡◌, eqb, ℤ, pos, ◌+ℤ◌}
use Rattle.laws.specs.Axes.{each}
use Rattle.laws.specs.Bits.{weight}
use Rattle.receiver.specs.Receiver.{before_end}
use Rattle.journal.specs.declared.Entry.{Entry}
use Rattle.journal.specs.Entries.{fits}
use Rattle.machine.specs.Entries.{EntryAnswer, no_entry, entry}
use Rattle.machine.specs.Calls as calls
use Rattle.machine.specs.Roles.{begins, is_taken}
use Rattle.machine.specs.List.{effect, start_or_carry, master, ends, whole}
use Rattle.controller.specs.declared.state.PowerOn.{PowerOn}
use Rattle.controller.specs.declared.state.TickAnswer.{TickAnswer}
use Rattle.controller.specs.Answers.{
  Answered,
  byte,
  tick,
  stretch,
  Follows,
  calls_of,
  pulse_in,
  after_bytes,
  count_in,
}

-- The entry that a tick's answer tells.
abbrev pub told_in : TickAnswer → EntryAnswer
told_in r = cond r.ended (entry r.entry) no_entry

-- The one that the latest call answered: bytes answer none.
unfoldable pub latest_entry_in : List Answered → EntryAnswer
latest_entry_in [] = no_entry
latest_entry_in (byte b before exit r ∷ l) = no_entry
latest_entry_in (tick w before exit r ∷ l) = told_in r
latest_entry_in (stretch bs r ∷ l) = after_bytes no_entry (before_end bs) (latest_entry_in l)

-- The ticks that were not turned away since the latest move's start took effect, for a stored start that very tick
-- included, or since its last carry-on (6/14). No line ends in a stretch.
unfoldable pub ticks_in : ℕ → List Answered → ℕ
ticks_in s [] = 0
ticks_in s (byte b before exit r ∷ l) = cond (start_or_carry s (calls_of l) (calls.byte b before)) 0 (ticks_in s l)
ticks_in s (tick w before exit r ∷ l) =
    cond (start_or_carry s (calls_of l) (calls.tick w before)) 0 (ticks_in s l)
    + weight (is_taken (calls.tick w before)) 1
ticks_in s (stretch bs r ∷ l) = ticks_in s l

-- The sum of the pulses that all ticks since that start answered for axis k, across carry-ons.
unfoldable pub moved_in : ℕ → List Answered → ℕ → ℤ
moved_in s [] k = pos 0
moved_in s (byte b before exit r ∷ l) k =
    cond (begins (effect s (calls_of l) (calls.byte b before))) (pos 0) (moved_in s l k)
moved_in s (tick w before exit r ∷ l) k =
    cond (begins (effect s (calls_of l) (calls.tick w before))) (pos 0) (moved_in s l k) +ℤ pulse_in r k
moved_in s (stretch bs r ∷ l) k = moved_in s l k

-- The latest move's entry. m is the number of pulses that the master was answered.
abbrev pub move_entry_in : ℕ → List Answered → Entry
move_entry_in s l = record {
  ticks = ticks_in s l;
  cause = cond (eqb (count_in s l (master s (calls_of l))) (whole s (calls_of l))) 0 1;
  travels = each (moved_in s l);
}

pub record EntryAnsweredOf (s : ℕ) (l : List Answered) : Type 0 where
  -- the tick that ends a move, and no other call, answers its entry
  pub answered : latest_entry_in l ≡ cond (ends s (calls_of l)) (entry (move_entry_in s l)) no_entry
  -- and the journal takes it
  pub taken : ends s (calls_of l) ≡ true → fits (move_entry_in s l) ≡ true

-- For every switch, every power-on answer and every list of answered calls after it.
abbrev pub JournalAnswers : Type 0
JournalAnswers = (s : ℕ) (p : PowerOn) (l : List Answered) → Follows s p l → EntryAnsweredOf s l
