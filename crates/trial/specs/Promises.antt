-- What the entry promises beside what it answers (paper 02, 5/14): its numbers, whatever the machine; that its line is
-- the plain start; that the tick of the end is the first, and the rest alters nothing; and that the bench itself, a
-- half-received line aside, comes to the same.
use Rattle.std.specs.Prelude.{ℕ, suc, ◌≤◌, ◌<◌, true, false, pos, List, [], ◌∷◌, map, ◌≡◌}
use Rattle.laws.specs.Axes.{each}
use Rattle.digits.specs.Digits.{end_byte}
use Rattle.line.specs.declared.command.Command.TheVariants.{Start}
use Rattle.reply.specs.declared.readings.Travel.{Travel}
use Rattle.machine.specs.State.{Machine, with_watch, with_line}
use Rattle.machine.specs.Starts.{begun}
use Rattle.machine.specs.Commands.{number}
use Rattle.machine.specs.Steps.{byte_step}
use Rattle.machine.specs.Calls.{Call, byte, state, buffer, bytes, ticks}
use Rattle.machine.specs.List.{ends, travel, position}
use Rattle.trial.specs.declared.Trial.{Trial}
use Rattle.trial.specs.Trial.{start_line, start_answer, ends_next, end_of, trial_of}

-- ---- The numbers

-- With a number all else is 0.
abbrev pub Turned : Trial → ℕ → Type 0
Turned t n =
    (t.number ≡ n) × ((t.end ≡ 0) × ((map (λ (x : Travel). x.0) t.travels ≡ each (λ k. 0))
    × (t.positions ≡ each (λ k. pos 0))))

-- The first that applies is told, whatever the machine.
pub record Numbers : Type 0 where
  pub word : (m : Machine) (k w n : ℕ) → 16777215 < w → Turned (trial_of m k w n) 3
  pub most : (m : Machine) (k w n : ℕ) → w ≤ 16777215 → 1000000 < n → Turned (trial_of m k w n) 25
  pub master : (m : Machine) (k w n : ℕ) → w ≤ 16777215 → n ≤ 1000000 → 4 < k → Turned (trial_of m k w n) 10
  -- then the start's own: 0 where it is accepted
  pub start : (m : Machine) (k w n : ℕ) → w ≤ 16777215 → n ≤ 1000000 → k < 5
      → (trial_of m k w n).number ≡ number m (Start k false)
  pub zeros : (m : Machine) (k w n : ℕ) → ((trial_of m k w n).number ≡ 0 → ⊥)
      → Turned (trial_of m k w n) (trial_of m k w n).number
  -- a half-received line plays no part
  pub aside : (m : Machine) (l : List ℕ) (k w n : ℕ) → trial_of (with_line m l) k w n ≡ trial_of m k w n

-- ---- The start

-- The line is that of a plain start, which no dwell stores.
pub record PlainStart : Type 0 where
  -- the numbers that turn it away, in their order: 11 a move runs, then 12 to 17
  pub turned : (m : Machine) (k : ℕ) → k < 5 → (start_answer m k).number ≡ number m (Start k false)
  -- accepted, a move begins: bits 3 and 6 are cleared, the dwell ends, a stored start is dropped (`begun`), and as
  -- after every accepted line the watch count is 0
  pub begins : (m : Machine) (k : ℕ) → k < 5 → number m (Start k false) ≡ 0
      → (start_answer m k).machine ≡ with_watch (begun (with_line m []) k) 0

-- ---- The end

-- Whatever machine, input word and number of ticks.
pub record FirstEnd : Type 0 where
  -- the end that is told is that of one of the ticks, and none before it ends the move
  pub told : (m : Machine) (w n i : ℕ) → end_of m w n ≡ suc i → (i < n) × (ends_next m w i ≡ true)
  pub first : (m : Machine) (w n i : ℕ) → end_of m w n ≡ suc i → (j : ℕ) → j < i → ends_next m w j ≡ false
  -- none is told where none of the ticks ends the move
  pub none : (m : Machine) (w n : ℕ) → end_of m w n ≡ 0 → (j : ℕ) → j < n → ends_next m w j ≡ false

-- Ticks after the end alter nothing that is shown.
pub record Rest : Type 0 where
  pub stays : (m : Machine) (k w n i : ℕ) → (trial_of m k w n).end ≡ suc i → trial_of m k w n ≡ trial_of m k w (suc i)

-- ---- The bench itself

-- The plain start's line and n ticks with the input word w, after the calls of h.
abbrev pub doing : ℕ → ℕ → ℕ → List Call → List Call
doing k w n h = ticks n w (byte end_byte buffer ∷ bytes (start_line k) h)

-- Calls that leave what those of h leave, a half-received line aside.
pub record Aside (s : ℕ) (h : List Call) : Type 0 where
  pub calls : List Call
  pub leave : state s calls ≡ with_line (state s h) []

-- The start and the ticks done after the calls of g come to what t tells, as demand 3 reads it off the list of all
-- these calls (machine/specs/List.antt).
pub record Done (s : ℕ) (g : List Call) (k w n : ℕ) (t : Trial) : Type 0 where
  pub travels : map (λ (x : Travel). x.0) t.travels ≡ each (travel s (doing k w n g))
  pub positions : t.positions ≡ each (position s (doing k w n g))
  -- the tick that is told is one of them and ends the move, and none before it does
  pub ended : (i : ℕ) → t.end ≡ suc i → (i < n) × (ends s (doing k w (suc i) g) ≡ true)
  pub first : (i : ℕ) → t.end ≡ suc i → (j : ℕ) → j < i → ends s (doing k w (suc j) g) ≡ false
  -- none is told where none of them ends it
  pub none : t.end ≡ 0 → (j : ℕ) → j < n → ends s (doing k w (suc j) g) ≡ false

pub record OnTheBench : Type 0 where
  -- after every list there are such calls; where there is no half-received line, its own
  pub copy : (s : ℕ) (h : List Call) → Aside s h
  pub itself : (s : ℕ) (h : List Call) → (state s h).line ≡ [] → state s h ≡ with_line (state s h) []
  -- after these calls the line has the number that is told
  pub turned : (s : ℕ) (h g : List Call) (k w n : ℕ) → state s g ≡ with_line (state s h) [] → w ≤ 16777215 → n ≤ 1000000
      → k < 5 → (trial_of (state s h) k w n).number ≡ (byte_step (state s (bytes (start_line k) g)) end_byte buffer).number
  pub done : (s : ℕ) (h g : List Call) (k w n : ℕ) → state s g ≡ with_line (state s h) []
      → (trial_of (state s h) k w n).number ≡ 0 → Done s g k w n (trial_of (state s h) k w n)
