-- One call on the machine: a received byte with its lent buffer, a tick with its input word and its lent buffer.
-- Power-on (Power.antt) is handed on.
use Rattle.line.specs.declared.Accepted.{Accepted}
use Rattle.line.specs.declared.Refusal.{Refusal}
use Rattle.receiver.specs.declared.Line.{Line}
use Rattle.line.specs.Line.{refusal_number}
use Rattle.std.specs.Prelude.{ℕ, ◌-◌, Bool, true, false, cond, ◌||◌, List, [], ltb, eqb, ℤ, pos, length, Option, Some, None, Result, Ok, Err}
use Rattle.block.specs.Block.{over}
use Rattle.line.specs.declared.command.Command.{Command}
use Rattle.receiver.specs.Receiver.{receive}
use Rattle.machine.specs.State.{Waiting, none, start, Machine, with_line, with_watch, with_pause}
pub use Rattle.machine.specs.Power.{bad_switch, plan₀, power_on, power_number}
use Rattle.machine.specs.Entries.{EntryAnswer, no_entry}
use Rattle.machine.specs.Ramp.{Ran, runs}
use Rattle.machine.specs.Stops.{takes, stops}
use Rattle.machine.specs.Starts.{start_number, begun, notes}
use Rattle.machine.specs.Commands.{number, does, awaits, drops, turned}
use Rattle.machine.specs.Replies.{reply_to, refusal, settled_block, unless_silent}
use Rattle.machine.specs.Outputs.{word}

-- ---- A received byte

-- What comes of a byte.
pub data Outcome : Type 0 where
  -- 2: the byte is not taken
  untaken : Outcome
  -- a character of a line
  gathered : Outcome
  -- a line turned away: its number, whether it is silent, its identification
  refused : ℕ → Bool → Option ℕ → Outcome
  -- a line accepted: its command and six digits, whether it is silent, its identification
  accepted : Command → ℕ → Bool → Option ℕ → Outcome

abbrev pub decided : Machine → Bool → Option ℕ → Result Accepted Refusal → Outcome
decided m silent ident (Err r) = refused (refusal_number r) silent ident
decided m silent ident (Ok a) =
    cond (eqb (number m a.command) 0) (accepted a.command a.digits silent ident) (refused (number m a.command) silent ident)

abbrev pub outcome_of : Machine → Option Line → Outcome
outcome_of m None = gathered
outcome_of m (Some line) = decided m line.silent line.ident line.judged

-- 2. A reply buffer under 120 bytes.
abbrev pub is_short : List ℕ → Bool
is_short buffer = ltb (length buffer) 120

-- With such a buffer the byte is not taken.
abbrev pub outcome : Machine → ℕ → List ℕ → Outcome
outcome m b buffer = cond (is_short buffer) untaken (outcome_of m (receive m.line b).heard)

-- The machine after a byte, the reply, and the number (0 where nothing is turned away), told of silent lines too.
pub record ByteAnswer : Type 0 where
  pub machine : Machine
  pub reply : List ℕ
  pub number : ℕ

-- The characters after the byte.
abbrev pub heard_by : Machine → ℕ → Machine
heard_by m b = with_line m (receive m.line b).line

abbrev pub answered : Machine → ℕ → Outcome → ByteAnswer
answered m b untaken = record { machine = m; reply = []; number = 2 }
answered m b gathered = record { machine = heard_by m b; reply = []; number = 0 }
answered m b (refused n silent ident) = record {
  machine = turned (heard_by m b) n;
  reply = unless_silent silent (refusal m n ident);
  number = n;
}
answered m b (accepted c digits silent ident) = record {
  machine = awaits (with_watch (does (heard_by m b) c) 0) c silent ident;
  reply = unless_silent silent (reply_to m c digits ident);
  number = 0;
}

abbrev pub byte_step : Machine → ℕ → List ℕ → ByteAnswer
byte_step m b buffer = answered m b (outcome m b buffer)

-- The lent buffer after the call: the reply at its front, bytes after it keep their values.
abbrev pub buffer_after : ByteAnswer → List ℕ → List ℕ
buffer_after a buffer = over a.reply buffer

-- ---- A tick, in its order: inputs, watch count, emergency, outputs; dwell and waiting start; stop causes; ramp and
-- pulses. A block has the inputs of this tick; nothing else of the tick alters it.

-- What comes of a waiting start in a tick.
pub data Tried : Type 0 where
  untried : Tried
  -- turned away by this number, and dropped
  failed : ℕ → Tried
  -- a move begins with this master
  began : ℕ → Tried

abbrev pub try_start : Machine → ℕ → Tried
try_start m k = cond (eqb (start_number m k) 0) (began k) (failed (start_number m k))

abbrev pub try_waiting : Machine → Waiting → Tried
try_waiting m none = untried
try_waiting m (start k) = try_start m k

-- The dwell is counted down; it becomes 0, from 1.
abbrev pub runs_out : Machine → Bool
runs_out m = eqb m.pause.left 1

-- When it does, a waiting start is tried.
abbrev pub tries : Machine → Tried
tries m = cond (runs_out m) (try_waiting m m.pause.waiting) untried

abbrev pub counts : Machine → Machine
counts m = with_pause m (record { left = m.pause.left - 1; waiting = m.pause.waiting })

-- A start that was tried is dropped, begun or not. A move that begins has no dwell before it.
abbrev pub waits : Machine → Tried → Machine
waits m untried = counts m
waits m (failed n) = notes (drops (counts m)) n
waits m (began k) = begun m k

abbrev pub failure : Tried → ℕ
failure untried = 0
failure (failed n) = n
failure (began k) = 0

-- The machine as the stop causes look at it.
abbrev pub looks : Machine → ℕ → Machine
looks m w = waits (takes m w) (tries (takes m w))

-- The machine after a tick, the pulses, the words of the two halves, the entry of a move that it ends (paper 02, 1/14),
-- the number of a waiting start that failed, or 0, and the block of a W line whose 2,500th tick it is (3/14).
pub record TickAnswer : Type 0 where
  pub machine : Machine
  pub pulse : ℕ → ℤ
  pub first : ℕ
  pub second : ℕ
  pub entry : EntryAnswer
  pub number : ℕ
  pub reply : List ℕ

-- The block comes in the tick that counts the last of the 2,500.
abbrev pub block_in : Machine → ℕ → List ℕ
block_in m w = cond (eqb m.settle.left 1) (settled_block m w) []

abbrev pub ticked : Ran → ℕ → List ℕ → TickAnswer
ticked r n block = record {
  machine = r.machine;
  pulse = r.pulse;
  first = word r.machine r.pulse true;
  second = word r.machine r.pulse false;
  entry = r.entry;
  number = n;
  reply = block;
}

-- 2. A reply buffer under 120 bytes (paper 02, 3/14). 3. An input word of 16,777,216 or more. Nothing altered, pulses
-- and words 0, no entry, no block, this number in the failed start's place.
abbrev pub too_large : ℕ → Bool
too_large w = ltb 16777215 w

abbrev pub tick_turned : ℕ → List ℕ → Bool
tick_turned w buffer = is_short buffer || too_large w

abbrev pub refused_tick : Machine → ℕ → TickAnswer
refused_tick m n =
    record { machine = m; pulse = λ k. pos 0; first = 0; second = 0; entry = no_entry; number = n; reply = [] }

-- A tick by whether its buffer is short and its word too large.
abbrev pub tick_by : Machine → ℕ → Bool → Bool → TickAnswer
tick_by m w short large =
    cond short (refused_tick m 2)
    (cond large (refused_tick m 3)
    (ticked (runs (stops (looks m w))) (failure (tries (takes m w))) (block_in m w)))

abbrev pub tick_step : Machine → ℕ → List ℕ → TickAnswer
tick_step m w buffer = tick_by m w (is_short buffer) (too_large w)

-- The lent buffer after the tick: the block at its front, bytes after it keep their values.
abbrev pub buffer_after_tick : TickAnswer → List ℕ → List ℕ
buffer_after_tick a buffer = over a.reply buffer
