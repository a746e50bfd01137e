-- Paper 01, "Host end and program": the bench program as a machine that takes its input a byte at a time.
use Rattle.std.specs.Prelude.{ℕ, cond, List, [], ◌∷◌, ◌++◌, ◌≡◌, ltb, eqb, length, Option, Some, None}
use Rattle.digits.specs.Digits.{end_byte}
use Rattle.laws.specs.Axes.{each}
use Rattle.block.specs.Block.{over}
use Rattle.machine.specs.State.{Machine}
use Rattle.machine.specs.Steps as steps
use Rattle.machine.specs.Steps.{byte_step}
use Rattle.machine.specs.Calls.{Call, state, buffer, bytes}
use Rattle.controller.specs.declared.state.Controller.{Controller}
use Rattle.controller.specs.Held.{held}
use Rattle.host.specs.Watch.{watch_off}
use Rattle.session.specs.declared.asked.Ticks.{Ticks}
use Rattle.session.specs.declared.state.Place as declared
use Rattle.session.specs.declared.state.Place.TheVariants.{Start, Sending, Asking}
use Rattle.session.specs.declared.state.Session.{Session}
use Rattle.session.specs.declared.state.Taken.{Taken}
use Rattle.session.specs.declared.state.Sent.{Sent}
use Rattle.session.specs.Asked.{letter_t, asked_of}
use Rattle.session.specs.Ticks.{after_ticks, sum_of, number_in, blocks_of}
use Rattle.session.specs.Text.{sums_text}
use Rattle.session.specs.Kept.{keeping}

-- Where the input stands: before the first character of a line; in a line whose characters go in; in a line that begins
-- with T, with its characters so far.
pub data Place : Type 0 where
  starting : Place
  sending : Place
  asking : List ℕ → Place

pub record Bench : Type 0 where
  pub machine : Machine
  pub place : Place

-- The bench after a byte, what it prints, and a number: the one that turned the byte away, or the line that it ended,
-- told of silent lines too; after ticks the one of a waiting start that failed in them; else 0.
pub record Answer : Type 0 where
  pub bench : Bench
  pub printed : List ℕ
  pub number : ℕ

-- Before any input: power-on with switch 0, and then the host's first line goes in, whose reply is dropped (paper 02,
-- 2/14).
abbrev pub fresh : Bench
fresh = record { machine = state 0 (bytes watch_off []); place = starting }

-- Replies print with a line feed for 0D.
abbrev pub shown_byte : ℕ → ℕ
shown_byte c = cond (eqb c end_byte) 10 c

abbrev pub shown : List ℕ → List ℕ
shown [] = []
shown (c ∷ cs) = shown_byte c ∷ shown cs

-- A byte goes in with a reply buffer of 120 bytes, and its reply is printed; what the buffer holds plays no part.
abbrev pub sent : steps.ByteAnswer → Place → Answer
sent a p = record {
  bench = record { machine = a.machine; place = p };
  printed = shown a.reply;
  number = a.number;
}

abbrev pub sends : Machine → ℕ → Place → Answer
sends m b p = sent (byte_step m b buffer) p

-- A character of a line that begins with T.
abbrev pub keeps : Machine → List ℕ → Answer
keeps m l = record { bench = record { machine = m; place = asking l }; printed = []; number = 0 }

-- A line of the form runs its ticks and prints the block of a W line that comes in them, if one does (paper 02,
-- 3/14), and then the sums of the signed pulses of axes 0 to 4; or prints `?` (63).
abbrev pub asks : Machine → Option Ticks → Answer
asks m None = record { bench = record { machine = m; place = starting }; printed = 63 ∷ 10 ∷ []; number = 0 }
asks m (Some t) = record {
  bench = record { machine = after_ticks t.count t.word m; place = starting };
  printed = shown (blocks_of t.count t.word m) ++ sums_text 5 (each (sum_of t.count t.word m));
  number = number_in t.count t.word m;
}

-- The end of a line: other lines go in with 0D for their line feed.
abbrev pub ended_at : Machine → Place → Answer
ended_at m starting = sends m end_byte starting
ended_at m sending = sends m end_byte starting
ended_at m (asking l) = asks m (asked_of l)

abbrev pub ended : Bench → Answer
ended x = ended_at x.machine x.place

-- A byte that is no line feed.
abbrev pub character_at : Machine → Place → ℕ → Answer
character_at m starting b = cond (eqb b letter_t) (keeps m (b ∷ [])) (sends m b sending)
character_at m sending b = sends m b sending
character_at m (asking l) b = keeps m (l ++ (b ∷ []))

abbrev pub character : Bench → ℕ → Answer
character x b = character_at x.machine x.place b

-- A byte of the input.
abbrev pub taken : Bench → ℕ → Answer
taken x b = cond (eqb b 10) (ended x) (character x b)

-- The end of the input: the last line may lack its line feed.
abbrev pub rests : Bench → Answer
rests x = record { bench = x; printed = []; number = 0 }

abbrev pub finished_at : Bench → Place → Answer
finished_at x starting = rests x
finished_at x sending = ended x
finished_at x (asking l) = ended x

abbrev pub finished : Bench → Answer
finished x = finished_at x x.place

-- ---- How it is held

abbrev pub held_place : Place → declared.Place
held_place starting = Start
held_place sending = Sending
held_place (asking l) = Asking

abbrev pub kept_in : Place → List ℕ
kept_in starting = []
kept_in sending = []
kept_in (asking l) = l

abbrev pub held_bench : Bench → Session
held_bench x = record {
  controller = held x.machine;
  kept = keeping (kept_in x.place);
  place = held_place x.place;
}

abbrev pub held_answer : Answer → Taken
held_answer a = record { session = held_bench a.bench; length = length a.printed; number = a.number }

-- 2. A buffer under 120 bytes: byte not taken, nothing altered.
abbrev pub untaken : Bench → Answer
untaken x = record { bench = x; printed = []; number = 2 }

abbrev pub unless : List ℕ → Bench → Answer → Answer
unless d x a = cond (ltb (length d) 120) (untaken x) a

-- What is answered, and what the buffer holds after the call: what is printed stands at its front, bytes after it keep
-- their values.
abbrev pub Told : Taken → List ℕ → List ℕ → Answer → Type 0
Told r exit entry a = (r ≡ held_answer a) × (exit ≡ over a.printed entry)

-- The same, unless the buffer is too short.
abbrev pub Answers : Taken → List ℕ → List ℕ → Bench → Answer → Type 0
Answers r exit entry x a = Told r exit entry (unless entry x a)

-- Some list of calls and some place leave the session s.
pub record Running (s : Session) : Type 0 where
  pub switch : ℕ
  pub history : List Call
  pub place : Place
  pub made : held_bench (record { machine = state switch history; place = place }) ≡ s

-- P holds of every bench that calls made and that the session s holds.
abbrev pub Runs : Session → (Bench → Type 0) → Type 0
Runs s P =
    (w : ℕ) (h : List Call) (p : Place) → held_bench (record { machine = state w h; place = p }) ≡ s
    → P (record { machine = state w h; place = p })

-- ---- The parts of a step, as they are held

abbrev pub Passed : Sent → List ℕ → List ℕ → steps.ByteAnswer → Type 0
Passed r exit entry a =
    (r ≡ record { controller = held a.machine; length = length (shown a.reply); number = a.number })
    × (exit ≡ over (shown a.reply) entry)

abbrev pub stood_at : Sent → declared.Place → Taken
stood_at s p = record {
  session = record { controller = s.controller; kept = keeping []; place = p };
  length = s.length;
  number = s.number;
}

abbrev pub at_start : Controller → ℕ → Taken
at_start c n = stood_at (record { controller = c; length = n; number = 0 }) Start

abbrev pub untaken_of : Session → Taken
untaken_of s = record { session = s; length = 0; number = 2 }

abbrev pub kept_of : Controller → List ℕ → Taken
kept_of c l = record {
  session = record { controller = c; kept = keeping l; place = Asking };
  length = 0;
  number = 0;
}
