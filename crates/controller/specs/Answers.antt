-- Demand 3 over the code's own calls: a power-on answer and any list of calls of `byte`, `tick` and `gather` with what
-- they were lent and what they answered, each given the controller that the one before it left, each answer as its
-- contract promises. The sums run over the `pulses` of the answers. The list is the latest call first, as in
-- Demand.antt.
use Rattle.std.specs.Prelude.{ℕ, ◌+◌, ◌<◌, cond, List, [], ◌∷◌, map, ◌≡◌, ℤ, pos, ◌+ℤ◌, length, get_or}
use Rattle.laws.specs.Axes.{each}
use Rattle.reply.specs.declared.readings.Travel.{Travel}
use Rattle.reply.specs.declared.readings.Position.{Position}
use Rattle.reply.specs.Reply.{position_of}
use Rattle.receiver.specs.Receiver.{before_end}
use Rattle.machine.specs.State.{Machine}
use Rattle.machine.specs.Steps.{byte_step, tick_step, buffer_after, buffer_after_tick}
use Rattle.machine.specs.Calls as calls
use Rattle.machine.specs.Calls.{Call, state, buffer, bytes}
use Rattle.machine.specs.Roles.{begins, line_of, reset_by}
use Rattle.machine.specs.List.{effect, is_pulse, travel, position, latest}
use Rattle.machine.specs.Demand.{Holds}
use Rattle.controller.specs.declared.state.Controller.{Controller}
use Rattle.controller.specs.declared.state.PowerOn.{PowerOn}
use Rattle.controller.specs.declared.state.ByteAnswer.{ByteAnswer}
use Rattle.controller.specs.declared.state.Gathered.{Gathered}
use Rattle.controller.specs.declared.state.TickAnswer.{TickAnswer}
use Rattle.controller.specs.Held.{held_power, held_travel, held_position, held_byte, held_gathered, held_tick}
use Rattle.controller.specs.Reach.{Reachable, Made}

-- ---- The reply of one call

-- The part is the reply of any byte that left the buffer so and answered the length n.
abbrev pub ReplyIn : List ℕ → ℕ → List ℕ → Type 0
ReplyIn buffer n part =
    (m : Machine) (b : ℕ) (entry : List ℕ) → buffer ≡ buffer_after (byte_step m b entry) entry
    → n ≡ length (byte_step m b entry).reply → part ≡ (byte_step m b entry).reply

-- The part is the block of any tick that left the buffer so and answered the length n.
abbrev pub BlockIn : List ℕ → ℕ → List ℕ → Type 0
BlockIn buffer n part =
    (m : Machine) (w : ℕ) (entry : List ℕ) → buffer ≡ buffer_after_tick (tick_step m w entry) entry
    → n ≡ length (tick_step m w entry).reply → part ≡ (tick_step m w entry).reply

-- Bytes that come one after another, each with a buffer of 120 bytes, have neither a reply nor a number.
abbrev pub Quiet : Machine → List ℕ → Type 0
Quiet m [] = Unit {0}
Quiet m (b ∷ bs) =
    ((byte_step m b buffer).reply ≡ []) × (((byte_step m b buffer).number ≡ 0) × Quiet (byte_step m b buffer).machine bs)

-- ---- Calls with their answers

-- A received byte, the lent buffer before and after the call, and the answer; a tick's input word, the same of its lent
-- buffer, and its answer; or a stretch of bytes, of which those before the first 0D are taken, and its answer.
pub data Answered : Type 0 where
  byte : ℕ → List ℕ → List ℕ → ByteAnswer → Answered
  tick : ℕ → List ℕ → List ℕ → TickAnswer → Answered
  stretch : List ℕ → Gathered → Answered

-- The controller that a call left.
abbrev pub left_by : Answered → Controller
left_by (byte b entry exit r) = r.controller
left_by (tick w entry exit r) = r.controller
left_by (stretch bs r) = r.controller

-- The controller after a list of calls: the first call gets what power-on gave.
abbrev pub last : PowerOn → List Answered → Controller
last p [] = p.controller
last p (x ∷ l) = left_by x

-- The contracts of `byte`, `tick` and `gather`: what they promise of a call on the controller c.
abbrev pub Promised : Controller → Answered → Type 0
Promised c (byte b entry exit r) =
    Made c (λ m. r ≡ held_byte (byte_step m b entry))
    × (Made c (λ m. exit ≡ buffer_after (byte_step m b entry) entry) × Reachable r.controller)
Promised c (tick w entry exit r) =
    Made c (λ m. r ≡ held_tick (tick_step m w entry))
    × (Made c (λ m. exit ≡ buffer_after_tick (tick_step m w entry) entry) × Reachable r.controller)
Promised c (stretch bs r) =
    Made c (λ m. r ≡ held_gathered m bs) × (Made c (λ m. Quiet m (before_end bs)) × Reachable r.controller)

-- Power-on with the switch s answered p, and the calls of the list were made one after the other.
abbrev pub Follows : ℕ → PowerOn → List Answered → Type 0
Follows s p [] = p ≡ held_power s
Follows s p (x ∷ l) = Follows s p l × Promised (last p l) x

-- ---- What is read off such a list

-- The calls without their answers, after those of h. A stretch is a call of `byte` for each of its bytes before the
-- first 0D.
abbrev pub calls_in : Answered → List Call → List Call
calls_in (byte b entry exit r) h = calls.byte b entry ∷ h
calls_in (tick w entry exit r) h = calls.tick w entry ∷ h
calls_in (stretch bs r) h = bytes (before_end bs) h

abbrev pub calls_of : List Answered → List Call
calls_of [] = []
calls_of (x ∷ l) = calls_in x (calls_of l)

-- What a tick answered for axis k.
abbrev pub pulse_in : TickAnswer → ℕ → ℤ
pulse_in r k = get_or r.pulses k (pos 0)

-- The latest answer after some bytes: a byte answers none, and without a byte it is the one before them.
abbrev pub after_bytes : {A : Type 0} → A → List ℕ → A → A
after_bytes none [] before = before
after_bytes none (b ∷ bs) before = none

-- What the latest call answered for axis k. A stretch of which no byte is taken is no call.
unfoldable pub latest_in : List Answered → ℕ → ℤ
latest_in [] k = pos 0
latest_in (byte b entry exit r ∷ l) k = pos 0
latest_in (tick w entry exit r ∷ l) k = pulse_in r k
latest_in (stretch bs r ∷ l) k = after_bytes (pos 0) (before_end bs) (latest_in l k)

-- The answered pulses of all ticks since the latest move's start took effect, for a stored start that very tick
-- included. No line ends in a stretch, so that no start takes effect there.
unfoldable pub count_in : ℕ → List Answered → ℕ → ℕ
count_in s [] k = 0
count_in s (byte b entry exit r ∷ l) k =
    cond (begins (effect s (calls_of l) (calls.byte b entry))) 0 (count_in s l k)
count_in s (tick w entry exit r ∷ l) k =
    cond (begins (effect s (calls_of l) (calls.tick w entry))) 0 (count_in s l k) + is_pulse (pulse_in r k)
count_in s (stretch bs r ∷ l) k = count_in s l k

-- The sum of the answered pulses since power-on or the last accepted position reset.
unfoldable pub sum_in : ℕ → List Answered → ℕ → ℤ
sum_in s [] k = pos 0
sum_in s (byte b entry exit r ∷ l) k =
    cond (reset_by (line_of (state s (calls_of l)) (calls.byte b entry))) (pos 0) (sum_in s l k)
sum_in s (tick w entry exit r ∷ l) k = sum_in s l k +ℤ pulse_in r k
sum_in s (stretch bs r ∷ l) k = sum_in s l k

-- ---- The claim

-- The contracts of `travels` and `positions`: what they promise of the controller c.
abbrev pub TravelsOf : Controller → List Travel → Type 0
TravelsOf c ts = Made c (λ m. ts ≡ each (held_travel m))

abbrev pub PositionsOf : Controller → List Position → Type 0
PositionsOf c ps = Made c (λ m. ps ≡ each (held_position m))

pub record HoldsOf (s : ℕ) (p : PowerOn) (l : List Answered) : Type 0 where
  -- the last controller is one that an entry takes, so that the list can go on
  pub reached : Reachable (last p l)
  -- demand 3 is true of the list
  pub holds : (k : ℕ) → k < 5 → Holds s (calls_of l) k
  -- its travels and positions are what `travels` and `positions` answer of the last controller, its latest answer is
  -- that of the latest call: the `pulses` of a tick, none of bytes
  pub figures : (ts : List Travel) → TravelsOf (last p l) ts
      → map (λ (t : Travel). t.0) ts ≡ each (travel s (calls_of l))
  pub places : (ps : List Position) → PositionsOf (last p l) ps → map position_of ps ≡ each (position s (calls_of l))
  pub answers : each (latest_in l) ≡ each (latest s (calls_of l))
  -- what `travels` answers of the last controller: the pulses that the ticks answered in the latest move
  pub travels : (ts : List Travel) → TravelsOf (last p l) ts
      → map (λ (t : Travel). t.0) ts ≡ each (count_in s l)
  -- what `positions` answers of it: the sums of the answers since power-on or the last accepted reset
  pub positions : (ps : List Position) → PositionsOf (last p l) ps → map position_of ps ≡ each (sum_in s l)

-- For every switch, every power-on answer and every list of answered calls after it.
abbrev pub Demand3Answers : Type 0
Demand3Answers = (s : ℕ) (p : PowerOn) (l : List Answered) → Follows s p l → HoldsOf s p l
