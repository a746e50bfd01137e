-- Paper 02, 6/14, of every list of calls: which lists leave a move to carry on, which number a line Q C meets after a
-- list, and what an accepted one does, read off the list as in List.antt.
use Rattle.line.specs.Line.{accepting}
use Rattle.std.specs.Prelude.{ℕ, ◌-◌, Bool, true, false, cond, not, ◌&&◌, List, [], ◌∷◌, ◌≡◌, ltb, eqb, ℤ, ◌+ℤ◌, Option}
use Rattle.laws.specs.Axes.{some, directed}
use Rattle.laws.specs.Bits.{bit}
use Rattle.line.specs.declared.command.Command.TheVariants as C
use Rattle.receiver.specs.Receiver.{receive, line_heard}
use Rattle.reply.specs.Reply.{letter_u, letter_s, block_for}
use Rattle.machine.specs.State.{Plan, none, Machine, mark, with_move, with_flags, with_pause, with_watch}
use Rattle.machine.specs.Stops.{blocked, sensor_active, status}
use Rattle.machine.specs.Starts.{turned_by, outside}
use Rattle.machine.specs.Steps.{is_short, heard_by, byte_step}
use Rattle.machine.specs.Calls.{Call, byte, state}
use Rattle.machine.specs.Roles.{line_of, sets_distance, moves}
use Rattle.machine.specs.List.{
  start_or_carry,
  distance,
  minus,
  master,
  counted,
  signed,
  paused,
  stop_begun,
  goes_on,
  ends,
  travel,
  position,
  whole,
}
use Rattle.machine.specs.Journal.{ticks_since}
use Rattle.machine.specs.Settle.{switch_of}

-- Whether a stop ended the latest move short of M, and since then no distance line was accepted and no start took
-- effect; a move that is carried on has not ended. m is the number of the master's answers that are not 0.
unfoldable pub stopped_short : ℕ → List Call → Bool
stopped_short s [] = false
stopped_short s (x ∷ h) =
    cond (ends s (x ∷ h)) (stop_begun s (x ∷ h) && ltb (counted s (x ∷ h) (master s (x ∷ h))) (whole s (x ∷ h)))
    (not (sets_distance (line_of (state s h) x)) && (not (start_or_carry s h x) && stopped_short s h))

-- What is open of the latest move: its distances less the pulses that were sent in it.
abbrev pub open_after : ℕ → List Call → Plan
open_after s h = record { distance = λ k. distance s h k - counted s h k; minus = minus s h }

-- The final position of an axis after that: the signed pulses, and what is open.
abbrev pub final_after : ℕ → List Call → ℕ → ℤ
final_after s h k = signed s h k +ℤ directed ((open_after s h).minus k) ((open_after s h).distance k)

-- The number that a line Q C meets, by whether a move runs, whether one can be carried on, the machine, what is open
-- and the final positions: 11 a move runs, 26 nothing to carry on, 12 emergency held, 13 sensor active, 16 an axis
-- blocked, 17 a final position out of range, the last two over the open distances.
abbrev pub carry_number_by : Bool → Bool → Machine → Plan → (ℕ → ℤ) → ℕ
carry_number_by running short m left final =
    turned_by 11 running
    (turned_by 26 (not short)
    (turned_by 12 (bit (status m) 5)
    (turned_by 13 (sensor_active m)
    (turned_by 16 (blocked m left)
    (turned_by 17 (some (λ k. outside (final k)))
    0)))))

-- After the list.
abbrev pub carry_number_after : ℕ → List Call → ℕ
carry_number_after s h = carry_number_by (goes_on s h) (stopped_short s h) (state s h) (open_after s h) (final_after s h)

-- The byte b ends a line Q C, of one to six digits, silent or not, with or without an identification; it is lent 120
-- bytes or more.
pub record CarryLine (m : Machine) (b : ℕ) (buffer : List ℕ) : Type 0 where
  pub silent : Bool
  pub ident : Option ℕ
  pub digits : ℕ
  pub lent : is_short buffer ≡ false
  pub heard : (receive m.line b).heard ≡ line_heard silent ident (accepting (C.Order 12) digits)

-- What an accepted line Q C does after the list; the byte b ends it, the call x.
pub record Onward (s : ℕ) (h : List Call) (b : ℕ) (x : Call) : Type 0 where
  -- the latest move runs, with status bit 1, and no stop has begun in it
  pub runs : goes_on s (x ∷ h) ≡ true
  pub moving : moves (state s (x ∷ h)) ≡ true
  pub unstopped : stop_begun s (x ∷ h) ≡ false
  -- it is the move that was the latest, and its travels go on; so do the positions
  pub master : master s (x ∷ h) ≡ master s h
  pub distances : (k : ℕ) → distance s (x ∷ h) k ≡ distance s h k
  pub minuses : (k : ℕ) → minus s (x ∷ h) k ≡ minus s h k
  pub travels : (k : ℕ) → travel s (x ∷ h) k ≡ travel s h k
  pub positions : (k : ℕ) → position s (x ∷ h) k ≡ position s h k
  -- speed and phase begin at 0, bits 3 and 6 clear
  pub speed : (state s (x ∷ h)).move.speed ≡ 0
  pub phase : (state s (x ∷ h)).move.phase ≡ 0
  pub stopped : bit (status (state s (x ∷ h))) 3 ≡ false
  pub sensed : bit (status (state s (x ∷ h))) 6 ≡ false
  -- a running dwell ends and a stored start is dropped
  pub pause : paused s (x ∷ h) ≡ record { left = 0; waiting = none }
  -- and the journal's tick count begins again
  pub ticks : ticks_since s (x ∷ h) ≡ 0
  -- of all but the move nothing else alters: settings, the next move's distances, status bits 2 and 5, inputs, outputs
  -- and a W line's block stay; the line is over, and the watch count 0
  pub rest : state s (x ∷ h)
      ≡ with_pause (with_flags (with_move (with_watch (heard_by (state s h) b) 0) (state s (x ∷ h)).move)
      (mark (mark (state s h).flags 3 false) 6 false)) (record { left = 0; waiting = none })

-- The reply to a line Q C: S echoing its digits, or U with its number, each with the line's identification.
abbrev pub carry_reply : ℕ → ℕ → ℕ → Option ℕ → List ℕ
carry_reply switch n digits ident =
    cond (eqb n 0) (block_for switch letter_s digits ident) (block_for switch letter_u n ident)

pub record CarriesAfter (s : ℕ) (h : List Call) (b : ℕ) (buffer : List ℕ) (l : CarryLine (state s h) b buffer) :
    Type 0 where
  -- the line meets the list's number
  pub number : (byte_step (state s h) b buffer).number ≡ carry_number_after s h
  -- and is answered by it, unless it is silent
  pub reply : (byte_step (state s h) b buffer).reply
      ≡ cond l.silent [] (carry_reply (switch_of s) (carry_number_after s h) l.digits l.ident)
  -- and never 17: what is open of a move stays in range, resets or not
  pub in_range : some (λ k. outside (final_after s h k)) ≡ false
  -- without one the move is carried on
  pub taken : carry_number_after s h ≡ 0 → Onward s h b (byte b buffer)
  -- with one the line is dropped and zeroes the watch count, and nothing else alters
  pub refused : (carry_number_after s h ≡ 0 → ⊥)
      → state s (byte b buffer ∷ h) ≡ with_watch (heard_by (state s h) b) 0

-- For every switch, every list of calls and every byte that ends a line Q C after it.
abbrev pub CarryOn : Type 0
CarryOn =
    (s : ℕ) (h : List Call) (b : ℕ) (buffer : List ℕ) (l : CarryLine (state s h) b buffer) → CarriesAfter s h b buffer l
