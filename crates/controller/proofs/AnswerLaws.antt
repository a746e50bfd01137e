-- Demand 3 over the code's own calls (specs/Answers.antt): the controller after a list of answered calls is held of the
-- machine after those calls, so that what Demand3 says of the machine's list holds of the answers. Assumes nothing.
use Prim.Native.Nat.{ℕ, ◌+◌, ◌<◌}
use native.Mathlib.Omega.{arith}
use mathlib.Core.Bool.{false, cond}
use mathlib.Core.List.{List, [], ◌∷◌, map}
use mathlib.Core.Path.{◌≡◌, refl, sym, ap, ◌∙◌}
use lib.IntN.{pos, ◌+ℤ◌, +ℤ_idr}
use lib.Dec.{eqb}
use lib.ListN.{get_or}
use Rattle.laws.specs.Axes.{each}
use Rattle.reply.specs.declared.readings.Travel.{Travel}
use Rattle.reply.specs.Reply.{position_of}
use Rattle.receiver.specs.Receiver.{before_end}
use Rattle.machine.specs.State.{Machine}
use Rattle.machine.specs.Replies as replies
use Rattle.machine.specs.Steps.{Outcome, tick_step}
use Rattle.machine.specs.Calls as calls
use Rattle.machine.specs.Calls.{Call, state, buffer, bytes}
use Rattle.machine.specs.Roles.{begins, line_of, role_by, start_by, reset_by, sent}
use Rattle.machine.specs.List.{effect, paused, is_pulse, counted, signed, latest}
use Rattle.machine.proofs.DemandLaws.{demand_3, counts_hold}
use Rattle.controller.specs.declared.state.PowerOn.{PowerOn}
use Rattle.controller.specs.declared.state.TickAnswer.{TickAnswer}
use Rattle.controller.specs.Held.{held, held_position}
use Rattle.controller.specs.Answers.{
  Answered,
  byte,
  tick,
  stretch,
  last,
  Follows,
  calls_of,
  pulse_in,
  after_bytes,
  latest_in,
  count_in,
  sum_in,
  Demand3Answers,
}
use Rattle.controller.proofs.TickLaws.{each_at}
use Rattle.controller.proofs.ByteLaws.{unbiased}
use Rattle.controller.proofs.GatherLaws.{gathers, by_characters, after_stretch}
use Rattle.controller.proofs.ReachLaws.{after_power, after_byte, after_tick}

pub last_held : (s : ℕ) (p : PowerOn) (l : List Answered) → Follows s p l → held (state s (calls_of l)) ≡ last p l
last_held s p [] f = after_power s p f
last_held s p (byte b entry exit r ∷ l) f =
    after_byte (last p l) s (calls_of l) (last_held s p l f.0) b entry r f.1.0
last_held s p (tick w entry exit r ∷ l) f =
    after_tick (last p l) s (calls_of l) (last_held s p l f.0) w entry r f.1.0
last_held s p (stretch bs r ∷ l) f =
    after_stretch (last p l) s (calls_of l) (last_held s p l f.0) bs r f.1.0

-- The pulses that a tick answers are those of the machine.
pub pulse_held : (s : ℕ) (p : PowerOn) (w : ℕ) (entry exit : List ℕ) (r : TickAnswer) (l : List Answered)
    → Follows s p (tick w entry exit r ∷ l) → (k : ℕ) → k < 5
    → pulse_in r k ≡ sent (state s (calls_of l)) (calls.tick w entry) k
pulse_held s p w entry exit r l f k h =
    ap (λ (a : TickAnswer). get_or a.pulses k (pos 0)) (f.1.0 s (calls_of l) (last_held s p l f.0))
    ∙ each_at (tick_step (state s (calls_of l)) w entry).pulse (pos 0) k h

-- A character adds to no count and to no sum.
counted_before : (s k b : ℕ) (h : List Call) → eqb b 13 ≡ false → counted s (calls.byte b buffer ∷ h) k ≡ counted s h k
unfolding counted
counted_before s k b h e =
    ap (λ (o : Outcome). cond (begins (start_by (paused s h) (role_by o))) 0 (counted s h k) + 0)
    (gathers (state s h) b e)
    ∙ omega arith

signed_before : (s k b : ℕ) (h : List Call) → eqb b 13 ≡ false → signed s (calls.byte b buffer ∷ h) k ≡ signed s h k
unfolding signed
signed_before s k b h e =
    ap (λ (o : Outcome). cond (reset_by (role_by o)) (pos 0) (signed s h k +ℤ pos 0)) (gathers (state s h) b e)
    ∙ +ℤ_idr (signed s h k)

pub count_held : (s : ℕ) (p : PowerOn) (l : List Answered) → Follows s p l → (k : ℕ) → k < 5
    → count_in s l k ≡ counted s (calls_of l) k
unfolding count_in counted
count_held s p [] f k h = refl
count_held s p (byte b entry exit r ∷ l) f k h =
    ap (cond (begins (effect s (calls_of l) (calls.byte b entry))) 0) (count_held s p l f.0 k h) ∙ omega arith
count_held s p (tick w entry exit r ∷ l) f k h =
    λ i. cond (begins (effect s (calls_of l) (calls.tick w entry))) 0 (count_held s p l f.0 k h i)
    + is_pulse (pulse_held s p w entry exit r l f k h i)
count_held s p (stretch bs r ∷ l) f k h =
    count_held s p l f.0 k h
    ∙ sym (by_characters (λ (x : List Call). counted s x k) (counted_before s k) bs (calls_of l))

pub sum_held : (s : ℕ) (p : PowerOn) (l : List Answered) → Follows s p l → (k : ℕ) → k < 5
    → sum_in s l k ≡ signed s (calls_of l) k
unfolding sum_in signed
sum_held s p [] f k h = refl
sum_held s p (byte b entry exit r ∷ l) f k h =
    ap (cond (reset_by (line_of (state s (calls_of l)) (calls.byte b entry))) (pos 0))
    (sum_held s p l f.0 k h ∙ sym (+ℤ_idr (signed s (calls_of l) k)))
sum_held s p (tick w entry exit r ∷ l) f k h =
    λ i. sum_held s p l f.0 k h i +ℤ pulse_held s p w entry exit r l f k h i
sum_held s p (stretch bs r ∷ l) f k h =
    sum_held s p l f.0 k h
    ∙ sym (by_characters (λ (x : List Call). signed s x k) (signed_before s k) bs (calls_of l))

-- A list that ends with bytes answers no pulse.
latest_bytes : (s k : ℕ) (bs : List ℕ) (h : List Call) → latest s h k ≡ pos 0 → latest s (bytes bs h) k ≡ pos 0
unfolding latest
latest_bytes s k [] h e = e
latest_bytes s k (b ∷ bs) h e = latest_bytes s k bs (calls.byte b buffer ∷ h) refl

latest_after : (s k : ℕ) (bs : List ℕ) (h : List Call)
    → after_bytes (pos 0) bs (latest s h k) ≡ latest s (bytes bs h) k
unfolding latest
latest_after s k [] h = refl
latest_after s k (b ∷ bs) h = sym (latest_bytes s k bs (calls.byte b buffer ∷ h) refl)

latest_held : (s : ℕ) (p : PowerOn) (l : List Answered) → Follows s p l → (k : ℕ) → k < 5
    → latest_in l k ≡ latest s (calls_of l) k
unfolding latest_in latest
latest_held s p [] f k h = refl
latest_held s p (byte b entry exit r ∷ l) f k h = refl
latest_held s p (tick w entry exit r ∷ l) f k h = pulse_held s p w entry exit r l f k h
latest_held s p (stretch bs r ∷ l) f k h =
    ap (after_bytes (pos 0) (before_end bs)) (latest_held s p l f.0 k h) ∙ latest_after s k (before_end bs) (calls_of l)

pub each_same : {A : Type 0} (f g : ℕ → A) → ((k : ℕ) → k < 5 → f k ≡ g k) → each f ≡ each g
each_same f g p =
    λ i. p 0 (omega arith) i ∷ p 1 (omega arith) i ∷ p 2 (omega arith) i ∷ p 3 (omega arith) i ∷ p 4 (omega arith) i
    ∷ []

-- The held positions, read as signed numbers, are the machine's.
pub positions_signed : (s : ℕ) (h : List Call)
    → map position_of (each (held_position (state s h))) ≡ each (state s h).position
positions_signed s h =
    each_same (λ k. position_of (held_position (state s h) k)) (state s h).position
    (λ k l. unbiased ((state s h).position k) (demand_3 s h k l).within)

pub demand_3_answers : Demand3Answers
demand_3_answers s p l f = record {
  reached = record { switch = s; history = calls_of l; made = e };
  holds = λ k h. demand_3 s (calls_of l) k h;
  figures = λ ts q. ap (map (λ (t : Travel). t.0)) (q s (calls_of l) e);
  places = λ ps q. ap (map position_of) (q s (calls_of l) e) ∙ positions_signed s (calls_of l);
  answers = each_same (latest_in l) (latest s (calls_of l)) (latest_held s p l f);
  travels = λ ts q. ap (map (λ (t : Travel). t.0)) (q s (calls_of l) e)
      ∙ each_same (replies.travel_of m) (count_in s l)
      (λ k h. counts_hold s (calls_of l) k h ∙ sym (count_held s p l f k h));
  positions = λ ps q. ap (map position_of) (q s (calls_of l) e)
      ∙ (positions_signed s (calls_of l)
      ∙ each_same m.position (sum_in s l)
      (λ k h. (demand_3 s (calls_of l) k h).sums ∙ sym (sum_held s p l f k h)));
}
  where
    m : Machine
    m = state s (calls_of l)

    e : held (state s (calls_of l)) ≡ last p l
    e = last_held s p l f
