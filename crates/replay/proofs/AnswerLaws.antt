-- What one call answers, mixed in: the held machine's answer, after the calls so far. Assumes nothing.
use Prim.Native.Nat.{ℕ, zero, suc, ◌≤◌}
use native.Mathlib.Omega.{arith}
use mathlib.Core.Bool.{Bool, true, false, cond}
use mathlib.Core.List.{List, ◌∷◌}
use mathlib.Core.Path.{◌≡◌, refl, sym, ap, subst, ◌∙◌}
use lib.ListN.{length, take, replicate, length-replicate}
use Rattle.laws.specs.Axes.{each}
use Rattle.block.specs.Block.{front_of}
use Rattle.block.proofs.Buffers.{front_over}
use Rattle.reply.specs.declared.readings.Travel.{Travel}
use Rattle.reply.specs.declared.readings.Position.{Position}
use Rattle.machine.specs.State.{Machine}
use Rattle.machine.specs.Entries.{EntryAnswer, no_entry, entry}
use Rattle.machine.specs.Stops.{status}
use Rattle.machine.specs.Steps.{byte_step, tick_step, buffer_after, buffer_after_tick}
use Rattle.machine.specs.Calls.{Call, run, state}
use Rattle.controller.specs.declared.state.Controller.{Controller}
use Rattle.controller.specs.declared.state.PowerOn.{PowerOn}
use Rattle.controller.specs.declared.state.ByteAnswer.{ByteAnswer}
use Rattle.controller.specs.declared.state.TickAnswer.{TickAnswer}
use Rattle.controller.proofs.FrontLaws.{reply_room, block_in}
use Rattle.controller.specs.Held.{held, held_power, held_byte, is_end, held_entry, held_tick, held_travel, held_position}
use Rattle.replay.specs.declared.play.Played.{Played}
use Rattle.replay.specs.Digest.{mixed, tick_code, at_axis, mixed_bytes, mixed_entry, mixed_axes, travel_at, place_at}
use Rattle.replay.specs.Replay.{seen, begun, entry_told, ticked, sent, read, held_seen}

pub begun_is : (s : ℕ) (on : PowerOn) (n r : ℕ) → on ≡ held_power s → n ≡ on.number → r ≡ mixed 0 n 0 0
    → ◌≡◌ {A = Played} (record { controller = on.controller; digest = r }) (held_seen s (begun s))
unfolding run
begun_is s on n r e p q = λ i. record {
  controller = (e i).controller;
  digest = (q ∙ ap (λ (x : ℕ). mixed 0 x 0 0) (p ∙ ap (λ (x : PowerOn). x.number) e)) i;
}

-- A flag and an entry tell what they hold.
entry_told_lem : (x : EntryAnswer) (g : ℕ) → cond (is_end x) (mixed_entry g (held_entry x)) g ≡ entry_told x g
entry_told_lem no_entry g = refl
entry_told_lem (entry e) g = refl

pub tick_is : (s : ℕ) (h : List Call) (w g : ℕ) (d x : List ℕ) (a : TickAnswer) (b n o r : ℕ)
    → a ≡ held_tick (tick_step (state s h) w d) → x ≡ buffer_after_tick (tick_step (state s h) w d) d
    → b ≡ mixed_bytes g (front_of x a.length) → o ≡ cond a.ended (mixed_entry b a.entry) b
    → n ≡ tick_code (at_axis a.pulses) a.number → r ≡ mixed o a.first a.second n
    → ◌≡◌ {A = Played} (record { controller = a.controller; digest = r }) (held_seen s (ticked s w d (seen h g)))
unfolding tick_code run
tick_is s h w g d x a b n o r e l f t p q = λ i. record {
  controller = (e i).controller;
  digest = (q ∙ (λ j. mixed (entered j) (e j).first (e j).second (code j))) i;
}
  where
    block : List ℕ
    block = (tick_step (state s h) w d).reply

    shown : b ≡ mixed_bytes g block
    shown =
        f ∙ ap (mixed_bytes g) (block_in x a.length _ refl (state s h) w d l (ap (λ (y : TickAnswer). y.length) e))

    entered : o ≡ entry_told (tick_step (state s h) w d).entry (mixed_bytes g block)
    entered =
        t
        ∙ ((λ j. cond (e j).ended (mixed_entry (shown j) (e j).entry) (shown j))
        ∙ entry_told_lem (tick_step (state s h) w d).entry (mixed_bytes g block))

    code : n ≡ tick_code (tick_step (state s h) w d).pulse (tick_step (state s h) w d).number
    code = p ∙ ap (λ (x : TickAnswer). tick_code (at_axis x.pulses) x.number) e

-- The reply has room in the buffer.
pub answer_room : (m : Machine) (b : ℕ) (d : List ℕ) (a : ByteAnswer) → a ≡ held_byte (byte_step m b d)
    → a.length ≤ length d
answer_room m b d a e = subst (λ (y : ByteAnswer). y.length ≤ length d) (sym e) (reply_room m b d)

module _ (s : ℕ) (h : List Call) (b : ℕ) (d : List ℕ) (g : ℕ) (a : ByteAnswer) (x : List ℕ) (n r : ℕ)
    (e : a ≡ held_byte (byte_step (state s h) b d)) (l : x ≡ buffer_after (byte_step (state s h) b d) d)
    (p : n ≡ mixed g a.length a.number 0) where
  answered : n ≡ mixed g (length (byte_step (state s h) b d).reply) (byte_step (state s h) b d).number 0
  answered = p ∙ ap (λ (y : ByteAnswer). mixed g y.length y.number 0) e

  -- The whole buffer counts, or its front part, which is the reply.
  pub byte_part : (whole : Bool) (y : List ℕ) → y ≡ cond whole x (front_of x a.length)
      → r ≡ mixed_bytes n y
      → ◌≡◌ {A = Played} (record { controller = a.controller; digest = r }) (held_seen s (sent s b whole d (seen h g)))
  unfolding run
  byte_part true y f q = λ i. record {
    controller = (e i).controller;
    digest = (q ∙ (λ j. mixed_bytes (answered j) ((f ∙ l) j))) i;
  }
  byte_part false y f q = λ i. record {
    controller = (e i).controller;
    digest = (q ∙ (λ j. mixed_bytes (answered j) ((f ∙ front) j))) i;
  }
    where
      front : front_of x a.length ≡ (byte_step (state s h) b d).reply
      front =
          (λ i. front_of (l i) (e i).length)
          ∙ front_over (byte_step (state s h) b d).reply d (reply_room (state s h) b d)

pub read_is : (s : ℕ) (h : List Call) (c : Controller) (g : ℕ) (ts : List Travel) (ps : List Position)
    (n u v a r : ℕ) → held (state s h) ≡ c → ts ≡ each (held_travel (state s h)) → ps ≡ each (held_position (state s h))
    → u ≡ status (state s h) → v ≡ (state s h).settings.speed → a ≡ (state s h).settings.slope
    → n ≡ mixed_axes (travel_at ts) (place_at ps) g 5 → r ≡ mixed n u v a
    → ◌≡◌ {A = Played} (record { controller = c; digest = r }) (held_seen s (read s (seen h g)))
unfolding mixed_axes
read_is s h c g ts ps n u v a r e t p eu ev ea en er = λ i. record {
  controller = sym e i;
  digest = (er ∙ (λ j. mixed ((en ∙ λ k. mixed_axes (travel_at (t k)) (place_at (p k)) g 5) j) (eu j) (ev j) (ea j))) i;
}

-- ---- the lent zeros

pub take_zeros : (n m : ℕ) → n ≤ m → take {A = ℕ} n (replicate m 0) ≡ replicate n 0
take_zeros zero m h = refl
take_zeros (suc n) zero h = absurd (omega arith)
take_zeros (suc n) (suc m) h = ap (λ (l : List ℕ). 0 ∷ l) (take_zeros n m (omega arith))

pub zeros_length : (n : ℕ) → n ≤ 255 → length (take {A = ℕ} n (replicate 255 0)) ≡ n
zeros_length n h = ap length (take_zeros n 255 h) ∙ length-replicate n 0
