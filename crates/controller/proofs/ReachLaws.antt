-- Every controller that calls make is reachable, and stays held of the machine after those calls: for callers, in
-- loops too. Assumes nothing.
use Prim.Native.Nat.{ℕ}
use mathlib.Core.List.{List, [], ◌∷◌}
use mathlib.Core.Path.{◌≡◌, sym, ap}
use Rattle.machine.specs.Calls.{Call, byte, tick, run, state}
use Rattle.machine.specs.Steps.{byte_step, tick_step, buffer_after, buffer_after_tick}
use Rattle.controller.specs.declared.state.Controller.{Controller}
use Rattle.controller.specs.declared.state.PowerOn.{PowerOn}
use Rattle.controller.specs.declared.state.ByteAnswer.{ByteAnswer}
use Rattle.controller.specs.declared.state.TickAnswer.{TickAnswer}
use Rattle.controller.specs.Held.{held, held_power, held_byte, held_tick}
use Rattle.controller.specs.Reach.{Reachable, Made}

-- ---- The machine after one call more

pub after_power : (s : ℕ) (r : PowerOn) → r ≡ held_power s → held (state s []) ≡ r.controller
unfolding run
after_power s r e = sym (ap (λ (x : PowerOn). x.controller) e)

module _ (c : Controller) (s : ℕ) (h : List Call) (e : held (state s h) ≡ c) where
  pub after_tick : (w : ℕ) (d : List ℕ) (r : TickAnswer) → Made c (λ m. r ≡ held_tick (tick_step m w d))
      → held (state s (tick w d ∷ h)) ≡ r.controller
  unfolding run
  after_tick w d r p = sym (ap (λ (x : TickAnswer). x.controller) (p s h e))

  pub after_byte : (b : ℕ) (d : List ℕ) (r : ByteAnswer) → Made c (λ m. r ≡ held_byte (byte_step m b d))
      → held (state s (byte b d ∷ h)) ≡ r.controller
  unfolding run
  after_byte b d r p = sym (ap (λ (x : ByteAnswer). x.controller) (p s h e))

-- ---- Reachable controllers

pub reach_power : (s : ℕ) (r : PowerOn) → r ≡ held_power s → Reachable r.controller
reach_power s r e = record { switch = s; history = []; made = after_power s r e }

pub reach_tick : (c : Controller) → Reachable c → (w : ℕ) (d : List ℕ) (r : TickAnswer)
    → Made c (λ m. r ≡ held_tick (tick_step m w d)) → Reachable r.controller
reach_tick c q w d r p = record {
  switch = q.switch;
  history = tick w d ∷ q.history;
  made = after_tick c q.switch q.history q.made w d r p;
}

pub reach_byte : (c : Controller) → Reachable c → (b : ℕ) (d : List ℕ) (r : ByteAnswer)
    → Made c (λ m. r ≡ held_byte (byte_step m b d)) → Reachable r.controller
reach_byte c q b d r p = record {
  switch = q.switch;
  history = byte b d ∷ q.history;
  made = after_byte c q.switch q.history q.made b d r p;
}

-- ---- What `tick` and `byte` promise together

pub tick_answers : (c : Controller) → Reachable c → (w : ℕ) (d x : List ℕ) (r : TickAnswer)
    → Made c (λ m. (r ≡ held_tick (tick_step m w d)) × (x ≡ buffer_after_tick (tick_step m w d) d))
    → Made c (λ m. r ≡ held_tick (tick_step m w d))
    × (Made c (λ m. x ≡ buffer_after_tick (tick_step m w d) d) × Reachable r.controller)
tick_answers c q w d x r p =
    (λ s h e. (p s h e).0, (λ s h e. (p s h e).1, reach_tick c q w d r (λ s h e. (p s h e).0)))

pub byte_answers : (c : Controller) → Reachable c → (b : ℕ) (d x : List ℕ) (r : ByteAnswer)
    → Made c (λ m. (r ≡ held_byte (byte_step m b d)) × (x ≡ buffer_after (byte_step m b d) d))
    → Made c (λ m. r ≡ held_byte (byte_step m b d))
    × (Made c (λ m. x ≡ buffer_after (byte_step m b d) d) × Reachable r.controller)
byte_answers c q b d x r p =
    (λ s h e. (p s h e).0, (λ s h e. (p s h e).1, reach_byte c q b d r (λ s h e. (p s h e).0)))
