-- A tick, joined from what its parts answer: the held machine's step. Assumes nothing.
use Rattle.std.proofs.Common.{Option, None, Some}
use Rattle.std.specs.Prelude.{is_some, unwrap_or}
use Prim.Native.Nat.{ℕ, ◌≤◌}
use mathlib.Core.Bool.{Bool, true, false, cond}
use mathlib.Core.List.{List, []}
use mathlib.Core.Path.{◌≡◌, refl, sym, ap, subst, ◌∙◌}
use native.Mathlib.Omega.{arith}
use borrow.Author.Tests.{ltb-false}
use lib.Dec.{ltb, eqb}
use lib.ListN.{length}
use Rattle.block.specs.Block.{over}
use Rattle.block.proofs.Buffers.{over_nil}
use Rattle.reply.specs.Reply.{inputs_of}
use Rattle.machine.specs.State.{Machine}
use Rattle.machine.specs.Steps.{
  is_short,
  too_large,
  tick_by,
  tick_step,
  buffer_after_tick,
  block_in,
  tries,
  looks,
  failure,
}
use Rattle.machine.specs.Stops.{takes, stops}
use Rattle.machine.specs.Ramp.{runs}
use Rattle.journal.specs.declared.Entry.{Entry}
use Rattle.machine.proofs.FitLaws.{Fits, fits_looks, fits_stops, fits_runs}
use Rattle.controller.specs.declared.state.Controller.{Controller}
use Rattle.controller.specs.declared.state.TickAnswer.{TickAnswer}
use Rattle.controller.specs.declared.state.Hot.{Hot}
use Rattle.controller.specs.declared.motion.Ran.{Ran}
use Rattle.controller.specs.declared.dwell.Waited.{Waited}
use Rattle.controller.specs.Held.{held, held_hot, held_cold, held_plan, held_tick}
use Rattle.controller.specs.Settle.{refused_with}
use Rattle.controller.specs.Inner.Motion.{runs_of, held_ran, RunFits}
use Rattle.controller.specs.Inner.Entry.{told_of, TravelsFit}
use Rattle.controller.specs.Inner.Turned.{tick_number_of}
use Rattle.controller.specs.Inner.Settle.{ident_of, tell_reply}
use Rattle.controller.specs.Inner.Words.{rest_of, WiresFit}
use Rattle.controller.specs.Inner.Watch.{takes_of, stops_of}
use Rattle.controller.specs.Inner.Dwell.{waits_of, WaitFits}
use Rattle.controller.proofs.TickLaws.{takes_is, wires_fit}
use Rattle.controller.proofs.ToldLaws.{told_held, travels_fit}
use Rattle.controller.proofs.StageLaws.{looks_is, stopped_is, ran_is, looks_fit, ran_fits, ticked_is}

-- A tick that no number turns away.
by_turned : (P : Bool → Bool → Type 0) (a b : Bool) → ◌≡◌ {A = ℕ} (cond a 2 (cond b 3 0)) 0 → P false false → P a b
by_turned P true b e p = absurd (omega (arith, e))
by_turned P false true e p = absurd (omega (arith, e))
by_turned P false false e p = p

-- An identification is the one that it is held as.
ident_back : (x : Option ℕ) → ident_of (is_some x) (unwrap_or x 0) ≡ x
ident_back None = refl
ident_back (Some c) = refl

-- Its buffer has room.
pub tick_roomy : (n w : ℕ) → tick_number_of n w ≡ 0 → 120 ≤ n
tick_roomy n w e = when (ltb n 120) refl
  where
    when : (t : Bool) → ltb n 120 ≡ t → 120 ≤ n
    when true q = absurd (omega (arith, rw q at e))
    when false q = ltb-false n 120 q

module _ (m : Machine) (w : ℕ) (d : List ℕ) (f : Fits m) (self : Controller) (e : held m ≡ self) where
  pub took : (taken : Hot) → taken ≡ takes_of self.cold.settings self.hot w → taken ≡ held_hot (takes m w)
  took taken q = q ∙ ((λ i. takes_of (sym e i).cold.settings (sym e i).hot w) ∙ takes_is m w)

  pub take_fits : (taken : Hot) → taken ≡ held_hot (takes m w) → WaitFits self.cold.next taken
  take_fits taken q =
      subst (λ (c : Controller). WaitFits c.cold.next taken) e
      (subst (WaitFits (held_plan m.next)) (sym q) (looks_fit m w f))

  pub waited_is : (taken : Hot) (waited : Waited) → taken ≡ held_hot (takes m w)
      → waited ≡ waits_of self.cold.settings self.cold.next self.cold.switch taken
      → waited ≡ record { hot = held_hot (looks m w); number = failure (tries (takes m w)) }
  waited_is taken waited p q =
      q ∙ ((λ i. waits_of (sym e i).cold.settings (sym e i).cold.next (sym e i).cold.switch (p i)) ∙ looks_is m w
      f)

  pub stop_is : (waited : Waited) (stopped : Hot)
      → waited ≡ record { hot = held_hot (looks m w); number = failure (tries (takes m w)) }
      → stopped ≡ stops_of self.cold.settings waited.hot → stopped ≡ held_hot (stops (looks m w))
  stop_is waited stopped p q =
      q ∙ ((λ i. stops_of (sym e i).cold.settings (p i).hot) ∙ stopped_is m w f)

  pub stop_fits : (stopped : Hot) → stopped ≡ held_hot (stops (looks m w)) → RunFits self.cold.settings stopped
  stop_fits stopped q =
      subst (λ (c : Controller). RunFits c.cold.settings stopped) e
      (subst (RunFits (held_cold m).settings) (sym q) (ran_fits m w f))

  pub run_was : (stopped : Hot) (ran : Ran) → stopped ≡ held_hot (stops (looks m w))
      → ran ≡ runs_of self.cold.settings stopped → ran ≡ held_ran (runs (stops (looks m w)))
  run_was stopped ran p q =
      q ∙ ((λ i. runs_of (sym e i).cold.settings (p i)) ∙ ran_is m w f)

  pub run_wires : (ran : Ran) → ran ≡ held_ran (runs (stops (looks m w))) → WiresFit ran.hot.wires
  run_wires ran q = subst (λ (r : Ran). WiresFit r.hot.wires) (sym q)
      (wires_fit (runs (stops (looks m w))).machine)

  pub run_travels : (ran : Ran) → ran ≡ held_ran (runs (stops (looks m w))) → TravelsFit ran.hot.counters
  run_travels ran q = subst (λ (r : Ran). TravelsFit r.hot.counters) (sym q)
      (travels_fit (runs (stops (looks m w))).machine
      (fits_runs (stops (looks m w)) (fits_stops (looks m w) (fits_looks m w f))))

  -- What a tick answers and leaves in the buffer, by whether its buffer is short and its word too large.
  abbrev Gives : TickAnswer → List ℕ → Bool → Bool → Type 0
  Gives r x short large = (r ≡ held_tick (tick_by m w short large)) × (x ≡ over (tick_by m w short large).reply d)

  abbrev Answers : TickAnswer → List ℕ → Type 0
  Answers r x = (r ≡ held_tick (tick_step m w d)) × (x ≡ buffer_after_tick (tick_step m w d) d)

  -- What the block is made from.
  block_is : tell_reply self.hot.pause.block self.cold.switch w self.cold.named self.cold.ident
      ≡ block_in m w
  block_is =
      (λ i. tell_reply (sym e i).hot.pause.block (sym e i).cold.switch w (sym e i).cold.named
      (sym e i).cold.ident)
      ∙ ap (λ (x : Option ℕ). cond (eqb m.settle.left 1) (inputs_of m.switch w x) []) (ident_back m.settle.ident)

  -- The answer, by what the parts of the tick answer.
  abbrev tick_of : Waited → Ran → ℕ → Entry → ℕ → TickAnswer
  tick_of waited ran second told n = record {
    controller = record { hot = ran.hot; cold = self.cold };
    first = ran.first;
    second = second;
    pulses = ran.pulses;
    number = waited.number;
    ended = ran.ends;
    length = n;
    entry = told;
  }

  pub tick_is : (waited : Waited) (ran : Ran) (second : ℕ) (told : Entry) (n : ℕ) (x : List ℕ)
      → tick_number_of (length d) w ≡ 0
      → waited ≡ record { hot = held_hot (looks m w); number = failure (tries (takes m w)) }
      → ran ≡ held_ran (runs (stops (looks m w))) → second ≡ rest_of ran.hot.wires
      → told ≡ told_of ran.ends ran.hot.plan ran.hot.counters ran.hot.run
      → n ≡ length (tell_reply self.hot.pause.block self.cold.switch w self.cold.named self.cold.ident)
      → x ≡ over (tell_reply self.hot.pause.block self.cold.switch w self.cold.named self.cold.ident) d
      → Answers (tick_of waited ran second told n) x
  tick_is waited ran second told n x z p q r t u v =
      by_turned (λ (a b : Bool). Gives (tick_of waited ran second told n) x a b) (is_short d) (too_large w) z (
        ◌∙◌ {b = record {
          controller = record { hot = (held_ran (runs (stops (looks m w)))).hot; cold = held_cold m };
          first = (held_ran (runs (stops (looks m w)))).first;
          second = rest_of (held_ran (runs (stops (looks m w)))).hot.wires;
          pulses = (held_ran (runs (stops (looks m w)))).pulses;
          number = failure (tries (takes m w));
          ended = (held_ran (runs (stops (looks m w)))).ends;
          length = length (block_in m w);
          entry = told_held (runs (stops (looks m w)));
        }}
            (λ i. record {
              controller = record { hot = (q i).hot; cold = (sym e i).cold };
              first = (q i).first;
              second = (r ∙ ap (λ (x : Ran). rest_of x.hot.wires) q) i;
              pulses = (q i).pulses;
              number = (p i).number;
              ended = (q i).ends;
              length = (u ∙ ap length block_is) i;
              entry = (t ∙ ap (λ (x : Ran). told_of x.ends x.hot.plan x.hot.counters x.hot.run) q) i;
            })
            (ticked_is m w f (block_in m w)),
        v ∙ ap (λ (y : List ℕ). over y d) block_is,
      )

  pub tick_refused : (n : ℕ) → n ≡ tick_number_of (length d) w → (n ≡ 0 → ⊥) → Answers (refused_with self n) d
  tick_refused n q z =
      subst (λ (k : ℕ). Answers (refused_with self k) d) (sym q)
      (when (is_short d) (too_large w) (λ y. z (q ∙ y)))
    where
      when : (a b : Bool) → (◌≡◌ {A = ℕ} (cond a 2 (cond b 3 0)) 0 → ⊥)
          → Gives (refused_with self (cond a 2 (cond b 3 0))) d a b
      when true b y = ((λ i. refused_with (sym e i) 2), sym (over_nil d))
      when false true y = ((λ i. refused_with (sym e i) 3), sym (over_nil d))
      when false false y = absurd (y refl)
