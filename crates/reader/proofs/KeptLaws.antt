-- What every machine that calls make keeps besides its ranges: a switch below 16 that is not 12, and inputs of 24 bits.
-- Assumes nothing.
use Prim.Native.Nat.{ℕ, ◌+◌, ◌-◌, ◌<◌}
use native.Mathlib.Omega.{arith}
use mathlib.Core.Bool.{not, ◌&&◌}
use mathlib.Core.List.{List, [], ◌∷◌}
use mathlib.Core.Path.{◌≡◌, refl, sym, subst, ◌∙◌}
use borrow.Author.Tests.{ltb-false, eqb-false}
use lib.Dec.{ltb, leb, eqb}
use Rattle.laws.proofs.Pick.{by_bool}
use Rattle.laws.proofs.Tests.{neither}
use Rattle.digits.specs.Digits.{six_digits}
use Rattle.machine.specs.State.{Machine}
use Rattle.machine.specs.Shares.{whole, gone}
use Rattle.machine.specs.Ramp.{Ran, full, ramped, pulsed, advanced, ramps, tallied, runs}
use Rattle.machine.specs.Stops.{takes, cause, stops}
use Rattle.machine.specs.Steps.{
  power_on,
  bad_switch,
  Outcome,
  untaken,
  gathered,
  refused,
  accepted,
  outcome,
  answered,
  heard_by,
  Tried,
  untried,
  failed,
  began,
  tries,
  waits,
  looks,
  TickAnswer,
  is_short,
  too_large,
  tick_step,
}
use Rattle.machine.specs.Calls.{Call, byte, tick, after, run, state}
use Rattle.machine.proofs.UnalteredLaws.{does_unaltered, turned_unaltered}

-- One digit, and not C.
pub record SwitchFits (switch : ℕ) : Type 0 where
  pub low : switch < 16
  pub other : switch ≡ 12 → ⊥

pub record Kept (m : Machine) : Type 0 where
  pub switch : SwitchFits m.switch
  pub inputs : m.inputs < six_digits

-- The same switch and inputs.
record Same (m a : Machine) : Type 0 where
  switch : a.switch ≡ m.switch
  inputs : a.inputs ≡ m.inputs

kept_same : (m a : Machine) → Kept m → Same m a → Kept a
kept_same m a k s = record {
  switch = subst SwitchFits (sym s.switch) k.switch;
  inputs = subst (λ (w : ℕ). w < six_digits) (sym s.inputs) k.inputs;
}

-- ---- power-on

pub kept_power : (s : ℕ) → Kept (power_on s)
kept_power s = record {
  switch = by_bool SwitchFits (bad_switch s) 0 s (λ _. record { low = omega arith; other = λ e. omega arith })
      (λ q. let t = neither (ltb 15 s) (eqb s 12) q in
      let l = ltb-false 15 s t.0 in
      record { low = omega arith; other = eqb-false s 12 t.1 });
  inputs = omega arith;
}

-- ---- bytes

same_answered : (m : Machine) (b : ℕ) (o : Outcome) → Same m (answered m b o).machine
same_answered m b untaken = record { switch = refl; inputs = refl }
same_answered m b gathered = record { switch = refl; inputs = refl }
same_answered m b (refused n silent ident) =
    let u = turned_unaltered (heard_by m b) n in
    record { switch = u.switch; inputs = u.inputs }
same_answered m b (accepted c digits silent ident) =
    let u = does_unaltered (heard_by m b) c in
    record { switch = u.switch; inputs = u.inputs }

-- ---- ticks

same_next : (m a b : Machine) → Same m a → Same a b → Same m b
same_next m a b p q = record { switch = q.switch ∙ p.switch; inputs = q.inputs ∙ p.inputs }

same_waits : (m : Machine) (t : Tried) → Same m (waits m t)
same_waits m untried = record { switch = refl; inputs = refl }
same_waits m (failed n) = record { switch = refl; inputs = refl }
same_waits m (began k) = record { switch = refl; inputs = refl }

same_stops : (m : Machine) → Same m (stops m)
same_stops m =
    by_bool (Same m) (cause m) _ _ (λ _. record { switch = refl; inputs = refl })
    (λ _. record { switch = refl; inputs = refl })

same_pulsed : (m : Machine) (u phase n : ℕ) → Same m (pulsed m u phase n).machine
same_pulsed m u phase n =
    by_bool (Same m) (eqb n (whole m.move)) _ _ (λ _. record { switch = refl; inputs = refl })
    (λ _. record { switch = refl; inputs = refl })

same_advanced : (m : Machine) (u grown : ℕ) → Same m (advanced m u grown).machine
same_advanced m u grown =
    by_bool (λ (r : Ran). Same m r.machine) (ltb grown full) _ _ (λ _. record { switch = refl; inputs = refl })
    (λ _. same_pulsed m u (grown - full) (gone m.move + 1))

same_ramps : (m : Machine) → Same m (ramps m).machine
same_ramps m =
    by_bool (λ (r : Ran). Same m r.machine) (m.move.stopping && leb m.move.speed m.settings.slope) _ _
    (λ _. record { switch = refl; inputs = refl })
    (λ _. same_advanced m (ramped m.settings m.move) (m.move.phase + ramped m.settings m.move))

same_runs : (m : Machine) → Same m (runs m).machine
same_runs m =
    by_bool (λ (r : Ran). Same m r.machine) (not m.move.moving) _ _
    (λ _. record { switch = refl; inputs = refl })
    (λ _. same_next m (tallied m) (ramps (tallied m)).machine (record { switch = refl; inputs = refl })
    (same_ramps (tallied m)))

kept_takes : (m : Machine) (w : ℕ) → Kept m → w < six_digits → Kept (takes m w)
kept_takes m w k h = record { switch = k.switch; inputs = h }

kept_tick : (m : Machine) (w : ℕ) (d : List ℕ) → Kept m → Kept (tick_step m w d).machine
kept_tick m w d k =
    by_bool (λ (a : TickAnswer). Kept a.machine) (is_short d) _ _ (λ _. k)
    (λ _. by_bool (λ (a : TickAnswer). Kept a.machine) (too_large w) _ _ (λ _. k)
    (λ q. let h = ltb-false 16777215 w q in
    let s = same_waits (takes m w) (tries (takes m w)) in
    kept_same (takes m w) (runs (stops (looks m w))).machine (kept_takes m w k (omega arith))
    (same_next (takes m w) (stops (looks m w)) (runs (stops (looks m w))).machine
    (same_next (takes m w) (looks m w) (stops (looks m w)) s (same_stops (looks m w)))
    (same_runs (stops (looks m w))))))

kept_after : (m : Machine) (x : Call) → Kept m → Kept (after m x)
kept_after m (byte b buffer) k = kept_same m _ k (same_answered m b (outcome m b buffer))
kept_after m (tick w d) k = kept_tick m w d k

-- Every machine that calls make from power-on.
pub kept : (s : ℕ) (h : List Call) → Kept (state s h)
unfolding run
kept s [] = kept_power s
kept s (x ∷ h) = kept_after (state s h) x (kept s h)
