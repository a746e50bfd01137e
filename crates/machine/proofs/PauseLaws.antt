-- The pause that a machine has after a call, the ticks of the dwell that are left and the waiting start, is the one
-- that the call's line or tick leaves; and so is the dwell set. Assumes nothing.
use Prim.Native.Nat.{ℕ, ◌-◌, ◌*◌}
use mathlib.Core.Bool.{Bool, true, false, cond, not, ◌&&◌, ◌||◌}
use mathlib.Core.List.{List}
use mathlib.Core.Path.{◌≡◌, refl, sym, ap, ◌∙◌}
use lib.Dec.{eqb}
use Rattle.machine.specs.State.{Machine, none, Pause}
use Rattle.machine.specs.Ramp.{runs}
use Rattle.machine.specs.Stops.{takes, stops}
use Rattle.machine.specs.Steps.{
  Tried,
  untried,
  tries,
  runs_out,
  looks,
  is_short,
  too_large,
  tick_by,
}
use Rattle.machine.specs.Calls.{Call, byte, tick, after}
use Rattle.machine.specs.Roles.{line_of, begins, named, dwell_by, moves, pause_after}
use Rattle.machine.proofs.BitLaws.{status_moving}
use Rattle.machine.proofs.PauseLineLaws.{byte_pause}
use Rattle.machine.proofs.PauseStageLaws.{effective, Looked, looked, Same, stops_same, still, Ramped, runs_pause}

-- A tick after a tick's ramp.
tick_pause : (m : Machine) (w : ℕ) (d : List ℕ)
    → (after m (tick w d)).pause ≡ pause_after m m.pause m.settings.dwell (tick w d)
tick_pause m w d = when (is_short d) (too_large w)
  where
    l : Looked (takes m w) (runs_out (takes m w))
        (effective (runs_out (takes m w)) (tries (takes m w)) m.pause.waiting) (looks m w)
    l = looked (takes m w)

    s : Same (looks m w) (stops (looks m w))
    s = stops_same (looks m w)

    r : Ramped (stops (looks m w)) (runs (stops (looks m w))).machine
    r = runs_pause (stops (looks m w))

    a : Machine
    a = (runs (stops (looks m w))).machine

    S : Tried
    S = effective (runs_out (takes m w)) (tries (takes m w)) m.pause.waiting

    ran : (runs (stops (looks m w))).machine.pause
        ≡ record {
          left = cond ((begins S || moves m) && not (moves a)) (250 * m.settings.dwell)
              (cond (begins S) 0 (m.pause.left - 1));
          waiting = cond (runs_out (takes m w)) none m.pause.waiting;
        }
    ran = λ i. record {
      left = (r.left
          ∙ λ j. cond ((s.moving ∙ (l.moving ∙ ap (λ (b : Bool). begins S || b) (sym (status_moving m)))) j
          && not (sym (status_moving a) j)) (250 * (s.dwell ∙ l.dwell) j)
          ((ap (λ (x : Pause). x.left) s.pause ∙ l.left) j)) i;
      waiting = (r.waiting ∙ (ap (λ (x : Pause). x.waiting) s.pause ∙ l.waiting)) i;
    }

    refused : m.pause
        ≡ record {
          left = cond (moves m && not (moves m)) (250 * m.settings.dwell) m.pause.left;
          waiting = m.pause.waiting;
        }
    refused = λ i. record {
      left = still (moves m) (250 * m.settings.dwell) m.pause.left i;
      waiting = m.pause.waiting;
    }

    -- The start that takes effect.
    E : Bool → Bool → Tried
    E a b =
        cond (eqb (tick_by m w a b).number 0) (cond (runs_out (takes m w)) (named m.pause.waiting) untried) untried

    when : (a b : Bool)
        → (tick_by m w a b).machine.pause
        ≡ record {
          left =
              cond ((begins (E a b) || moves m) && not (moves (tick_by m w a b).machine)) (250 * m.settings.dwell)
              (cond (begins (E a b)) 0 (cond (not (a || b)) (m.pause.left - 1) m.pause.left));
          waiting = cond (a || b) m.pause.waiting (cond (runs_out (takes m w)) none m.pause.waiting);
        }
    when true b = refused
    when false true = refused
    when false false = ran

tick_dwell : (m : Machine) (w : ℕ) (d : List ℕ) → (after m (tick w d)).settings.dwell ≡ m.settings.dwell
tick_dwell m w d = when (is_short d) (too_large w)
  where
    when : (a b : Bool) → (tick_by m w a b).machine.settings.dwell ≡ m.settings.dwell
    when true b = refl
    when false true = refl
    when false false =
        (runs_pause (stops (looks m w))).dwell ∙ ((stops_same (looks m w)).dwell ∙ (looked (takes m w)).dwell)

-- ---- Calls

pub pause_next : (m : Machine) (x : Call) → (after m x).pause ≡ pause_after m m.pause m.settings.dwell x
pause_next m (byte b buffer) = (byte_pause m b buffer).pause
pause_next m (tick w d) = tick_pause m w d

pub dwell_next : (m : Machine) (x : Call) → (after m x).settings.dwell ≡ dwell_by (line_of m x) m.settings.dwell
dwell_next m (byte b buffer) = (byte_pause m b buffer).dwell
dwell_next m (tick w d) = tick_dwell m w d
