-- A tick stage after stage, done to what is held of a machine: each stage under the settings that the tick began with,
-- what its code needs there, and the answer. Assumes nothing.
use Rattle.std.specs.Prelude.{is_some, unwrap_or}
use Prim.Native.Nat.{ℕ, ◌+◌}
use mathlib.Core.Bool.{not, ◌&&◌}
use mathlib.Core.List.{List}
use mathlib.Core.Path.{◌≡◌, refl, sym, ap, subst, ◌∙◌}
use lib.Dec.{ltb, leb, eqb}
use lib.ListN.{length}
use Rattle.laws.proofs.Pick.{by_bool}
use Rattle.receiver.specs.Receiver.{holding}
use Rattle.machine.specs.State.{Machine}
use Rattle.machine.specs.Shares.{whole, gone}
use Rattle.machine.specs.Ramp as ramp
use Rattle.machine.specs.Ramp.{full, ramped, runs}
use Rattle.machine.specs.Stops.{takes, stops, cause}
use Rattle.machine.specs.Steps.{Tried, untried, failed, began, tries, waits, looks, failure, ticked}
use Rattle.machine.proofs.FitLaws.{Fits, fits_takes, fits_looks, fits_stops}
use Rattle.controller.specs.declared.state.Cold.{Cold}
use Rattle.controller.specs.declared.state.TickAnswer.{TickAnswer}
use Rattle.controller.specs.declared.state.Settings.{Settings}
use Rattle.controller.specs.Held.{held_settings, held_plan, held_hot, held_cold, held_tick}
use Rattle.controller.specs.Inner.Motion.{runs_of, held_ran, RunFits}
use Rattle.controller.specs.Inner.Words.{rest_of}
use Rattle.controller.specs.Inner.Watch.{stops_of}
use Rattle.controller.specs.Inner.Dwell.{waits_of, WaitFits}
use Rattle.controller.proofs.TickLaws.{stops_is, rest_is}
use Rattle.controller.proofs.StartLaws.{waits_is, wait_fits}
use Rattle.controller.proofs.PulseLaws.{run_is}
use Rattle.controller.proofs.ToldLaws.{told_held, told_is}
use Rattle.controller.proofs.NeedLaws.{run_fits}

-- ---- What only bytes alter

cold_waits : (m : Machine) (t : Tried) → held_cold (waits m t) ≡ held_cold m
cold_waits m untried = refl
cold_waits m (failed n) = refl
cold_waits m (began k) = refl

cold_stops : (m : Machine) → held_cold (stops m) ≡ held_cold m
cold_stops m = by_bool (λ (a : Machine). held_cold a ≡ held_cold m) (cause m) _ _ (λ e. refl) (λ e. refl)

-- What of a machine is held there.
record Cool (m a : Machine) : Type 0 where
  settings : a.settings ≡ m.settings
  next : a.next ≡ m.next
  line : a.line ≡ m.line
  switch : a.switch ≡ m.switch
  settle : a.settle ≡ m.settle

runs_cool : (m : Machine) → Cool m (runs m).machine
runs_cool m =
    by_bool P (not m.move.moving) _ _
    (λ e. record { settings = refl; next = refl; line = refl; switch = refl; settle = refl })
    (λ e. by_bool P (m.move.stopping && leb m.move.speed m.settings.slope) _ _
    (λ q. record { settings = refl; next = refl; line = refl; switch = refl; settle = refl })
    (λ q. by_bool P (ltb (m.move.phase + ramped m.settings m.move) full) _ _
    (λ l. record { settings = refl; next = refl; line = refl; switch = refl; settle = refl })
    (λ l. by_bool (Cool m) (eqb (gone m.move + 1) (whole m.move)) _ _
    (λ n. record { settings = refl; next = refl; line = refl; switch = refl; settle = refl })
    (λ n. record { settings = refl; next = refl; line = refl; switch = refl; settle = refl }))))
  where
    P : ramp.Ran → Type 0
    P r = Cool m r.machine

cold_runs : (m : Machine) → held_cold (runs m).machine ≡ held_cold m
cold_runs m =
    let k = runs_cool m in
    λ i. record {
      settings = held_settings (k.settings i);
      next = held_plan (k.next i);
      line = holding (k.line i);
      switch = k.switch i;
      ident = unwrap_or (k.settle i).ident 0;
      named = is_some (k.settle i).ident;
    }

-- ---- The stages

module _ (m : Machine) (w : ℕ) (f : Fits m) where
  -- The settings as the tick began.
  abbrev given : Settings
  given = held_settings m.settings

  cold_looks : held_cold (looks m w) ≡ held_cold m
  cold_looks = cold_waits (takes m w) (tries (takes m w))

  cold_stopped : held_cold (stops (looks m w)) ≡ held_cold m
  cold_stopped = cold_stops (looks m w) ∙ cold_looks

  pub cold_is : held_cold (runs (stops (looks m w))).machine ≡ held_cold m
  cold_is = cold_runs (stops (looks m w)) ∙ cold_stopped

  pub looks_is : waits_of given (held_plan m.next) m.switch (held_hot (takes m w))
      ≡ record { hot = held_hot (looks m w); number = failure (tries (takes m w)) }
  looks_is = waits_is (takes m w) (fits_takes m w f)

  pub stopped_is : stops_of given (held_hot (looks m w)) ≡ held_hot (stops (looks m w))
  stopped_is = ap (λ (x : Cold). stops_of x.settings (held_hot (looks m w))) (sym cold_looks) ∙ stops_is (looks m w)

  pub ran_is : runs_of given (held_hot (stops (looks m w))) ≡ held_ran (runs (stops (looks m w)))
  ran_is =
      ap (λ (x : Cold). runs_of x.settings (held_hot (stops (looks m w)))) (sym cold_stopped)
      ∙ run_is (stops (looks m w)) (fits_stops (looks m w) (fits_looks m w f))

  -- What the code of the stages needs.
  pub looks_fit : WaitFits (held_plan m.next) (held_hot (takes m w))
  looks_fit = wait_fits (takes m w) (fits_takes m w f)

  pub ran_fits : RunFits given (held_hot (stops (looks m w)))
  ran_fits =
      subst (λ (x : Cold). RunFits x.settings (held_hot (stops (looks m w)))) cold_stopped
      (run_fits (stops (looks m w)) (fits_stops (looks m w) (fits_looks m w f)))

  -- The answer of a tick whose word is not too large, from what its stages leave.
  pub ticked_is : (block : List ℕ) →
      ◌≡◌ {A = TickAnswer} (record {
        controller = record { hot = (held_ran (runs (stops (looks m w)))).hot; cold = held_cold m };
        pulses = (held_ran (runs (stops (looks m w)))).pulses;
        first = (held_ran (runs (stops (looks m w)))).first;
        second = rest_of (held_ran (runs (stops (looks m w)))).hot.wires;
        number = failure (tries (takes m w));
        ended = (held_ran (runs (stops (looks m w)))).ends;
        length = length block;
        entry = told_held (runs (stops (looks m w)));
      })
      (held_tick (ticked (runs (stops (looks m w))) (failure (tries (takes m w))) block))
  ticked_is block = λ i. record {
    controller = record { hot = held_hot (runs (stops (looks m w))).machine; cold = sym cold_is i };
    pulses = (held_ran (runs (stops (looks m w)))).pulses;
    first = (held_ran (runs (stops (looks m w)))).first;
    second = rest_is (runs (stops (looks m w))).machine (runs (stops (looks m w))).pulse i;
    number = failure (tries (takes m w));
    ended = (held_ran (runs (stops (looks m w)))).ends;
    length = length block;
    entry = told_is (stops (looks m w)) i;
  }
