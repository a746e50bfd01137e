-- After the tick of the end nothing that is shown alters: no move runs and no start waits. Assumes nothing.
use Prim.Native.Nat.{ℕ, zero, suc, ◌+◌, ◌-◌, ◌<◌}
use native.Mathlib.Omega.{arith}
use mathlib.Core.Bool.{Bool, true, false, cond, not, ◌&&◌, ◌||◌, true≢false}
use mathlib.Core.Path.{◌≡◌, refl, sym, ap, subst, ◌∙◌}
use borrow.Author.Tests.{eqb-true, ltb-false}
use lib.Dec.{ltb, leb, eqb}
use Rattle.laws.proofs.Pick.{by_bool}
use Rattle.laws.specs.Axes.{each}
use Rattle.machine.specs.State.{Machine, Move, Waiting, none, with_flags, with_move}
use Rattle.machine.specs.Shares.{whole, gone}
use Rattle.machine.specs.Ramp.{Ran, full, ramped, ended, quiet, stepped, pulsed, advanced, ramps, tallied, runs}
use Rattle.machine.specs.Entries.{no_entry, entry, entry_of}
use Rattle.machine.specs.Stops.{takes, cause, stops, stopping, marks, limit_or_watch, sensor_active}
use Rattle.machine.specs.Steps.{untried, try_waiting, runs_out, tries, counts, waits, looks, too_large, tick_by, tick_step}
use Rattle.machine.specs.Calls.{run, buffer}
use Rattle.controller.specs.Held.{is_end}
use Rattle.trial.specs.declared.Trial.{Trial}
use Rattle.trial.specs.Promises.{Rest}
use Rattle.trial.proofs.EndLaws.{step, first_end}
use Rattle.trial.proofs.PlainLaws.{plain_start}
use Rattle.trial.proofs.TrialLaws.{by_run}
use Rattle.trial.specs.Trial.{start_answer, after_ticks, first_of, end_of, run_of, trial_of}

-- ---- The ramp

-- What is asked of a ramp's answer: the waiting start stays, and where there is an entry no move runs.
abbrev Fine : Machine → Ran → Type 0
Fine m r =
    (r.machine.pause.waiting ≡ m.pause.waiting) × (is_end r.entry ≡ true → r.machine.move.moving ≡ false)

no : {A : Type 0} → false ≡ true → A
no e = absurd (true≢false (sym e))

pulsed_fine : (m : Machine) (u p n : ℕ) → Fine m (pulsed m u p n)
pulsed_fine m u p n = when (eqb n (whole m.move))
  where
    when : (t : Bool) → Fine m (record {
      machine = cond t (ended (stepped m u p n)) (stepped m u p n);
      pulse = (pulsed m u p n).pulse;
      entry = cond t (entry (entry_of (stepped m u p n).move)) no_entry;
    })
    when true = (refl, λ e. refl)
    when false = (refl, λ e. no e)

advanced_fine : (m : Machine) (u g : ℕ) → Fine m (advanced m u g)
advanced_fine m u g =
    by_bool (Fine m) (ltb g full) _ _ (λ e. (refl, λ q. no q)) (λ e. pulsed_fine m u (g - full) (gone m.move + 1))

ramps_fine : (m : Machine) → Fine m (ramps m)
ramps_fine m =
    by_bool (Fine m) (m.move.stopping && leb m.move.speed m.settings.slope) _ _ (λ e. (refl, λ q. refl))
    (λ e. advanced_fine m (ramped m.settings m.move) (m.move.phase + ramped m.settings m.move))

runs_fine : (m : Machine) → Fine m (runs m)
runs_fine m =
    by_bool (Fine m) (not m.move.moving) _ _ (λ e. (refl, λ q. no q)) (λ e. ramps_fine (tallied m))

stops_waiting : (m : Machine) → (stops m).pause.waiting ≡ m.pause.waiting
stops_waiting m = by_bool (λ (x : Machine). x.pause.waiting ≡ m.pause.waiting) (cause m) _ _ (λ e. refl) (λ e. refl)

-- ---- A tick with no start that waits

unwaited : (m : Machine) → m.pause.waiting ≡ none → waits m (tries m) ≡ counts m
unwaited m e =
    ap (λ (x : Waiting). waits m (cond (runs_out m) (try_waiting m x) untried)) e ∙ same (runs_out m)
  where
    same : (t : Bool) → waits m (cond t untried untried) ≡ counts m
    same true = refl
    same false = refl

module _ (m : Machine) (w : ℕ) (e : m.pause.waiting ≡ none) where
  abbrev next : Machine
  next = (tick_step m w buffer).machine

  looked : looks m w ≡ counts (takes m w)
  looked = unwaited (takes m w) e

  next_waits : next.pause.waiting ≡ none
  next_waits = when (too_large w)
    where
      when : (t : Bool) → (tick_by m w false t).machine.pause.waiting ≡ none
      when true = e
      when false =
          (runs_fine (stops (looks m w))).0
          ∙ (stops_waiting (looks m w) ∙ (ap (λ (x : Machine). x.pause.waiting) looked ∙ e))

  next_rests : is_end (tick_step m w buffer).entry ≡ true → next.move.moving ≡ false
  next_rests = when (too_large w)
    where
      when : (t : Bool) → is_end (tick_by m w false t).entry ≡ true → (tick_by m w false t).machine.move.moving ≡ false
      when true = λ q. no q
      when false = (runs_fine (stops (looks m w))).1

  -- At rest a tick leaves position and travel.
  rests : m.move.moving ≡ false → (next.move ≡ m.move) × (next.position ≡ m.position)
  rests r = when (too_large w)
    where
      y : Machine
      y = counts (takes m w)

      still : (runs (stops y)).machine ≡ y
      still =
          ap (λ (t : Bool). (runs (cond (t && (y.flags.emergency || sensor_active y || limit_or_watch y))
          (with_flags (with_move y (stopping y.move)) (marks y.flags (limit_or_watch y) (sensor_active y))) y)
          ).machine) r
          ∙ ap (λ (t : Bool). (cond {A = Ran} (not t) (quiet y) (ramps (tallied y))).machine) r

      left : (runs (stops (looks m w))).machine ≡ y
      left = ap (λ (x : Machine). (runs (stops x)).machine) looked ∙ still

      when : (t : Bool)
          → ((tick_by m w false t).machine.move ≡ m.move) × ((tick_by m w false t).machine.position ≡ m.position)
      when true = (refl, refl)
      when false = (ap (λ (x : Machine). x.move) left, ap (λ (x : Machine). x.position) left)

-- ---- So many ticks

module _ (m : Machine) (w : ℕ) (e : m.pause.waiting ≡ none) where
  waits_on : (n : ℕ) → (after_ticks m w n).pause.waiting ≡ none
  unfolding run
  waits_on zero = e
  waits_on (suc n) = next_waits (after_ticks m w n) w (waits_on n)

  abbrev Same : ℕ → ℕ → Type 0
  Same n i =
      ((after_ticks m w n).move ≡ (after_ticks m w (suc i)).move)
      × (((after_ticks m w n).position ≡ (after_ticks m w (suc i)).position)
      × (((after_ticks m w n).move.moving ≡ false) × (end_of m w (suc i) ≡ suc i)))

  same : (n i : ℕ) → end_of m w n ≡ suc i → Same n i
  unfolding run end_of
  same zero i = λ q. absurd (omega (arith, q))
  same (suc n) i =
      step m w n (λ x. x ≡ suc i → Same (suc n) i)
      (λ z b q.
      let r : n ≡ i = omega (arith, q) in
      subst (λ j. Same (suc n) j) r
      (refl, (refl, (next_rests (after_ticks m w n) w (waits_on n) b, (λ j. first_of (z j) (b j) (suc n))))))
      (λ z b q. absurd (omega (arith, q)))
      (λ z q.
      let t = same n i q in
      let s = rests (after_ticks m w n) w (waits_on n) t.1.1.0 in
      (s.0 ∙ t.0, (s.1 ∙ t.1.0, (ap (λ (v : Move). v.moving) s.0 ∙ t.1.1.0, t.1.1.1))))

  stays : (n i : ℕ) → end_of m w n ≡ suc i → run_of m w n ≡ run_of m w (suc i)
  stays n i q =
      let t = same n i q in
      λ j. record {
        number = 0;
        end = (q ∙ sym t.1.1.1) j;
        travels = each (λ k. record { 0 = (t.0 j).travel k });
        positions = each (t.1.0 j);
      }

-- ---- The trial

-- After an accepted start.
pub begun_stays : (m : Machine) (k w n : ℕ) → k < 5 → (start_answer m k).number ≡ 0
    → (end_of (start_answer m k).machine w n ≡ 0 → ⊥)
    → run_of (start_answer m k).machine w n
    ≡ run_of (start_answer m k).machine w (end_of (start_answer m k).machine w n)
begun_stays m k w n l z f = by (end_of (start_answer m k).machine w n) refl
  where
    g : (start_answer m k).machine.pause.waiting ≡ none
    g =
        ap (λ (x : Machine). x.pause.waiting)
        (plain_start.begins m k l (sym (plain_start.turned m k l) ∙ z))

    by : (e : ℕ) → end_of (start_answer m k).machine w n ≡ e
        → run_of (start_answer m k).machine w n ≡ run_of (start_answer m k).machine w e
    by zero q = absurd (f q)
    by (suc i) q = stays (start_answer m k).machine w g n i q

stay : (m : Machine) (k w n i : ℕ) → (trial_of m k w n).end ≡ suc i → trial_of m k w n ≡ trial_of m k w (suc i)
stay m k w n i =
    by_bool P (too_large w) _ _ (λ a q. absurd (omega (arith, q)))
    (λ a. by_bool P (ltb 1000000 n) _ _ (λ b q. absurd (omega (arith, q)))
    (λ b. by_bool P (ltb 4 k) _ _ (λ c q. absurd (omega (arith, q)))
    (λ c. by_bool P (eqb (start_answer m k).number 0) _ _ (λ d q. ran a b c d q) (λ d q. absurd (omega (arith, q))))))
  where
    P : Trial → Type 0
    P t = t.end ≡ suc i → t ≡ trial_of m k w (suc i)

    ran : too_large w ≡ false → ltb 1000000 n ≡ false → ltb 4 k ≡ false → eqb (start_answer m k).number 0 ≡ true
        → end_of (start_answer m k).machine w n ≡ suc i → run_of (start_answer m k).machine w n ≡ trial_of m k w (suc i)
    ran a b c d q =
        let z = eqb-true (start_answer m k).number 0 d in
        let p = ltb-false 16777215 w a in
        let u = ltb-false 1000000 n b in
        let v = ltb-false 4 k c in
        let l : k < 5 = omega (arith, v) in
        let f = (first_end.told (start_answer m k).machine w n i q).0 in
        begun_stays m k w n l z (λ y. absurd (omega (arith, q, y)))
        ∙ ap (run_of (start_answer m k).machine w) q
        ∙ by_run m k w (suc i) (omega (arith, p)) (omega (arith, f, u)) (omega (arith, v)) z

pub rest : Rest
rest = record { stays = λ m k w n i e. stay m k w n i e }
