-- What a tick's ramp does to the latest move, for each of its ends: rest, the end of a stop, a turn with no pulse, a
-- master pulse. Assumes nothing.
use Prim.Native.Nat.{ℕ, ◌+◌, ◌-◌}
use mathlib.Core.Bool.{Bool, true, false, not, ◌&&◌}
use mathlib.Core.Path.{◌≡◌, refl, sym}
use native.Mathlib.Omega.{arith}
use borrow.Author.Tests.{not-false}
use lib.Dec.{ltb, leb}
use lib.IntN.{pos, +ℤ_idr}
use Rattle.laws.proofs.Pick.{by_bool}
use Rattle.laws.proofs.Tests.{true_false, both}
use Rattle.machine.specs.State.{Pause, Machine, move_of, with_move, with_pause}
use Rattle.machine.specs.Ramp.{Ran, ended, at_speed, advanced, ramped, ramps, tallied, runs, full}
use Rattle.machine.proofs.Runs.{Good, good_tallied, Runs, untallied, no_pulse}
use Rattle.machine.proofs.PulseLaws.{runs_pulse}

module _ (m : Machine) (g : Good m.move) where
  -- A tick without a pulse: of the move only speed, phase and flags alter.
  runs_quiet : (u phase : ℕ) (moving stopping : Bool) (p : Pause)
      → (moving ≡ true → m.move.moving ≡ true) → (m.move.moving ≡ false → moving ≡ false)
      → (moving ≡ true → stopping ≡ m.move.stopping)
      → (m.move.moving ≡ true → m.move.stopping ≡ false → moving ≡ true)
      → Runs m (λ k. pos 0) (with_pause (with_move m
      (move_of m.move.plan m.move.master m.move.travel u phase m.move.ticks moving stopping
      m.move.replanned)) p)
  runs_quiet u phase moving stopping p before still same on = record {
    good = record { axis = g.axis; under = λ q. g.under (before q); fixed = λ q. g.fixed (before q) };
    plan = refl;
    master = refl;
    next = refl;
    count = λ k h. no_pulse (m.move.travel k);
    sum = λ k. sym (+ℤ_idr (m.position k));
    single = λ k h. omega arith;
    sign = λ k h q. absurd (omega arith);
    rests = λ q k. refl;
    still = still;
    stopping = same;
    replanned = refl;
    ending = λ a b c. true_false moving (on a b) c;
  }

  pub runs_turn : (u phase : ℕ) → Runs m (λ k. pos 0) (with_move m (at_speed m.move u phase))
  runs_turn u phase =
      runs_quiet u phase m.move.moving m.move.stopping m.pause (λ q. q) (λ q. q) (λ q. refl) (λ p q. p)

  pub runs_halt : m.move.stopping ≡ true → Runs m (λ k. pos 0) (ended m)
  runs_halt f =
      runs_quiet 0 0 false false (ended m).pause (λ q. true_false false q refl) (λ q. refl)
      (λ q. true_false false q refl) (λ p q. true_false m.move.stopping f q)

  pub runs_on : (e : m.move.moving ≡ true) (u grown : ℕ)
      → Runs m (advanced m u grown).pulse (advanced m u grown).machine
  runs_on e u grown =
      by_bool (λ (r : Ran). Runs m r.pulse r.machine) (ltb grown full) _ _
      (λ q. runs_turn u grown) (λ q. runs_pulse m g e u (grown - full))

  pub ramps_is : m.move.moving ≡ true → Runs m (ramps m).pulse (ramps m).machine
  ramps_is e =
      by_bool (λ (r : Ran). Runs m r.pulse r.machine)
      (m.move.stopping && leb m.move.speed m.settings.slope) _ _
      (λ s. runs_halt (both m.move.stopping _ s).0)
      (λ s. runs_on e (ramped m.settings m.move) (m.move.phase + ramped m.settings m.move))

pub runs_is : (m : Machine) → Good m.move → Runs m (runs m).pulse (runs m).machine
runs_is m g =
    by_bool (λ (r : Ran). Runs m r.pulse r.machine) (not m.move.moving) _ _
    (λ q. runs_turn m g m.move.speed m.move.phase)
    (λ q. untallied m _ _ (ramps_is (tallied m) (good_tallied m g) (not-false m.move.moving q)))
