-- A master pulse: the pulse and the travel of each axis in it, the move's end included. Assumes nothing.
use Prim.Native.Nat.{ℕ, ◌+◌, ◌≤◌, ◌<◌}
use mathlib.Core.Bool.{Bool, true, false, cond}
use mathlib.Core.Path.{◌≡◌, refl, sym, ap, subst, ◌∙◌}
use native.Mathlib.Omega.{arith}
use native.Mathlib.Nat.{mul-div_left}
use borrow.Author.Tests.{eqb-true, eqb-false}
use lib.Dec.{ltb, eqb}
use lib.IntN.{ℤ, pos, nat_abs}
use Rattle.laws.specs.Axes.{directed}
use Rattle.laws.proofs.Pick.{by_bool}
use Rattle.laws.proofs.Tests.{true_false}
use Rattle.machine.specs.State.{Pause, Machine, move_of, with_move, with_pause}
use Rattle.machine.specs.Shares.{whole, gone, share, pulse}
use Rattle.machine.specs.Ramp.{ended, stepped, pulsed}
use Rattle.machine.specs.List.{is_pulse}
use Rattle.machine.proofs.ShareLaws.{
  Share,
  share_next,
  share_grows,
  share_once,
  share_whole,
  share_last,
  pulse_is,
  pulse_counts,
  pulse_single,
  pulse_sign,
  pulse_last,
}
use Rattle.machine.proofs.Runs.{Good, Runs}

module _ (m : Machine) (g : Good m.move) (e : m.move.moving ≡ true) where
  positive : 0 < whole m.move
  positive = let h = g.under e in omega (arith, h)

  pub step_share : (k : ℕ) → k < 5
      → Share (m.move.plan.distance k) (whole m.move) (gone m.move + 1)
      (share m.move (gone m.move + 1) k)
  step_share k h = share_next _ _ _ (m.move.travel k) positive (g.axis k h)

  -- The master's own share is its travel.
  pub master_to : share m.move (gone m.move + 1) m.move.master ≡ gone m.move + 1
  master_to = mul-div_left (gone m.move + 1) positive

  step_axis_lem : (k : ℕ) → k < 5
      → Share (m.move.plan.distance k) (whole m.move) (share m.move (gone m.move + 1) m.move.master)
      (share m.move (gone m.move + 1) k)
  step_axis_lem k h =
      subst (λ (n : ℕ). Share (m.move.plan.distance k) (whole m.move) n
      (share m.move (gone m.move + 1) k))
      (sym master_to) (step_share k h)

  -- The pulse of an axis, by whether its travel grows.
  pub step_pulse : (k : ℕ) → k < 5
      → pulse m.move (gone m.move + 1) k
      ≡ cond (ltb (m.move.travel k) (share m.move (gone m.move + 1) k))
      (directed (m.move.plan.minus k) 1) (pos 0)
  step_pulse k h =
      pulse_is (m.move.travel k) (share m.move (gone m.move + 1) k) (m.move.plan.minus k)
      (share_grows _ _ _ _ positive (g.axis k h)) (share_once _ _ _ _ positive (g.axis k h))

  step_count : (k : ℕ) → k < 5
      → share m.move (gone m.move + 1) k ≡ m.move.travel k + is_pulse (pulse m.move (gone m.move + 1) k)
  step_count k h =
      subst (λ (z : ℤ). share m.move (gone m.move + 1) k ≡ m.move.travel k + is_pulse z) (sym (step_pulse k h))
      (pulse_counts (m.move.travel k) (share m.move (gone m.move + 1) k) (m.move.plan.minus k)
      (share_grows _ _ _ _ positive (g.axis k h)) (share_once _ _ _ _ positive (g.axis k h)))

  step_single : (k : ℕ) → k < 5 → nat_abs (pulse m.move (gone m.move + 1) k) ≤ 1
  step_single k h =
      subst (λ (z : ℤ). nat_abs z ≤ 1) (sym (step_pulse k h))
      (pulse_single (m.move.travel k) (share m.move (gone m.move + 1) k) (m.move.plan.minus k))

  step_sign : (k : ℕ) → k < 5 → 0 < nat_abs (pulse m.move (gone m.move + 1) k)
      → pulse m.move (gone m.move + 1) k ≡ directed (m.move.plan.minus k) 1
  step_sign k h =
      subst (λ (z : ℤ). 0 < nat_abs z → z ≡ directed (m.move.plan.minus k) 1) (sym (step_pulse k h))
      (pulse_sign (m.move.travel k) (share m.move (gone m.move + 1) k) (m.move.plan.minus k))

  -- A pulse, with the flags and the dwell that it leaves: it runs on below its end, and at its end it is whole.
  runs_shared : (u phase : ℕ) (moving stopping : Bool) (p : Pause)
      → (moving ≡ true → gone m.move + 1 < whole m.move) → (moving ≡ true → stopping ≡ m.move.stopping)
      → (moving ≡ false → gone m.move + 1 ≡ whole m.move)
      → Runs m (pulse m.move (gone m.move + 1)) (with_pause (with_move (stepped m u phase (gone m.move + 1))
      (move_of m.move.plan m.move.master (share m.move (gone m.move + 1)) u phase m.move.ticks moving
      stopping m.move.replanned)) p)
  runs_shared u phase moving stopping p below same all = record {
    good = record {
      axis = step_axis_lem;
      under = λ q. subst (λ (n : ℕ). n < whole m.move) (sym master_to) (below q);
      fixed = λ q. g.fixed e;
    };
    plan = refl;
    master = refl;
    next = refl;
    count = step_count;
    sum = λ k. refl;
    single = step_single;
    sign = step_sign;
    rests = λ q k. true_false m.move.moving e q;
    still = λ q. true_false m.move.moving e q;
    stopping = same;
    replanned = refl;
    ending = λ _ _ r. record {
      reached = master_to ∙ all r;
      there = λ k h. share_whole _ _ _ _ positive (g.axis k h) (all r);
      last = λ k h d. ap nat_abs (step_pulse k h) ∙ pulse_last (m.move.travel k)
          (share m.move (gone m.move + 1) k) (m.move.plan.minus k)
          (subst (λ (n : ℕ). m.move.travel k < n) (sym (share_whole _ _ _ _ positive (g.axis k h) (all r)))
          (share_last _ _ _ _ positive (g.axis k h) (all r) d));
    };
  }

  pub runs_step : (u phase : ℕ) → (gone m.move + 1 ≡ whole m.move → ⊥)
      → Runs m (pulse m.move (gone m.move + 1)) (stepped m u phase (gone m.move + 1))
  runs_step u phase short =
      runs_shared u phase m.move.moving m.move.stopping m.pause
      (λ q. let h = g.under e in omega (arith, h, short)) (λ q. refl) (λ q. true_false m.move.moving e q)

  pub runs_end : (u phase : ℕ) → gone m.move + 1 ≡ whole m.move
      → Runs m (pulse m.move (gone m.move + 1)) (ended (stepped m u phase (gone m.move + 1)))
  runs_end u phase all =
      runs_shared 0 0 false false (ended m).pause (λ q. true_false false q refl) (λ q. true_false false q refl)
      (λ q. all)

  pub runs_pulse : (u phase : ℕ)
      → Runs m (pulse m.move (gone m.move + 1)) (pulsed m u phase (gone m.move + 1)).machine
  runs_pulse u phase =
      by_bool (λ (a : Machine). Runs m (pulse m.move (gone m.move + 1)) a)
      (eqb (gone m.move + 1) (whole m.move)) _ _
      (λ q. runs_end u phase (eqb-true (gone m.move + 1) (whole m.move) q))
      (λ q. runs_step u phase (eqb-false (gone m.move + 1) (whole m.move) q))
