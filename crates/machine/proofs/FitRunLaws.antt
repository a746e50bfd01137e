-- Ramp and pulses keep a machine in range. Assumes nothing.
use Prim.Native.Nat.{ℕ, zero, suc, ◌+◌, ◌-◌, ◌*◌, ◌≤◌, ◌<◌}
use mathlib.Core.Bool.{Bool, true, false, cond, not, ◌&&◌}
use mathlib.Core.Path.{◌≡◌, refl, sym, subst}
use native.Mathlib.Omega.{arith}
use native.Mathlib.Nat.{
  div-le_of_le-mul,
  mul-le-mul_right,
  mul-pos,
  lt_of_lt_of_le,
  min-le_right,
  le-min,
  max-le,
  le-max_right,
}
use borrow.Author.Tests.{eqb-true, eqb-false, leb-false, leb-true, not-false}
use lib.Dec.{leb, eqb}
use lib.IntN.{ℤ, ◌+ℤ◌}
use Rattle.laws.proofs.Tests.{true_false}
use Rattle.laws.proofs.Pick.{by_bool, by_lt, by_le}
use Rattle.reply.specs.Reply.{bias}
use Rattle.machine.specs.State.{Settings, Move, Machine}
use Rattle.machine.specs.Shares.{whole, gone, share, pulse}
use Rattle.machine.specs.Ramp.{
  Ran,
  full,
  remaining,
  braked,
  towards,
  ramped,
  at_rest,
  ended,
  stepped,
  pulsed,
  advanced,
  tallied,
  runs,
}
use Rattle.machine.specs.Starts.{outside}
use Rattle.machine.proofs.ShareLaws.{share_grows, share_once}
use Rattle.machine.proofs.Runs.{Good, good_tallied}
use Rattle.machine.proofs.PulseLaws.{master_to, step_pulse, runs_step, runs_end}
use Rattle.machine.proofs.PositionLaws.{Room, place_step}
use Rattle.machine.proofs.Fits.{SettingsFit, PlanFits, PlacesFit, PauseFits, Fits, fits_of}

pub braked_small : (u a : ℕ) → u ≤ full → braked u a ≤ full
braked_small u a h =
    by_le (λ (x : ℕ). x ≤ full) u a _ _ (λ q. h) (λ q. max-le (omega arith) (omega arith))

pub towards_small : (u target a : ℕ) → u ≤ full → target ≤ full → towards u target a ≤ full
towards_small u target a h k =
    by_le (λ (x : ℕ). x ≤ full) u target _ _
    (λ q. let l = min-le_right (u + a) target in omega (arith, l)) (λ q. max-le (omega arith) k)

pub ramped_small : (s : Settings) (v : Move) → SettingsFit s → v.speed ≤ full → ramped s v ≤ full
ramped_small s v f h =
    by_bool (λ (x : ℕ). x ≤ full) v.stopping _ _ (λ q. omega arith)
    (λ q. by_bool (λ (x : ℕ). x ≤ full) (leb (2 * s.slope * remaining v) (v.speed * v.speed)) _ _
    (λ e. braked_small v.speed s.slope h)
    (λ e. towards_small v.speed (50 * s.speed) s.slope h (let k = f.speed in omega (arith, k))))

braked_above : (u a : ℕ) → 0 < u → 0 < a → 0 < braked u a
braked_above u a h k =
    by_le (λ (x : ℕ). 0 < x) u a _ _ (λ q. h) (λ q. lt_of_lt_of_le k (le-max_right (u - a) a))

towards_above : (u target a : ℕ) → 0 < target → 0 < a → 0 < towards u target a
towards_above u target a h k =
    by_le (λ (x : ℕ). 0 < x) u target _ _ (λ q. le-min (omega arith) h)
    (λ q. lt_of_lt_of_le h (le-max_right (u - a) target))

-- A move that brakes has a speed.
braking_above : (u a r : ℕ) → 0 < a → 0 < r → 2 * a * r ≤ u * u → 0 < u
braking_above zero a r h k q = let p = mul-pos {m = 2 * a} {n = r} (omega arith) k in absurd (omega (arith, p, q))
braking_above (suc u) a r h k q = omega arith

-- The speed of a tick that does not end a stop is above 0.
ramped_above : (s : Settings) (v : Move) → SettingsFit s → 0 < remaining v
    → v.stopping && leb v.speed s.slope ≡ false → 0 < ramped s v
ramped_above s v f h n =
    by_bool (λ (x : ℕ). 0 < x) v.stopping _ _
    (λ q. let l : s.slope < v.speed =
    leb-false v.speed s.slope (subst (λ (b : Bool). b && leb v.speed s.slope ≡ false) q n) in
    omega (arith, l))
    (λ q. by_bool (λ (x : ℕ). 0 < x) (leb (2 * s.slope * remaining v) (v.speed * v.speed)) _ _
    (λ e. braked_above v.speed s.slope
    (braking_above v.speed s.slope (remaining v) f.rises h (leb-true _ _ e)) f.rises)
    (λ e. towards_above v.speed (50 * s.speed) s.slope (let k = f.moves in omega (arith, k)) f.rises))

-- The end of a move, whatever its speed and phase: it asks nothing of a move that runs.
fits_ended : (m : Machine) → SettingsFit m.settings → PlanFits m.next → Good (at_rest m.move)
    → PlanFits m.move.plan → m.move.master < 5
    → ((k : ℕ) → k < 5 → m.move.travel k ≤ m.move.plan.distance k)
    → PlacesFit m.move m.position → PauseFits m.pause → Fits (ended m)
fits_ended m s n g p k t o q =
    fits_of _ s n (record {
      good = g;
      plan = p;
      master = k;
      speed = omega arith;
      phase = omega arith;
      ticks = λ r. true_false false r refl;
      within = t;
    }) (record { inside = o.inside; room = o.room })
    (record { left = let r = s.dwell in omega (arith, r); waiting = q.waiting })

module _ (m : Machine) (f : Fits m) (e : m.move.moving ≡ true) where
  above : 0 < whole m.move
  above = let h = f.move.good.under e in omega (arith, h)

  -- No share passes its distance.
  share_short : (k : ℕ) → share m.move (gone m.move + 1) k ≤ m.move.plan.distance k
  share_short k =
      div-le_of_le-mul (whole m.move) (mul-le-mul_right (m.move.plan.distance k)
      (let h = f.move.good.under e in omega (arith, h)))

  pub place : (k : ℕ) → k < 5
      → (outside (m.position k +ℤ pulse m.move (gone m.move + 1) k) ≡ false)
      × Room (m.move.plan.minus k) (bias (m.position k +ℤ pulse m.move (gone m.move + 1) k))
      (m.move.plan.distance k - share m.move (gone m.move + 1) k)
  place k h =
      subst (λ (y : ℤ). (outside (m.position k +ℤ y) ≡ false)
      × Room (m.move.plan.minus k) (bias (m.position k +ℤ y))
      (m.move.plan.distance k - share m.move (gone m.move + 1) k))
      (sym (step_pulse m f.move.good e k h))
      (place_step (m.move.plan.minus k) (m.position k) (m.move.plan.distance k) (m.move.travel k)
      (share m.move (gone m.move + 1) k) (f.places.inside k h) (f.places.room k h)
      (share_grows _ _ _ _ above (f.move.good.axis k h)) (share_once _ _ _ _ above (f.move.good.axis k h))
      (share_short k))

  -- What is left of a running move is above 0, and one tick more is no more than what the move has gone with u ≥ 1.
  left : 0 < remaining m.move
  left = let h = f.move.good.under e in let p = f.move.phase in omega (arith, h, p)

  fits_stepped : (u phase : ℕ) → u ≤ full → phase < full → m.move.phase < full + phase
      → Good (stepped (tallied m) u phase (gone m.move + 1)).move
      → Fits (stepped (tallied m) u phase (gone m.move + 1))
  fits_stepped u phase h l d g =
      fits_of _ f.settings f.next (record {
        good = g;
        plan = f.move.plan;
        master = f.move.master;
        speed = h;
        phase = l;
        ticks = λ q. subst (λ (n : ℕ). m.move.ticks + 1 ≤ full * n + phase) (sym (master_to m f.move.good e))
            (let t = f.move.ticks e in omega (arith, t, d));
        within = λ k q. share_short k;
      }) (record { inside = λ k q. (place k q).0; room = λ k q. (place k q).1 }) f.pause

  fits_pulsed : (u phase : ℕ) → u ≤ full → phase < full → m.move.phase < full + phase
      → Fits (pulsed (tallied m) u phase (gone m.move + 1)).machine
  fits_pulsed u phase h l d = when (eqb (gone m.move + 1) (whole m.move)) refl
    where
      on : Good (tallied m).move
      on = good_tallied m f.move.good

      when : (b : Bool) → eqb (gone m.move + 1) (whole m.move) ≡ b
          → Fits (cond b (ended (stepped (tallied m) u phase (gone m.move + 1)))
          (stepped (tallied m) u phase (gone m.move + 1)))
      when true q =
          fits_ended (stepped (tallied m) u phase (gone m.move + 1)) f.settings f.next
          (runs_end (tallied m) on e u phase (eqb-true (gone m.move + 1) (whole m.move) q)).good
          f.move.plan f.move.master (λ k r. share_short k)
          (record { inside = λ k r. (place k r).0; room = λ k r. (place k r).1 }) f.pause
      when false q =
          fits_stepped u phase h l d
          (runs_step (tallied m) on e u phase (eqb-false (gone m.move + 1) (whole m.move) q)).good

  fits_advanced : (u grown : ℕ) → u ≤ full → m.move.phase < grown → grown ≤ m.move.phase + u
      → Fits (advanced (tallied m) u grown).machine
  fits_advanced u grown h d l =
      by_lt (λ (r : Ran). Fits r.machine) grown full _ _
      (λ q. fits_of _ f.settings f.next (record {
        good = record { axis = f.move.good.axis; under = f.move.good.under; fixed = f.move.good.fixed };
        plan = f.move.plan;
        master = f.move.master;
        speed = h;
        phase = q;
        ticks = λ _. let t = f.move.ticks e in omega (arith, t, d);
        within = f.move.within;
      }) (record { inside = f.places.inside; room = f.places.room }) f.pause)
      (λ q. fits_pulsed u (grown - full) h (let r = f.move.phase in omega (arith, r)) (omega (arith, d, q)))

pub fits_runs : (m : Machine) → Fits m → Fits (runs m).machine
fits_runs m f =
    by_bool (λ (r : Ran). Fits r.machine) (not m.move.moving) _ _ (λ q. f)
    (λ q. by_bool (λ (r : Ran). Fits r.machine) (m.move.stopping && leb m.move.speed m.settings.slope) _ _
    (λ s. fits_ended (tallied m) f.settings f.next
    (record {
      axis = f.move.good.axis;
      under = λ r. true_false false r refl;
      fixed = λ r. true_false false r refl;
    }) f.move.plan f.move.master
    f.move.within (record { inside = f.places.inside; room = f.places.room }) f.pause)
    (λ s. fits_advanced m f (not-false m.move.moving q) (ramped m.settings m.move)
    (m.move.phase + ramped m.settings m.move)
    (ramped_small m.settings m.move f.settings f.move.speed)
    (let u = ramped_above m.settings m.move f.settings (left m f (not-false m.move.moving q)) s in
    omega (arith, u)) (omega arith)))
