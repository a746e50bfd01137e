-- Starts, distance lines, resets, order 9 and carry-ons: what each does to the latest move, the next one and the
-- positions. Assumes nothing.
use Prim.Native.Nat.{ℕ, ◌<◌}
use mathlib.Core.Bool.{Bool, true, false, cond}
use mathlib.Core.Path.{◌≡◌, refl, sym, ap, subst, ◌∙◌}
use native.Mathlib.Omega.{arith}
use lib.IntN.{ℤ, pos, ◌+ℤ◌, +ℤ_idr}
use Rattle.laws.proofs.Tests.{true_false}
use Rattle.machine.specs.State.{Plan, Move, Machine}
use Rattle.machine.specs.Shares.{whole}
use Rattle.machine.specs.Stops.{stopping}
use Rattle.machine.specs.Starts.{new_move, onwards}
use Rattle.machine.specs.Commands.{stores, set_axis, replans}
use Rattle.machine.specs.Steps.{untried, began}
use Rattle.machine.specs.Roles.{
  Role,
  distance_line,
  start_line,
  stop_order,
  reset_order,
  carry_order,
  reset_by,
  sets_distance,
  carries_by,
  distance_by,
  minus_by,
}
use Rattle.machine.proofs.Runs.{Good, no_pulse}
use Rattle.machine.proofs.CalledLaws.{Called, Same, and_self, called_line, kept}
use Rattle.machine.proofs.ReadyLaws.{Ready, good_new, Resumable, good_onwards}

pub called_start : (m : Machine) (k : ℕ) (w : Bool) (a : Machine) → Ready m k → m.move.moving ≡ false
    → stores m w ≡ false → a.next ≡ m.next → a.move ≡ new_move m.next k → a.position ≡ m.position
    → Called m (start_line k w) (began k) false false (λ j. pos 0) a
called_start m k w a r e f n v p = record {
  good = subst Good (sym v) (good_new m k r);
  next_distance = λ j. ap (λ (x : Plan). x.distance j) n;
  next_minus = λ j. ap (λ (x : Plan). x.minus j) n;
  distance = λ j. ap (λ (x : Move). x.plan.distance j) v;
  minus = λ j. ap (λ (x : Move). x.plan.minus j) v;
  master = ap (λ (x : Move). x.master) v;
  count = λ j h. ap (λ (x : Move). x.travel j) v ∙ no_pulse 0;
  ticks = λ q. ap (λ (x : Move). x.ticks) v;
  sum = λ j. ap (λ (x : ℕ → ℤ). x j) p ∙ sym (+ℤ_idr (m.position j));
  single = λ j h. omega arith;
  sign = λ j h q. absurd (omega arith);
  positive = λ q. subst (λ (x : Move). 0 < whole x) (sym v) r.positive;
  goes = ap (λ (x : Move). x.moving) v;
  stopped = λ q. ap (λ (x : Move). x.stopping) v;
  replanned = ap (λ (x : Move). x.replanned) v;
  idle = λ q h j l. true_false true refl q;
  ending = λ q h j l. true_false false q refl;
}

-- Lines that are no distance line, no reset and no carry-on, as a start that is stored or a dwell line, alter neither
-- plan nor positions.
pub record Quiet (L : Role) : Type 0 where
  pub distance : (k n : ℕ) → n ≡ distance_by L k n
  pub minus : (k : ℕ) (b : Bool) → b ≡ minus_by L k b
  pub reset : false ≡ reset_by L
  pub set : sets_distance L ≡ false
  pub carry : carries_by L ≡ false

pub called_quiet : (m a : Machine) (L : Role) → Quiet L → Good m.move → Same m a
    → Called m L untried false false (λ j. pos 0) a
called_quiet m a L q g s =
    called_line m a L false q.set q.carry g s.move
    (λ k. ap (λ (p : Plan). p.distance k) s.next ∙ q.distance k (m.next.distance k))
    (λ k. ap (λ (p : Plan). p.minus k) s.next ∙ q.minus k (m.next.minus k))
    (λ k. kept m a s.position k ∙ ap (λ (b : Bool). cond b (pos 0) (m.position k +ℤ pos 0)) q.reset)

pub called_distance : (m a : Machine) (j d : ℕ) (s : Bool) → Good m.move → m.move.moving ≡ false
    → a.next ≡ set_axis m.next j s d → a.move ≡ replans m.move → a.position ≡ m.position
    → Called m (distance_line j s d) untried false false (λ k. pos 0) a
called_distance m a j d s g e n v p = record {
  good = subst Good (sym v)
      (record { axis = g.axis; under = g.under; fixed = λ q. true_false m.move.moving q e });
  next_distance = λ k. ap (λ (x : Plan). x.distance k) n;
  next_minus = λ k. ap (λ (x : Plan). x.minus k) n;
  distance = λ k. ap (λ (x : Move). x.plan.distance k) v;
  minus = λ k. ap (λ (x : Move). x.plan.minus k) v;
  master = ap (λ (x : Move). x.master) v;
  count = λ k h. ap (λ (x : Move). x.travel k) v ∙ no_pulse (m.move.travel k);
  ticks = λ q. ap (λ (x : Move). x.ticks) v;
  sum = kept m a p;
  single = λ k h. omega arith;
  sign = λ k h q. absurd (omega arith);
  positive = λ q. true_false false q refl;
  goes = ap (λ (x : Move). x.moving) v ∙ and_self m.move.moving false;
  stopped = λ q. ap (λ (x : Move). x.stopping) v;
  replanned = ap (λ (x : Move). x.replanned) v;
  idle = λ q r k h. ap (λ (x : Move). x.travel k) v;
  ending = λ q h r u. true_false false q refl;
}

pub called_reset : (m a : Machine) → Good m.move → a.next ≡ m.next → a.move ≡ m.move → a.position ≡ (λ k. pos 0)
    → Called m reset_order untried false false (λ k. pos 0) a
called_reset m a g n v p =
    called_line m a reset_order false refl refl g v (λ k. ap (λ (x : Plan). x.distance k) n)
    (λ k. ap (λ (x : Plan). x.minus k) n) (λ k. ap (λ (x : ℕ → ℤ). x k) p)

-- Order 9, with or without a running move.
pub called_stop : (m a : Machine) → Good m.move → (t : Bool) → m.move.moving ≡ t → a.next ≡ m.next
    → a.move ≡ cond t (stopping m.move) m.move → a.position ≡ m.position
    → Called m stop_order untried t false (λ k. pos 0) a
called_stop m a g true e n v p = record {
  good = subst Good (sym v) (record { axis = g.axis; under = g.under; fixed = g.fixed });
  next_distance = λ k. ap (λ (x : Plan). x.distance k) n;
  next_minus = λ k. ap (λ (x : Plan). x.minus k) n;
  distance = λ k. ap (λ (x : Move). x.plan.distance k) v;
  minus = λ k. ap (λ (x : Move). x.plan.minus k) v;
  master = ap (λ (x : Move). x.master) v;
  count = λ k h. ap (λ (x : Move). x.travel k) v ∙ no_pulse (m.move.travel k);
  ticks = λ q. ap (λ (x : Move). x.ticks) v;
  sum = λ k. ap (λ (x : ℕ → ℤ). x k) p ∙ sym (+ℤ_idr (m.position k));
  single = λ k h. omega arith;
  sign = λ k h q. absurd (omega arith);
  positive = λ q. true_false false q refl;
  goes = ap (λ (x : Move). x.moving) v ∙ and_self m.move.moving false;
  stopped = λ q. ap (λ (x : Move). x.stopping) v;
  replanned = ap (λ (x : Move). x.replanned) v;
  idle = λ q r. true_false m.move.moving e r;
  ending = λ q h r u. true_false false q refl;
}
called_stop m a g false e n v p =
    called_line m a stop_order false refl refl g v (λ k. ap (λ (x : Plan). x.distance k) n)
    (λ k. ap (λ (x : Plan). x.minus k) n) (kept m a p)

-- A carry-on.
pub called_carry : (m a : Machine) → Good m.move → Resumable m → m.move.moving ≡ false → a.next ≡ m.next
    → a.move ≡ onwards m.move → a.position ≡ m.position
    → Called m carry_order untried false false (λ k. pos 0) a
called_carry m a g r e n v p = record {
  good = subst Good (sym v) (good_onwards m g r);
  next_distance = λ k. ap (λ (x : Plan). x.distance k) n;
  next_minus = λ k. ap (λ (x : Plan). x.minus k) n;
  distance = λ k. ap (λ (x : Move). x.plan.distance k) v;
  minus = λ k. ap (λ (x : Move). x.plan.minus k) v;
  master = ap (λ (x : Move). x.master) v;
  count = λ k h. ap (λ (x : Move). x.travel k) v ∙ no_pulse (m.move.travel k);
  ticks = λ q. ap (λ (x : Move). x.ticks) v;
  sum = kept m a p;
  single = λ k h. omega arith;
  sign = λ k h q. absurd (omega arith);
  positive = λ q. true_false false q refl;
  goes = ap (λ (x : Move). x.moving) v;
  stopped = λ q. ap (λ (x : Move). x.stopping) v;
  replanned = ap (λ (x : Move). x.replanned) v;
  idle = λ q. true_false true refl q;
  ending = λ q. true_false false q refl;
}
