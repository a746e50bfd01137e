-- What one call does to the latest move, the next one and the positions, and the calls that leave the latest move
-- alone. Assumes nothing.
use Prim.Native.Nat.{ℕ, ◌+◌, ◌≤◌, ◌<◌}
use mathlib.Core.Bool.{Bool, true, false, cond, not, ◌&&◌, ◌||◌}
use mathlib.Core.Path.{◌≡◌, refl, sym, ap, subst, ◌∙◌}
use native.Mathlib.Omega.{arith}
use lib.IntN.{ℤ, pos, ◌+ℤ◌, +ℤ_idr, nat_abs}
use Rattle.laws.proofs.Tests.{true_false}
use Rattle.laws.specs.Axes.{directed}
use Rattle.machine.specs.State.{Plan, Move, Settle, Machine, with_settle}
use Rattle.machine.specs.Shares.{whole}
use Rattle.machine.specs.Steps.{Tried, untried}
use Rattle.machine.specs.Roles.{
  Role,
  other,
  reset_by,
  sets_distance,
  carries_by,
  distance_by,
  minus_by,
  begins,
  at_start,
}
use Rattle.machine.specs.List.{is_pulse}
use Rattle.machine.proofs.Runs.{Good, Whole, no_pulse}

-- A call on m that is to the list the line L, the start S and the stop P (t: it is a tick), answers z and leaves a.
pub record Called (m : Machine) (L : Role) (S : Tried) (P t : Bool) (z : ℕ → ℤ) (a : Machine) : Type 0 where
  pub good : Good a.move
  pub next_distance : (k : ℕ) → a.next.distance k ≡ distance_by L k (m.next.distance k)
  pub next_minus : (k : ℕ) → a.next.minus k ≡ minus_by L k (m.next.minus k)
  pub distance : (k : ℕ) → a.move.plan.distance k ≡ at_start S (λ j. m.next.distance k) (m.move.plan.distance k)
  pub minus : (k : ℕ) → a.move.plan.minus k ≡ at_start S (λ j. m.next.minus k) (m.move.plan.minus k)
  pub master : a.move.master ≡ at_start S (λ j. j) m.move.master
  pub count : (k : ℕ) → k < 5 → a.move.travel k ≡ cond (begins S) 0 (m.move.travel k) + is_pulse (z k)
  pub ticks : t ≡ false → a.move.ticks ≡ cond (carries_by L || begins S) 0 m.move.ticks
  pub sum : (k : ℕ) → a.position k ≡ cond (reset_by L) (pos 0) (m.position k +ℤ z k)
  pub single : (k : ℕ) → k < 5 → nat_abs (z k) ≤ 1
  pub sign : (k : ℕ) → k < 5 → 0 < nat_abs (z k) → z k ≡ directed (a.move.plan.minus k) 1
  pub positive : begins S ≡ true → 0 < whole a.move
  pub goes : a.move.moving ≡ ((carries_by L || begins S) || m.move.moving) && (not t || a.move.moving)
  pub stopped : a.move.moving ≡ true → a.move.stopping ≡ P || (not (carries_by L || begins S) && m.move.stopping)
  pub replanned : a.move.replanned ≡ sets_distance L || (not (begins S) && m.move.replanned)
  pub idle : carries_by L || begins S ≡ false → m.move.moving ≡ false → (k : ℕ) → k < 5
      → a.move.travel k ≡ m.move.travel k
  pub ending : t ≡ true → (carries_by L || begins S) || m.move.moving ≡ true → a.move.moving ≡ false
      → P || (not (carries_by L || begins S) && m.move.stopping) ≡ false → Whole a.move z

-- What a W line waits for plays no part in it.
pub called_settled : (m a : Machine) (x : Settle) {L : Role} {S : Tried} {P t : Bool} {z : ℕ → ℤ}
    → Called m L S P t z a → Called m L S P t z (with_settle a x)
called_settled m a x c = record {
  good = c.good;
  next_distance = c.next_distance;
  next_minus = c.next_minus;
  distance = c.distance;
  minus = c.minus;
  master = c.master;
  count = c.count;
  ticks = c.ticks;
  sum = c.sum;
  single = c.single;
  sign = c.sign;
  positive = c.positive;
  goes = c.goes;
  stopped = c.stopped;
  replanned = c.replanned;
  idle = c.idle;
  ending = c.ending;
}

-- A call that leaves the moves and the positions alone.
pub record Same (m a : Machine) : Type 0 where
  pub next : a.next ≡ m.next
  pub move : a.move ≡ m.move
  pub position : a.position ≡ m.position

pub and_self : (b t : Bool) → b ≡ b && (not t || b)
and_self true true = refl
and_self true false = refl
and_self false t = refl

-- A line L that is no distance line and no carry-on leaves the latest move alone, and does with plan and positions what
-- it says.
pub called_line : (m a : Machine) (L : Role) (t : Bool) → sets_distance L ≡ false → carries_by L ≡ false → Good m.move
    → a.move ≡ m.move
    → ((k : ℕ) → a.next.distance k ≡ distance_by L k (m.next.distance k))
    → ((k : ℕ) → a.next.minus k ≡ minus_by L k (m.next.minus k))
    → ((k : ℕ) → a.position k ≡ cond (reset_by L) (pos 0) (m.position k +ℤ pos 0))
    → Called m L untried false t (λ k. pos 0) a
called_line m a L t d c g v distances directions positions = record {
  good = subst Good (sym v) g;
  next_distance = distances;
  next_minus = directions;
  distance = λ k. ap (λ (x : Move). x.plan.distance k) v;
  minus = λ k. ap (λ (x : Move). x.plan.minus k) v;
  master = ap (λ (x : Move). x.master) v;
  count = λ k h. ap (λ (x : Move). x.travel k) v ∙ no_pulse (m.move.travel k);
  ticks = λ q. rw c (ap (λ (x : Move). x.ticks) v);
  sum = positions;
  single = λ k h. omega arith;
  sign = λ k h q. absurd (omega arith);
  positive = λ q. true_false false q refl;
  goes = rw c
      (same ∙ and_self m.move.moving t ∙ ap (λ (b : Bool). m.move.moving && (not t || b)) (sym same));
  stopped = λ q. rw c (ap (λ (x : Move). x.stopping) v);
  replanned = rw d (ap (λ (x : Move). x.replanned) v);
  idle = λ p q k h. ap (λ (x : Move). x.travel k) v;
  ending = λ q p r u. true_false m.move.moving (rw c at p) (sym same ∙ r);
}
  where
    same : a.move.moving ≡ m.move.moving
    same = ap (λ (x : Move). x.moving) v

-- Positions that no reset zeroes and no pulse moves.
pub kept : (m a : Machine) → a.position ≡ m.position → (k : ℕ) → a.position k ≡ m.position k +ℤ pos 0
kept m a p k = ap (λ (x : ℕ → ℤ). x k) p ∙ sym (+ℤ_idr (m.position k))

pub called_same : (m a : Machine) (t : Bool) → Good m.move → Same m a
    → Called m other untried false t (λ k. pos 0) a
called_same m a t g s =
    called_line m a other t refl refl g s.move (λ k. ap (λ (p : Plan). p.distance k) s.next)
    (λ k. ap (λ (p : Plan). p.minus k) s.next) (kept m a s.position)
