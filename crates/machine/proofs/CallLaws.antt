-- What one call, a byte or a tick, does to the latest move, the next one and the positions. Assumes nothing.
use Prim.Native.Nat.{ℕ, ◌+◌, ◌<◌}
use mathlib.Core.Bool.{Bool, true, false, cond, not, ◌&&◌, ◌||◌}
use mathlib.Core.List.{List}
use mathlib.Core.Path.{◌≡◌, refl, sym, ap, subst, ◌∙◌}
use lib.Dec.{eqb}
use lib.IntN.{ℤ, ◌+ℤ◌}
use Rattle.laws.specs.Axes.{directed}
use Rattle.laws.proofs.Tests.{true_false}
use Rattle.machine.specs.State.{Plan, Move, Machine}
use Rattle.machine.specs.Shares.{whole}
use Rattle.machine.specs.Ramp.{runs}
use Rattle.machine.specs.Stops.{takes, cause, stops}
use Rattle.machine.specs.Steps.{Tried, untried, tries, runs_out, looks, failure, is_short, too_large, tick_by}
use Rattle.machine.specs.Calls.{Call, byte, tick, after}
use Rattle.machine.specs.Roles.{other, line_of, named, takes_effect, stops_in, sent, is_tick, begins, at_start}
use Rattle.machine.specs.List.{is_pulse}
use Rattle.machine.proofs.Runs.{Good, Runs, no_pulse}
use Rattle.machine.proofs.RunLaws.{runs_is}
use Rattle.machine.proofs.CalledLaws.{Called, called_same}
use Rattle.machine.proofs.LineLaws.{called_byte}
use Rattle.machine.proofs.LookLaws.{
  Looked,
  looked,
  Stopped,
  stopped_is,
  start_plan,
  start_minus,
  start_master,
  start_travel,
  looked_moving,
  start_stopping,
  start_replanned,
}

falls : (x y : Bool) → (x ≡ false → y ≡ false) → y ≡ x && y
falls true y h = refl
falls false y h = h refl

-- The three stages of a tick, joined.
called_run : (m l s a : Machine) (S : Tried) (P : Bool) (z : ℕ → ℤ) → Looked m S l → Stopped l P s → Runs s z a
    → Called m other S P true z a
called_run m l s a S P z lk st rn = record {
  good = rn.good;
  next_distance = λ k. ap (λ (p : Plan). p.distance k) next;
  next_minus = λ k. ap (λ (p : Plan). p.minus k) next;
  distance = λ k. ap (λ (p : Plan). p.distance k) (rn.plan ∙ st.plan)
      ∙ (ap (λ (v : Move). v.plan.distance k) lk.move ∙ start_plan S m.next m.move k);
  minus = λ k. minus k;
  master = rn.master ∙ (st.master ∙ (ap (λ (v : Move). v.master) lk.move ∙ start_master S m.next m.move));
  ticks = λ q. true_false true refl q;
  count = λ k h. rn.count k h ∙ ap (λ (n : ℕ). n + is_pulse (z k)) (travel k);
  sum = λ k. rn.sum k ∙ ap (λ (p : ℕ → ℤ). p k +ℤ z k) (st.position ∙ lk.position);
  single = rn.single;
  sign = λ k h q. rn.sign k h q ∙ ap (λ (p : Plan). directed (p.minus k) 1) (sym rn.plan);
  positive = λ q. subst (λ (n : ℕ). 0 < n) (sym size) (lk.positive q);
  goes = falls (begins S || m.move.moving) a.move.moving (λ q. rn.still (moving ∙ q));
  stopped = λ q. rn.stopping q ∙ stop;
  replanned = rn.replanned ∙ (st.replanned
      ∙ (ap (λ (v : Move). v.replanned) lk.move ∙ start_replanned S m.next m.move));
  idle = λ p q k h. rn.count k h
      ∙ (ap (λ (y : ℤ). s.move.travel k + is_pulse y) (rn.rests (moving ∙ neither p q) k)
      ∙ (sym (no_pulse (s.move.travel k)) ∙ (travel k ∙ ap (λ (b : Bool). cond b 0 (m.move.travel k)) p)));
  ending = λ q p r u. rn.ending (moving ∙ p) (stop ∙ u) r;
}
  where
    next : a.next ≡ m.next
    next = rn.next ∙ (st.next ∙ lk.next)

    minus : (k : ℕ) → a.move.plan.minus k ≡ at_start S (λ j. m.next.minus k) (m.move.plan.minus k)
    minus k = ap (λ (p : Plan). p.minus k) (rn.plan ∙ st.plan)
        ∙ (ap (λ (v : Move). v.plan.minus k) lk.move ∙ start_minus S m.next m.move k)

    travel : (k : ℕ) → s.move.travel k ≡ cond (begins S) 0 (m.move.travel k)
    travel k = ap (λ (f : ℕ → ℕ). f k) st.travel
        ∙ (ap (λ (v : Move). v.travel k) lk.move ∙ start_travel S m.next m.move k)

    moving : s.move.moving ≡ begins S || m.move.moving
    moving = looked_moving m l s S P lk st

    stop : s.move.stopping ≡ P || (not (begins S) && m.move.stopping)
    stop = st.stopping ∙ ap (λ (b : Bool). P || b)
        (ap (λ (v : Move). v.stopping) lk.move ∙ start_stopping S m.next m.move)

    size : whole a.move ≡ whole l.move
    size = (λ i. (rn.plan i).distance (rn.master i)) ∙ (λ i. (st.plan i).distance (st.master i))

    neither : begins S ≡ false → m.move.moving ≡ false → begins S || m.move.moving ≡ false
    neither p q = ap (λ (b : Bool). b || m.move.moving) p ∙ q

pub called_tick : (m : Machine) (w : ℕ) (d : List ℕ) → Good m.move
    → Called m other (takes_effect m m.pause (tick w d)) (stops_in m (tick w d)) true (sent m (tick w d))
    (after m (tick w d))
called_tick m w d g = when (is_short d) (too_large w)
  where
    S : Tried
    S = cond (runs_out (takes m w)) (named m.pause.waiting) untried

    goes : Called m other (cond (eqb (failure (tries (takes m w))) 0) S untried) (cause (looks m w)) true
        (runs (stops (looks m w))).pulse (runs (stops (looks m w))).machine
    goes =
        let lk = looked m (takes m w) g (record { next = refl; move = refl; position = refl }) in
        let st = stopped_is (looks m w) lk.good in
        called_run m (looks m w) (stops (looks m w)) _ _ (cause (looks m w)) _ lk st
        (runs_is (stops (looks m w)) st.good)

    when : (a b : Bool)
        → Called m other (cond (eqb (tick_by m w a b).number 0) S untried) (cond (a || b) false (cause (looks m w)))
        true (λ k. (tick_by m w a b).pulse k) (tick_by m w a b).machine
    when true b = called_same m m true g (record { next = refl; move = refl; position = refl })
    when false true = called_same m m true g (record { next = refl; move = refl; position = refl })
    when false false = goes

pub called : (m : Machine) (x : Call) → Good m.move
    → Called m (line_of m x) (takes_effect m m.pause x) (stops_in m x) (is_tick x) (sent m x) (after m x)
called m (byte b buffer) g = called_byte m b buffer g
called m (tick w d) g = called_tick m w d g
