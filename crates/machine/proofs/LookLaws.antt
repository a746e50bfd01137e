-- A tick before its pulses: a waiting start that begins, a stop, and what a start sets of a move. Assumes nothing.
use Prim.Native.Nat.{ℕ, ◌<◌}
use mathlib.Core.Bool.{Bool, true, false, cond, not, ◌&&◌, ◌||◌}
use mathlib.Core.Path.{◌≡◌, refl, sym, ap, subst, ◌∙◌}
use borrow.Author.Tests.{eqb-true}
use lib.Dec.{eqb}
use Rattle.laws.proofs.Tests.{true_false}
use Rattle.machine.specs.State.{Plan, Move, Machine, Waiting, none, start, with_move, with_flags}
use Rattle.machine.specs.Shares.{whole}
use Rattle.machine.specs.Stops.{cause, limit_or_watch, stops, stopping, marks, sensor_active}
use Rattle.machine.specs.Starts.{start_number, new_move}
use Rattle.machine.specs.Steps.{
  Tried,
  untried,
  failed,
  began,
  try_start,
  try_waiting,
  tries,
  runs_out,
  waits,
  failure,
}
use Rattle.machine.specs.Roles.{named, begins, at_start}
use Rattle.machine.proofs.Runs.{Good}
use Rattle.machine.proofs.CalledLaws.{Same}
use Rattle.machine.proofs.ReadyLaws.{ready, good_new}

-- The machine as the stop causes look at it: a waiting start has begun, or nothing of the moves has changed.
pub record Looked (m : Machine) (S : Tried) (l : Machine) : Type 0 where
  pub good : Good l.move
  pub next : l.next ≡ m.next
  pub position : l.position ≡ m.position
  pub move : l.move ≡ at_start S (λ j. new_move m.next j) m.move
  pub positive : begins S ≡ true → 0 < whole l.move

-- What takes effect of a stored start w that came to S.
abbrev effective : Tried → Waiting → Tried
effective S w = cond (eqb (failure S) 0) (named w) untried

looked_start : (m t : Machine) (k : ℕ) → Good m.move → Same m t
    → Looked m (effective (try_start t k) (start k)) (waits t (try_start t k))
looked_start m t k g s =
    when (eqb (start_number t k) 0) refl
  where
    when : (b : Bool) → eqb (start_number t k) 0 ≡ b
        → Looked m (effective (cond b (began k) (failed (start_number t k))) (start k))
        (waits t (cond b (began k) (failed (start_number t k))))
    when true e =
        let r = ready t k (eqb-true (start_number t k) 0 e) in
        record {
          good = good_new t k r;
          next = s.next;
          position = s.position;
          move = ap (λ (p : Plan). new_move p k) s.next;
          positive = λ q. r.positive;
        }
    when false e =
        subst (λ (b : Bool). Looked m (cond b (began k) untried) (waits t (failed (start_number t k)))) (sym e)
        (record {
          good = subst Good (sym s.move) g;
          next = s.next;
          position = s.position;
          move = s.move;
          positive = λ q. true_false false q refl;
        })

looked_waiting : (m t : Machine) (w : Waiting) → Good m.move → Same m t
    → Looked m (effective (try_waiting t w) w) (waits t (try_waiting t w))
looked_waiting m t none g s = record {
  good = subst Good (sym s.move) g;
  next = s.next;
  position = s.position;
  move = s.move;
  positive = λ q. true_false false q refl;
}
looked_waiting m t (start k) g s = looked_start m t k g s

pub looked : (m t : Machine) → Good m.move → Same m t
    → Looked m (cond (eqb (failure (tries t)) 0) (cond (runs_out t) (named t.pause.waiting) untried) untried)
    (waits t (tries t))
looked m t g s = when (runs_out t)
  where
    when : (r : Bool)
        → Looked m (cond (eqb (failure (cond r (try_waiting t t.pause.waiting) untried)) 0)
        (cond r (named t.pause.waiting) untried) untried)
        (waits t (cond r (try_waiting t t.pause.waiting) untried))
    when true = looked_waiting m t t.pause.waiting g s
    when false = looked_waiting m t none g s

-- A stop, begun or not.
pub record Stopped (l : Machine) (P : Bool) (s : Machine) : Type 0 where
  pub good : Good s.move
  pub next : s.next ≡ l.next
  pub position : s.position ≡ l.position
  pub plan : s.move.plan ≡ l.move.plan
  pub master : s.move.master ≡ l.move.master
  pub travel : s.move.travel ≡ l.move.travel
  pub ticks : s.move.ticks ≡ l.move.ticks
  pub moving : s.move.moving ≡ l.move.moving
  pub stopping : s.move.stopping ≡ P || l.move.stopping
  pub replanned : s.move.replanned ≡ l.move.replanned

pub stopped_is : (l : Machine) → Good l.move → Stopped l (cause l) (stops l)
stopped_is l g = when (cause l)
  where
    when : (t : Bool) → Stopped l t
        (cond t (with_flags (with_move l (stopping l.move)) (marks l.flags (limit_or_watch l) (sensor_active l))) l)
    when true = record {
      good = record { axis = g.axis; under = g.under; fixed = g.fixed };
      next = refl;
      position = refl;
      plan = refl;
      master = refl;
      travel = refl;
      ticks = refl;
      moving = refl;
      stopping = refl;
      replanned = refl;
    }
    when false = record {
      good = g;
      next = refl;
      position = refl;
      plan = refl;
      master = refl;
      travel = refl;
      ticks = refl;
      moving = refl;
      stopping = refl;
      replanned = refl;
    }

pub start_plan : (S : Tried) (p : Plan) (v : Move) (k : ℕ)
    → (at_start S (λ j. new_move p j) v).plan.distance k ≡ at_start S (λ j. p.distance k) (v.plan.distance k)
start_plan untried p v k = refl
start_plan (failed n) p v k = refl
start_plan (began j) p v k = refl

pub start_minus : (S : Tried) (p : Plan) (v : Move) (k : ℕ)
    → (at_start S (λ j. new_move p j) v).plan.minus k ≡ at_start S (λ j. p.minus k) (v.plan.minus k)
start_minus untried p v k = refl
start_minus (failed n) p v k = refl
start_minus (began j) p v k = refl

pub start_master : (S : Tried) (p : Plan) (v : Move) → (at_start S (λ j. new_move p j) v).master ≡ at_start S (λ j. j)
    v.master
start_master untried p v = refl
start_master (failed n) p v = refl
start_master (began j) p v = refl

pub start_travel : (S : Tried) (p : Plan) (v : Move) (k : ℕ)
    → (at_start S (λ j. new_move p j) v).travel k ≡ cond (begins S) 0 (v.travel k)
start_travel untried p v k = refl
start_travel (failed n) p v k = refl
start_travel (began j) p v k = refl

pub start_ticks : (S : Tried) (p : Plan) (v : Move)
    → (at_start S (λ j. new_move p j) v).ticks ≡ cond (begins S) 0 v.ticks
start_ticks untried p v = refl
start_ticks (failed n) p v = refl
start_ticks (began j) p v = refl

pub start_moving : (S : Tried) (p : Plan) (v : Move) → (at_start S (λ j. new_move p j) v).moving ≡ begins S || v.moving
start_moving untried p v = refl
start_moving (failed n) p v = refl
start_moving (began j) p v = refl

pub start_stopping : (S : Tried) (p : Plan) (v : Move)
    → (at_start S (λ j. new_move p j) v).stopping ≡ not (begins S) && v.stopping
start_stopping untried p v = refl
start_stopping (failed n) p v = refl
start_stopping (began j) p v = refl

pub start_replanned : (S : Tried) (p : Plan) (v : Move)
    → (at_start S (λ j. new_move p j) v).replanned ≡ not (begins S) && v.replanned
start_replanned untried p v = refl
start_replanned (failed n) p v = refl
start_replanned (began j) p v = refl

-- Whether a move runs or begins in the tick.
pub looked_moving : (m l s : Machine) (S : Tried) (P : Bool) → Looked m S l → Stopped l P s
    → s.move.moving ≡ begins S || m.move.moving
looked_moving m l s S P lk st =
    st.moving ∙ (ap (λ (v : Move). v.moving) lk.move ∙ start_moving S m.next m.move)
