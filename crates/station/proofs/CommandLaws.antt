-- What a line with one of the converter's commands does, where it is accepted and begins no stop: to the next move, and
-- to where each axis will stand. Assumes nothing.
use Prim.Native.Nat.{ℕ, ◌≤◌, ◌<◌}
use mathlib.Core.Bool.{Bool, true, false, not, ◌&&◌}
use mathlib.Core.Path.{◌≡◌, refl, sym, ap, subst, ◌∙◌}
use native.Mathlib.Omega.{arith}
use borrow.Author.Tests.{eqb-true}
use lib.Dec.{eqb}
use lib.IntN.{ℤ, pos, ◌+ℤ◌, +ℤ_idr}
use Rattle.laws.specs.Axes.{directed}
use Rattle.laws.proofs.Tests.{true_false}
use Rattle.line.specs.declared.command.Command.{Command}
use Rattle.line.specs.declared.command.Command.TheVariants as C
use Rattle.machine.specs.State.{Plan, Pause, Machine}
use Rattle.machine.specs.Starts.{turned_by}
use Rattle.machine.specs.Commands.{number, own_number, set_axis}
use Rattle.machine.specs.Steps.{Tried}
use Rattle.machine.specs.Roles.{
  Role,
  other,
  stop_order,
  role_of,
  start_by,
  distance_by,
  minus_by,
  reset_by,
  carries_by,
  begins,
}
use Rattle.machine.proofs.CalledLaws.{Called}
use Rattle.machine.proofs.ListLaws.{by_flag}
use Rattle.station.proofs.DueLaws.{due, runs_on, kept, adds}

-- A command that resets no position, carries nothing on and stores no start.
abbrev pub is_plain : Command → Bool
is_plain (C.Distance k s d) = true
is_plain (C.Set code v) = eqb code 8
is_plain (C.Start k waits) = not waits
is_plain (C.Order code) = eqb code 9
is_plain (C.Outputs v) = true
is_plain (C.Read r) = true

-- The plan of the next move after it, and what it adds to where axis k will stand.
abbrev pub planned : Command → Plan → Plan
planned (C.Distance k s d) p = set_axis p k s d
planned (C.Set code v) p = p
planned (C.Start k waits) p = p
planned (C.Order code) p = p
planned (C.Outputs v) p = p
planned (C.Read r) p = p

abbrev pub added : Command → Plan → ℕ → ℤ
added (C.Distance j s d) p k = pos 0
added (C.Set code v) p k = pos 0
added (C.Start j waits) p k = directed (p.minus k) (p.distance k)
added (C.Order code) p k = pos 0
added (C.Outputs v) p k = pos 0
added (C.Read r) p k = pos 0

-- No move that runs is being stopped.
abbrev pub Unstopped : Machine → Type 0
Unstopped m = m.move.moving ≡ true → m.move.stopping ≡ false

-- Each travel is at most its distance.
abbrev pub Short : Machine → Type 0
Short a = (k : ℕ) → k < 5 → a.move.travel k ≤ a.move.plan.distance k

-- What a call leaves of m in a.
pub record Leaves (m a : Machine) (q : Plan) (add : ℕ → ℤ) : Type 0 where
  pub plan : a.next ≡ q
  pub dues : (k : ℕ) → k < 5 → due a k ≡ due m k +ℤ add k
  pub unstopped : Unstopped a

-- A call that begins no move.
pub idles : (m a : Machine) (L : Role) (S : Tried) (P t : Bool) (z : ℕ → ℤ) → Called m L S P t z a → Short a
    → carries_by L ≡ false → reset_by L ≡ false → P ≡ false → Unstopped m → begins S ≡ false
    → Leaves m a (record {
      distance = λ k. distance_by L k (m.next.distance k);
      minus = λ k. minus_by L k (m.next.minus k);
    }) (λ k. pos 0)
idles m a L S P t z c w carries resets stops u b = record {
  plan = λ i. record { distance = λ k. c.next_distance k i; minus = λ k. c.next_minus k i };
  dues = λ k l. kept m a L S P t z c k l (w k l) carries resets stops u b ∙ sym (+ℤ_idr (due m k));
  unstopped = runs_on m a L S P t z c 0 (omega arith) (w 0 (omega arith)) carries resets stops u;
}

-- An accepted line of a plain command.
pub obeys : (m a : Machine) (p : Pause) (c : Command) (P : Bool) → is_plain c ≡ true → number m c ≡ 0 → P ≡ false
    → Unstopped m → Short a → Called m (role_of c) (start_by p (role_of c)) P false (λ k. pos 0) a
    → Leaves m a (planned c m.next) (added c m.next)
obeys m a p (C.Distance k s d) P e n q u w c = idles m a _ _ P _ _ c w refl refl q u refl
obeys m a p (C.Set code v) P e n q u w c =
    idles m a other _ P _ _
    (subst (λ (x : ℕ). Called m (role_of (C.Set x v)) (start_by p (role_of (C.Set x v))) P false (λ k. pos 0) a)
    (eqb-true code 8 e) c) w refl refl q u refl
obeys m a p (C.Start j true) P e n q u w c = true_false false e refl
obeys m a p (C.Start j false) P e n q u w c = record {
  plan = λ i. record { distance = λ k. c.next_distance k i; minus = λ k. c.next_minus k i };
  dues = λ k l. adds m a _ _ P false _ c k l (w k l) refl refl q u refl refl refl rests;
  unstopped = runs_on m a _ _ P false _ c 0 (omega arith) (w 0 (omega arith)) refl refl q u;
}
  where
    rests : m.move.moving ≡ false
    rests = by_flag m.move.moving
        (λ r. let f = ap (λ (b : Bool). turned_by 11 (b && true) (own_number m (C.Start j false))) (sym r) ∙ n in
        absurd (omega (arith, f)))
        (λ r. r)
obeys m a p (C.Order code) P e n q u w c =
    idles m a stop_order _ P _ _
    (subst (λ (x : ℕ). Called m (role_of (C.Order x)) (start_by p (role_of (C.Order x))) P false (λ k. pos 0) a)
    (eqb-true code 9 e) c) w refl refl q u refl
obeys m a p (C.Outputs v) P e n q u w c = idles m a _ _ P _ _ c w refl refl q u refl
obeys m a p (C.Read r) P e n q u w c = idles m a _ _ P _ _ c w refl refl q u refl
