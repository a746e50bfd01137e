-- The stages of a tick: what each does to the dwell and the stored start. Assumes nothing.
use Prim.Native.Nat.{ℕ, ◌+◌, ◌-◌, ◌*◌}
use mathlib.Core.Bool.{Bool, true, false, cond, not, ◌&&◌, ◌||◌}
use mathlib.Core.Path.{◌≡◌, refl, sym, ap, subst, ◌∙◌}
use borrow.Author.Tests.{not-false}
use lib.Dec.{ltb, leb, eqb}
use Rattle.laws.proofs.Pick.{by_bool}
use Rattle.machine.specs.State.{Machine, Waiting, none, start, Pause}
use Rattle.machine.specs.Shares.{whole, gone}
use Rattle.machine.specs.Ramp.{Ran, full, ramped, runs}
use Rattle.machine.specs.Stops.{cause, stops}
use Rattle.machine.specs.Starts.{start_number}
use Rattle.machine.specs.Steps.{
  Tried,
  untried,
  failed,
  began,
  try_start,
  try_waiting,
  tries,
  runs_out,
  waits,
  failure,
}
use Rattle.machine.specs.Roles.{begins, named}

-- What takes effect of the waiting start w that came to S, r telling that the dwell runs out.
abbrev pub effective : Bool → Tried → Waiting → Tried
effective r S w = cond (eqb (failure S) 0) (cond r (named w) untried) untried

-- A tick up to the stop causes: l is left of t, with the start S.
pub record Looked (t : Machine) (r : Bool) (S : Tried) (l : Machine) : Type 0 where
  pub left : l.pause.left ≡ cond (begins S) 0 (t.pause.left - 1)
  pub waiting : l.pause.waiting ≡ cond r none t.pause.waiting
  pub moving : l.move.moving ≡ begins S || t.move.moving
  pub dwell : l.settings.dwell ≡ t.settings.dwell

looked_start : (t : Machine) (k : ℕ) → Looked t true (effective true (try_start t k) (start k)) (waits t (try_start t k))
looked_start t k = when (eqb (start_number t k) 0) refl
  where
    when : (b : Bool) → eqb (start_number t k) 0 ≡ b
        → Looked t true (effective true (cond b (began k) (failed (start_number t k))) (start k))
        (waits t (cond b (began k) (failed (start_number t k))))
    when true e = record { left = refl; waiting = refl; moving = refl; dwell = refl }
    when false e =
        subst (λ (b : Bool). Looked t true (cond b (began k) untried) (waits t (failed (start_number t k)))) (sym e)
        (record { left = refl; waiting = refl; moving = refl; dwell = refl })

looked_waiting : (t : Machine) (w : Waiting) → t.pause.waiting ≡ w
    → Looked t true (effective true (try_waiting t w) w) (waits t (try_waiting t w))
looked_waiting t none e = record { left = refl; waiting = e; moving = refl; dwell = refl }
looked_waiting t (start k) e = looked_start t k

pub looked : (t : Machine)
    → Looked t (runs_out t) (effective (runs_out t) (tries t) t.pause.waiting) (waits t (tries t))
looked t = when (runs_out t)
  where
    when : (r : Bool)
        → Looked t r (effective r (cond r (try_waiting t t.pause.waiting) untried) t.pause.waiting)
        (waits t (cond r (try_waiting t t.pause.waiting) untried))
    when true = looked_waiting t t.pause.waiting refl
    when false = record { left = refl; waiting = refl; moving = refl; dwell = refl }

-- A stop alters none of it.
pub record Same (l a : Machine) : Type 0 where
  pub pause : a.pause ≡ l.pause
  pub moving : a.move.moving ≡ l.move.moving
  pub dwell : a.settings.dwell ≡ l.settings.dwell

pub stops_same : (l : Machine) → Same l (stops l)
stops_same l =
    by_bool (Same l) (cause l) _ _
    (λ e. record { pause = refl; moving = refl; dwell = refl })
    (λ e. record { pause = refl; moving = refl; dwell = refl })

-- The ramp: the dwell starts where the move ends.
pub still : (b : Bool) (x y : ℕ) → y ≡ cond (b && not b) x y
still true x y = refl
still false x y = refl

at_end : (b : Bool) (x y : ℕ) → b ≡ true → x ≡ cond (b && true) x y
at_end b x y e = rw e refl

pub record Ramped (s : Machine) (a : Machine) : Type 0 where
  pub left : a.pause.left
      ≡ cond (s.move.moving && not a.move.moving) (250 * s.settings.dwell) s.pause.left
  pub waiting : a.pause.waiting ≡ s.pause.waiting
  pub dwell : a.settings.dwell ≡ s.settings.dwell

module _ (s : Machine) where
  ramp_still : (a : Machine) → a.pause ≡ s.pause → a.move.moving ≡ s.move.moving
      → a.settings.dwell ≡ s.settings.dwell → Ramped s a
  ramp_still a p v d = record {
    left = ap (λ (x : Pause). x.left) p
        ∙ (still s.move.moving (250 * s.settings.dwell) s.pause.left
        ∙ ap (λ (b : Bool). cond (s.move.moving && not b) (250 * s.settings.dwell) s.pause.left) (sym v));
    waiting = ap (λ (x : Pause). x.waiting) p;
    dwell = d;
  }

  pub runs_pause : Ramped s (runs s).machine
  runs_pause =
      by_bool P (not s.move.moving) _ _ (λ e. ramp_still s refl refl refl)
      (λ e. by_bool P (s.move.stopping && leb s.move.speed s.settings.slope) _ _
      (λ f. record { left = at_end s.move.moving _ _ (not-false _ e); waiting = refl; dwell = refl })
      (λ f. by_bool P (ltb (s.move.phase + ramped s.settings s.move) full) _ _
      (λ g. ramp_still _ refl refl refl)
      (λ g. by_bool (Ramped s) (eqb (gone s.move + 1) (whole s.move)) _ _
      (λ h. record { left = at_end s.move.moving _ _ (not-false _ e); waiting = refl; dwell = refl })
      (λ h. ramp_still _ refl refl refl))))
    where
      P : Ran → Type 0
      P r = Ramped s r.machine
