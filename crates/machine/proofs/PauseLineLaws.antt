-- What a received byte does to the dwell and the stored start, and to the dwell set. Assumes nothing.
use Rattle.std.proofs.Common.{Option}
use Prim.Native.Nat.{ℕ}
use mathlib.Core.Bool.{Bool, true, false, cond, ◌||◌}
use mathlib.Core.List.{List}
use mathlib.Core.Path.{◌≡◌, refl}
use lib.Dec.{leb, eqb}
use Rattle.laws.proofs.Pick.{by_bool}
use Rattle.line.specs.declared.command.Command.{Command}
use Rattle.line.specs.declared.command.Command.TheVariants as C
use Rattle.line.proofs.Ranges.{by_code}
use Rattle.machine.specs.State.{Machine, none, start, Pause}
use Rattle.machine.specs.Starts.{begun}
use Rattle.machine.specs.Commands.{does, stores, drops, keeps_start, obeys}
use Rattle.machine.specs.Steps.{Outcome, refused, outcome, answered, heard_by, untried, began}
use Rattle.machine.specs.Roles.{
  Role,
  other,
  dwell_line,
  role_of,
  role_by,
  carries_by,
  begins,
  start_by,
  waiting_by,
  dwell_by,
}
use Rattle.machine.proofs.Outcomes.{by_outcome}

-- What a line L leaves of the pause: a carry-on and a start that takes effect end the dwell.
abbrev pause_by : Pause → Role → Pause
pause_by p L = record { left = cond (carries_by L || begins (start_by p L)) 0 p.left; waiting = waiting_by p L }

does_pause : (m : Machine) (b : ℕ) (c : Command)
    → (does (heard_by m b) c).pause
    ≡ pause_by m.pause (role_of c)
does_pause m b (C.Distance k s d) = refl
does_pause m b (C.Set code v) = when (eqb code 10)
  where
    when : (t : Bool) → m.pause ≡ pause_by m.pause (cond t (dwell_line v) other)
    when true = refl
    when false = refl
does_pause m b (C.Start k w) = when (stores m w)
  where
    when : (t : Bool)
        → (cond t (keeps_start (heard_by m b) k) (begun (heard_by m b) k)).pause
        ≡ record { left = cond (begins (cond t untried (began k))) 0 m.pause.left; waiting = cond t (start k) none }
    when true = refl
    when false = refl
does_pause m b (C.Order code) =
    by_code (λ (k : ℕ). (obeys (heard_by m b) k).pause
    ≡ pause_by m.pause (role_of (C.Order k)))
    (by_bool (λ (a : Machine). (drops a).pause ≡ record { left = m.pause.left; waiting = none }) m.move.moving _ _
    (λ e. refl) (λ e. refl))
    refl refl refl (λ k p q r t. rw (p, q, r, t)) code
does_pause m b (C.Outputs v) = refl
does_pause m b (C.Read r) = refl

does_dwell : (m : Machine) (c : Command) → (does m c).settings.dwell ≡ dwell_by (role_of c) m.settings.dwell
does_dwell m (C.Distance k s d) = refl
does_dwell m (C.Set code v) = when (eqb code 10)
  where
    when : (t : Bool)
        → cond t v m.settings.dwell ≡ dwell_by (cond t (dwell_line v) other) m.settings.dwell
    when true = refl
    when false = refl
does_dwell m (C.Start k w) =
    by_bool (λ (a : Machine). a.settings.dwell ≡ m.settings.dwell) (stores m w) _ _ (λ e. refl) (λ e. refl)
does_dwell m (C.Order code) =
    by_code (λ (k : ℕ). (obeys m k).settings.dwell ≡ dwell_by (role_of (C.Order k)) m.settings.dwell)
    (by_bool (λ (a : Machine). (drops a).settings.dwell ≡ m.settings.dwell) m.move.moving _ _
    (λ e. refl) (λ e. refl))
    refl refl refl (λ k p q r t. rw (p, q, r, t)) code
does_dwell m (C.Outputs v) = refl
does_dwell m (C.Read r) = refl

-- A byte whose outcome is o.
pub record Byte (m : Machine) (b : ℕ) (o : Outcome) : Type 0 where
  pub pause : (answered m b o).machine.pause
      ≡ pause_by m.pause (role_by o)
  pub dwell : (answered m b o).machine.settings.dwell ≡ dwell_by (role_by o) m.settings.dwell

refused_pause : (m : Machine) (b n : ℕ) (silent : Bool) (ident : Option ℕ) → Byte m b (refused n silent ident)
refused_pause m b n silent ident = record {
  pause = by_bool (λ (a : Machine). a.pause ≡ m.pause) (leb 10 n) _ _ (λ e. refl) (λ e. refl);
  dwell = by_bool (λ (a : Machine). a.settings.dwell ≡ m.settings.dwell) (leb 10 n) _ _ (λ e. refl) (λ e. refl);
}

pub byte_pause : (m : Machine) (b : ℕ) (buffer : List ℕ) → Byte m b (outcome m b buffer)
byte_pause m b =
    by_outcome m (Byte m b) (record { pause = refl; dwell = refl }) (record { pause = refl; dwell = refl })
    (refused_pause m b)
    (λ c digits silent ident e. record { pause = does_pause m b c; dwell = does_dwell (heard_by m b) c }) b
