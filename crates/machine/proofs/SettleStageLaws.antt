-- What a call does to the switch, the inputs, the general outputs and what is kept of a W line until its block. Assumes
-- nothing.
use Rattle.std.proofs.Common.{Option}
use Prim.Native.Nat.{ℕ, ◌+◌, ◌-◌}
use mathlib.Core.Bool.{Bool, true, false, cond, not, ◌&&◌}
use mathlib.Core.Path.{◌≡◌, refl, sym, subst, ◌∙◌}
use native.Mathlib.Omega.{arith}
use lib.Dec.{ltb, leb, eqb}
use Rattle.laws.proofs.Pick.{by_bool}
use Rattle.line.specs.declared.command.Command.{Command}
use Rattle.line.specs.declared.command.Command.TheVariants as C
use Rattle.line.specs.Codes.{is_w}
use Rattle.line.proofs.Ranges.{by_code}
use Rattle.machine.specs.State.{Settle, Machine, with_outputs}
use Rattle.machine.specs.Shares.{whole, gone}
use Rattle.machine.specs.Ramp.{Ran, full, ramped, runs}
use Rattle.machine.specs.Stops.{takes, cause, stops}
use Rattle.machine.specs.Commands.{does, stores, drops, obeys, turned}
use Rattle.machine.specs.Steps.{
  Outcome,
  accepted,
  answered,
  heard_by,
  Tried,
  untried,
  failed,
  began,
  tries,
  waits,
  looks,
}
use Rattle.machine.specs.Settle.{Latest, no_line, w_line, latest_by, ends_w, outputs_of, outputs_by}

-- None is altered.
pub record Kept (m a : Machine) : Type 0 where
  pub switch : a.switch ≡ m.switch
  pub settle : a.settle ≡ m.settle
  pub inputs : a.inputs ≡ m.inputs
  pub outputs : a.outputs ≡ m.outputs

-- ---- A tick

waits_kept : (m : Machine) (S : Tried) → Kept m (waits m S)
waits_kept m untried = record { switch = refl; settle = refl; inputs = refl; outputs = refl }
waits_kept m (failed n) = record { switch = refl; settle = refl; inputs = refl; outputs = refl }
waits_kept m (began k) = record { switch = refl; settle = refl; inputs = refl; outputs = refl }

stops_kept : (m : Machine) → Kept m (stops m)
stops_kept m =
    by_bool (Kept m) (cause m) _ _ (λ e. record { switch = refl; settle = refl; inputs = refl; outputs = refl })
    (λ e. record { switch = refl; settle = refl; inputs = refl; outputs = refl })

runs_kept : (m : Machine) → Kept m (runs m).machine
runs_kept m =
    by_bool P (not m.move.moving) _ _ (λ e. record { switch = refl; settle = refl; inputs = refl; outputs = refl })
    (λ e. by_bool P (m.move.stopping && leb m.move.speed m.settings.slope) _ _
    (λ f. record { switch = refl; settle = refl; inputs = refl; outputs = refl })
    (λ f. by_bool P (ltb (m.move.phase + ramped m.settings m.move) full) _ _
    (λ g. record { switch = refl; settle = refl; inputs = refl; outputs = refl })
    (λ g. by_bool (Kept m) (eqb (gone m.move + 1) (whole m.move)) _ _
    (λ h. record { switch = refl; settle = refl; inputs = refl; outputs = refl })
    (λ h. record { switch = refl; settle = refl; inputs = refl; outputs = refl }))))
  where
    P : Ran → Type 0
    P r = Kept m r.machine

-- After its inputs are taken a tick that is not turned away alters none.
pub ran_kept : (m : Machine) (w : ℕ) → Kept (takes m w) (runs (stops (looks m w))).machine
ran_kept m w =
    let l = waits_kept (takes m w) (tries (takes m w)) in
    let s = stops_kept (looks m w) in
    let r = runs_kept (stops (looks m w)) in
    record {
      switch = r.switch ∙ (s.switch ∙ l.switch);
      settle = r.settle ∙ (s.settle ∙ l.settle);
      inputs = r.inputs ∙ (s.inputs ∙ l.inputs);
      outputs = r.outputs ∙ (s.outputs ∙ l.outputs);
    }

-- ---- A received byte

-- What a command alters of them: W with six digits the outputs.
does_kept : (m : Machine) (c : Command) → Kept (with_outputs m (outputs_of c m.outputs)) (does m c)
does_kept m (C.Distance k s d) = record { switch = refl; settle = refl; inputs = refl; outputs = refl }
does_kept m (C.Set code v) = record { switch = refl; settle = refl; inputs = refl; outputs = refl }
does_kept m (C.Start k w) =
    by_bool (Kept m) (stores m w) _ _ (λ e. record { switch = refl; settle = refl; inputs = refl; outputs = refl })
    (λ e. record { switch = refl; settle = refl; inputs = refl; outputs = refl })
does_kept m (C.Order code) =
    by_code (λ (k : ℕ). Kept m (obeys m k))
    (by_bool (λ (a : Machine). Kept m (drops a)) m.move.moving _ _
    (λ e. record { switch = refl; settle = refl; inputs = refl; outputs = refl })
    (λ e. record { switch = refl; settle = refl; inputs = refl; outputs = refl }))
    (record { switch = refl; settle = refl; inputs = refl; outputs = refl })
    (record { switch = refl; settle = refl; inputs = refl; outputs = refl })
    (record { switch = refl; settle = refl; inputs = refl; outputs = refl })
    (λ k p q r t. rw (p, q, r, t) (record { switch = refl; settle = refl; inputs = refl; outputs = refl })) code
does_kept m (C.Outputs v) = record { switch = refl; settle = refl; inputs = refl; outputs = refl }
does_kept m (C.Read r) = record { switch = refl; settle = refl; inputs = refl; outputs = refl }

pub turned_kept : (m : Machine) (n : ℕ) → Kept m (turned m n)
turned_kept m n =
    by_bool (Kept m) (leb 10 n) _ _ (λ e. record { switch = refl; settle = refl; inputs = refl; outputs = refl })
    (λ e. record { switch = refl; settle = refl; inputs = refl; outputs = refl })

-- ---- Against the list

-- What is kept of a W line, against the latest accepted one l and the n accepted ticks since it.
abbrev pub Waits : Settle → Latest → ℕ → Type 0
Waits x no_line n = x.left ≡ 0
Waits x (w_line true ident) n = x.left ≡ 0
Waits x (w_line false ident) n = (x.left ≡ 2500 - n) × (x.ident ≡ ident)

-- One tick more.
pub waits_tick : (x : Settle) (l : Latest) (n : ℕ) → Waits x l n
    → Waits (record { left = x.left - 1; ident = x.ident }) l (n + 1)
waits_tick x no_line n e = omega (arith, e)
waits_tick x (w_line true ident) n e = omega (arith, e)
waits_tick x (w_line false ident) n e = let q = e.0 in (omega (arith, q), e.1)

-- A byte whose outcome is o.
pub record Byte (m : Machine) (b : ℕ) (l : Latest) (n : ℕ) (o : Outcome) : Type 0 where
  pub switch : (answered m b o).machine.switch ≡ m.switch
  pub inputs : (answered m b o).machine.inputs ≡ m.inputs
  pub outputs : (answered m b o).machine.outputs ≡ outputs_by o m.outputs
  pub waits : Waits (answered m b o).machine.settle (latest_by o l) (cond (ends_w o) 0 n)

pub accepted_waits : (m : Machine) (b : ℕ) (l : Latest) (n : ℕ) → Waits m.settle l n
    → (c : Command) (digits : ℕ) (silent : Bool) (ident : Option ℕ) → Byte m b l n (accepted c digits silent ident)
accepted_waits m b l n e c digits silent ident =
    let k = does_kept (heard_by m b) c in
    record { switch = k.switch; inputs = k.inputs; outputs = k.outputs; waits = when (is_w c) silent }
  where
    when : (t q : Bool)
        → Waits (cond t (record { left = cond q 0 2500; ident = ident }) (does (heard_by m b) c).settle)
        (cond t (w_line q ident) l) (cond t 0 n)
    when true true = refl
    when true false = (refl, refl)
    when false q = subst (λ (x : Settle). Waits x l n) (sym (does_kept (heard_by m b) c).settle) e
