-- What a received byte does to the switch, the inputs, the general outputs and what is kept of a W line, by its outcome. A
-- file of its own, so that an edit of what an accepted line does is refused by that law alone. Assumes nothing.
use Prim.Native.Nat.{ℕ}
use mathlib.Core.List.{List}
use mathlib.Core.Path.{refl, sym, subst}
use Rattle.machine.specs.State.{Settle, Machine}
use Rattle.machine.specs.Steps.{outcome, heard_by}
use Rattle.machine.specs.Settle.{Latest}
use Rattle.machine.proofs.Outcomes.{by_outcome}
use Rattle.machine.proofs.SettleStageLaws.{Waits, Byte, accepted_waits, turned_kept}

pub byte_waits : (m : Machine) (b : ℕ) (buffer : List ℕ) (l : Latest) (n : ℕ) → Waits m.settle l n
    → Byte m b l n (outcome m b buffer)
byte_waits m b buffer l n e =
    by_outcome m (Byte m b l n) (record { switch = refl; inputs = refl; outputs = refl; waits = e })
    (record { switch = refl; inputs = refl; outputs = refl; waits = e })
    (λ number silent ident. let k = turned_kept (heard_by m b) number in
    record {
      switch = k.switch;
      inputs = k.inputs;
      outputs = k.outputs;
      waits = subst (λ (x : Settle). Waits x l n) (sym k.settle) e;
    })
    (λ c digits silent ident q. accepted_waits m b l n e c digits silent ident) b buffer
