-- What no line alters: the switch, the last tick's inputs and the characters received since; and these do not count in
-- a command's number. Assumes nothing.
use Prim.Native.Nat.{ℕ}
use mathlib.Core.List.{List}
use mathlib.Core.Path.{◌≡◌, refl}
use lib.Dec.{leb}
use Rattle.laws.proofs.Pick.{by_bool}
use Rattle.line.specs.declared.command.Command.{Command}
use Rattle.line.specs.declared.command.Command.TheVariants as C
use Rattle.line.proofs.Ranges.{by_code}
use Rattle.machine.specs.State.{Machine, with_line}
use Rattle.machine.specs.Commands.{number, ordered, drops, obeys, does, turned, stores}

pub number_line : (m : Machine) (l : List ℕ) (c : Command) → number (with_line m l) c ≡ number m c
number_line m l (C.Distance k s d) = refl
number_line m l (C.Set k v) = refl
number_line m l (C.Start k waits) = refl
number_line m l (C.Order k) = refl
number_line m l (C.Outputs v) = refl
number_line m l (C.Read r) = refl

-- The switch, the inputs and the characters of a are those of m.
pub record Unaltered (m a : Machine) : Type 0 where
  pub switch : a.switch ≡ m.switch
  pub inputs : a.inputs ≡ m.inputs
  pub line : a.line ≡ m.line

pub does_unaltered : (m : Machine) (c : Command) → Unaltered m (does m c)
does_unaltered m (C.Distance k s d) = record { switch = refl; inputs = refl; line = refl }
does_unaltered m (C.Set k v) = record { switch = refl; inputs = refl; line = refl }
does_unaltered m (C.Start k waits) =
    by_bool (Unaltered m) (stores m waits) _ _ (λ _. record { switch = refl; inputs = refl; line = refl })
    (λ _. record { switch = refl; inputs = refl; line = refl })
does_unaltered m (C.Order k) =
    by_code (λ (j : ℕ). Unaltered m (obeys m j)) stopped (record { switch = refl; inputs = refl; line = refl })
    (record { switch = refl; inputs = refl; line = refl }) (record { switch = refl; inputs = refl; line = refl })
    (λ j p q r t. rw (p, q, r, t) (record { switch = refl; inputs = refl; line = refl })) k
  where
    stopped : Unaltered m (drops (ordered m))
    stopped = record {
      switch = by_bool (λ (a : Machine). a.switch ≡ m.switch) m.move.moving _ _ (λ _. refl) (λ _. refl);
      inputs = by_bool (λ (a : Machine). a.inputs ≡ m.inputs) m.move.moving _ _ (λ _. refl) (λ _. refl);
      line = by_bool (λ (a : Machine). a.line ≡ m.line) m.move.moving _ _ (λ _. refl) (λ _. refl);
    }
does_unaltered m (C.Outputs v) = record { switch = refl; inputs = refl; line = refl }
does_unaltered m (C.Read r) = record { switch = refl; inputs = refl; line = refl }

pub turned_unaltered : (m : Machine) (n : ℕ) → Unaltered m (turned m n)
turned_unaltered m n =
    by_bool (Unaltered m) (leb 10 n) _ _ (λ _. record { switch = refl; inputs = refl; line = refl })
    (λ _. record { switch = refl; inputs = refl; line = refl })
