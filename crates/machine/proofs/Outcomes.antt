-- A fact about what comes of a received byte, by the four cases: it is not taken, it joins a line, its line is turned
-- away, its line is accepted. Assumes nothing.
use Rattle.line.specs.declared.Accepted.{Accepted}
use Rattle.line.specs.declared.Refusal.{Refusal}
use Rattle.std.proofs.Common.{Option, Result, Ok, Err}
use Prim.Native.Nat.{ℕ, ◌<◌}
use mathlib.Core.Bool.{Bool}
use mathlib.Core.List.{List}
use mathlib.Core.Path.{◌≡◌}
use native.Mathlib.Omega.{arith}
use borrow.Author.Tests.{eqb-true, eqb-false}
use lib.Dec.{ltb, eqb}
use lib.ListN.{length}
use Rattle.laws.proofs.Pick.{by_bool}
use Rattle.line.specs.declared.command.Command.{Command}
use Rattle.line.specs.Fits.{JudgedFits}
use Rattle.line.specs.Line.{silent_of, ident_of, judge_of, refusal_number}
use Rattle.line.proofs.Fits.{judge_fits}
use Rattle.receiver.specs.Receiver.{Receipt}
use Rattle.machine.specs.State.{Machine}
use Rattle.machine.specs.Commands.{number}
use Rattle.machine.specs.Steps.{
  Outcome,
  untaken,
  gathered,
  refused,
  accepted,
  decided,
  outcome_of,
  outcome,
}

-- A line has its own silence and identification, and one that is turned away a number.
module _ (m : Machine) (P : Outcome → Type 0) (left : P untaken) (joined : P gathered)
    (away : (n : ℕ) → 0 < n → P (refused n (silent_of m.line) (ident_of m.line)))
    (obeyed : (c : Command) (digits : ℕ) → number m c ≡ 0
    → P (accepted c digits (silent_of m.line) (ident_of m.line))) where
  by_judged : (j : Result Accepted Refusal) → JudgedFits j → P (decided m (silent_of m.line) (ident_of m.line) j)
  by_judged (Err r) f = let h = f.0 in away (refusal_number r) (omega (arith, h))
  by_judged (Ok a) f =
      by_bool P (eqb (number m a.command) 0) _ _ (λ e. obeyed a.command a.digits (eqb-true (number m a.command) 0 e))
      (λ e. let q = eqb-false (number m a.command) 0 e in away (number m a.command) (omega (arith, q)))

  pub by_line : (b : ℕ) (buffer : List ℕ) → P (outcome m b buffer)
  by_line b buffer =
      by_bool P (ltb (length buffer) 120) _ _ (λ e. left)
      (λ e. by_bool (λ (r : Receipt). P (outcome_of m r.heard)) (eqb b 13) _ _
      (λ q. by_judged (judge_of m.line) (judge_fits m.line)) (λ q. joined))

-- The same where these do not count.
pub by_outcome : (m : Machine) (P : Outcome → Type 0) → P untaken → P gathered
    → ((n : ℕ) (silent : Bool) (ident : Option ℕ) → P (refused n silent ident))
    → ((c : Command) (digits : ℕ) (silent : Bool) (ident : Option ℕ) → number m c ≡ 0
    → P (accepted c digits silent ident))
    → (b : ℕ) (buffer : List ℕ) → P (outcome m b buffer)
by_outcome m P left joined away obeyed =
    by_line m P left joined (λ n h. away n (silent_of m.line) (ident_of m.line))
    (λ c digits e. obeyed c digits (silent_of m.line) (ident_of m.line) e)
