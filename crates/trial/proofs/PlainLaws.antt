-- The line of a trial is the plain start's, and what it leaves a move that has begun. Assumes nothing.
use Rattle.receiver.specs.declared.Line.{Line}
use Rattle.std.proofs.Common.{None, Option}
use Prim.Native.Nat.{ℕ, ◌+◌, ◌*◌, ◌<◌}
use mathlib.Core.Bool.{Bool, false, cond}
use mathlib.Core.List.{List, []}
use mathlib.Core.Path.{◌≡◌, refl, sym, ap, ◌∙◌}
use borrow.Author.Tests.{eq-eqb, eqb-true}
use lib.Dec.{eqb}
use Rattle.laws.proofs.Pick.{by_bool}
use Rattle.laws.proofs.Five.{five}
use Rattle.digits.specs.Digits.{number_of}
use Rattle.line.specs.declared.command.Command.{Command}
use Rattle.line.specs.declared.command.Command.TheVariants.{Start}
use Rattle.line.specs.Line.{judge_of, judge_row, accepting}
use Rattle.receiver.specs.Receiver.{heard_line, line_heard}
use Rattle.machine.specs.State.{Machine, with_line, with_watch}
use Rattle.machine.specs.Starts.{begun}
use Rattle.machine.specs.Commands.{number}
use Rattle.machine.specs.Steps.{ByteAnswer, Outcome, accepted, refused, outcome_of, answered, byte_step}
use Rattle.machine.specs.Calls.{given, run, from, buffer, bytes}
use Rattle.controller.proofs.GatherLaws.{joined}
use Rattle.trial.specs.Trial.{aside, start_line, start_answer}
use Rattle.trial.specs.Promises.{PlainStart}
use Rattle.trial.proofs.TrialLaws.{characters}

-- How the line is heard: it asks for a reply, has no identification, and is a start that does not wait.
heard : (k : ℕ) → k < 5 → heard_line (start_line k) ≡ line_heard false None (accepting (Start k false) (8388608 + 65536 * k))
unfolding number_of judge_of judge_row
heard =
    five (λ (k : ℕ). heard_line (start_line k) ≡ line_heard false None (accepting (Start k false) (8388608 + 65536 * k)))
    refl refl refl refl refl

typed : (m : Machine) (k : ℕ) → from (aside m) (bytes (start_line k) []) ≡ with_line m (start_line k)
unfolding run
typed m k =
    ap (λ (l : List ℕ). from (aside m) (bytes l [])) (sym (characters k))
    ∙ (joined (given (aside m)) (start_line k) [] ∙ ap (with_line m) (characters k))

module _ (m : Machine) (k : ℕ) (l : k < 5) where
  abbrev command : Command
  command = Start k false

  abbrev digits : ℕ
  digits = 8388608 + 65536 * k

  abbrev line : Machine
  line = with_line m (start_line k)

  -- What comes of the line, n being its number.
  abbrev comes : ℕ → Outcome
  comes n = cond (eqb n 0) (accepted command digits false None) (refused n false None)

  decides : start_answer m k ≡ answered line 13 (comes (number m command))
  decides =
      ap (λ (x : Machine). byte_step x 13 buffer) (typed m k)
      ∙ ap (λ (h : Option Line). answered line 13 (outcome_of line h)) (heard k l)

  turned : (start_answer m k).number ≡ number m command
  turned =
      ap (λ (a : ByteAnswer). a.number) decides
      ∙ by_bool (λ (o : Outcome). (answered line 13 o).number ≡ number m command) (eqb (number m command) 0) _ _
      (λ e. sym (eqb-true (number m command) 0 e)) (λ e. refl)

  begins : number m command ≡ 0 → (start_answer m k).machine ≡ with_watch (begun (aside m) k) 0
  begins e =
      ap (λ (a : ByteAnswer). a.machine) decides
      ∙ ap (λ (t : Bool). (answered line 13 (cond t (accepted command digits false None)
      (refused (number m command) false None))).machine) (eq-eqb (number m command) 0 e)

pub plain_start : PlainStart
plain_start = record { turned = λ m k l. turned m k l; begins = λ m k l e. begins m k l e }
