-- An accepted W line answers no bytes and number 0, and no number from 11 on turns one away. Assumes nothing.
use Rattle.std.proofs.Common.{Option}
use Prim.Native.Nat.{ℕ}
use mathlib.Core.Bool.{Bool, true, false, cond, ◌&&◌}
use mathlib.Core.List.{List, []}
use mathlib.Core.Path.{◌≡◌, refl, ap, ◌∙◌}
use Rattle.laws.proofs.Tests.{true_false}
use Rattle.line.specs.declared.command.Command.{Command}
use Rattle.line.specs.declared.command.Command.TheVariants as C
use Rattle.line.specs.declared.command.Reading.{Reading}
use Rattle.line.specs.declared.command.Reading.TheVariants as R
use Rattle.line.specs.Codes.{is_w}
use Rattle.reply.specs.Reply.{reply_of}
use Rattle.machine.specs.State.{Machine}
use Rattle.machine.specs.Starts.{turned_by}
use Rattle.machine.specs.Commands.{number}
use Rattle.machine.specs.Replies.{reply_to}
use Rattle.machine.specs.Steps.{Outcome, outcome, answered}
use Rattle.machine.specs.Calls.{Call, state}
use Rattle.machine.specs.Settle.{ends_w, WEnded}
use Rattle.machine.proofs.Outcomes.{by_outcome}

none : (b : Bool) → cond {A = List ℕ} b [] [] ≡ []
none true = refl
none false = refl

query_silent : (m : Machine) (r : Reading) (digits : ℕ) (ident : Option ℕ) → is_w (C.Read r) ≡ true
    → reply_to m (C.Read r) digits ident ≡ []
unfolding reply_of
query_silent m (R.Travel k) digits ident e = true_false false e refl
query_silent m (R.Position k) digits ident e = true_false false e refl
query_silent m R.Status digits ident e = true_false false e refl
query_silent m R.Everything digits ident e = true_false false e refl
query_silent m R.Inputs digits ident e = refl

reply_none : (m : Machine) (c : Command) (digits : ℕ) (ident : Option ℕ) → is_w c ≡ true → reply_to m c digits ident ≡ []
unfolding reply_of
reply_none m (C.Distance k s d) digits ident e = true_false false e refl
reply_none m (C.Set code v) digits ident e = true_false false e refl
reply_none m (C.Start k waits) digits ident e = true_false false e refl
reply_none m (C.Order code) digits ident e = true_false false e refl
reply_none m (C.Outputs v) digits ident e = refl
reply_none m (C.Read r) digits ident e = query_silent m r digits ident e

-- A byte whose outcome is o.
abbrev Byte : Machine → ℕ → Outcome → Type 0
Byte m b o = ends_w o ≡ true → ((answered m b o).reply ≡ []) × ((answered m b o).number ≡ 0)

byte_none : (m : Machine) (b : ℕ) (buffer : List ℕ) → Byte m b (outcome m b buffer)
byte_none m b =
    by_outcome m (Byte m b) (λ e. true_false false e refl) (λ e. true_false false e refl)
    (λ n silent ident e. true_false false e refl)
    (λ c digits silent ident q e. (
      ap (λ (x : List ℕ). cond silent [] x) (reply_none m c digits ident e) ∙ none silent,
      refl,
    )) b

pub ended_is : (s : ℕ) (h : List Call) (b : ℕ) (buffer : List ℕ) → ends_w (outcome (state s h) b buffer) ≡ true
    → WEnded s h b buffer
ended_is s h b buffer e =
    let x = byte_none (state s h) b buffer e in
    record { nothing = x.0; number = x.1 }

rests : (b : Bool) → turned_by 11 (b && false) 0 ≡ 0
rests true = refl
rests false = refl

-- It wants no rest, and meets no number of a start.
pub accepts_is : (m : Machine) (c : Command) → is_w c ≡ true → number m c ≡ 0
accepts_is m (C.Distance k s d) e = true_false false e refl
accepts_is m (C.Set code v) e = true_false false e refl
accepts_is m (C.Start k waits) e = true_false false e refl
accepts_is m (C.Order code) e = true_false false e refl
accepts_is m (C.Outputs v) e = rests m.move.moving
accepts_is m (C.Read r) e = rests m.move.moving
