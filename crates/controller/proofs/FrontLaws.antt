-- A byte's reply and a tick's block have room in the lent buffer, so that the front part of the length that is answered
-- is that reply or block. Assumes nothing.
use Rattle.line.specs.declared.Accepted.{Accepted}
use Rattle.line.specs.declared.Refusal.{Refusal}
use Rattle.receiver.specs.declared.Line.{Line}
use Rattle.line.specs.Line.{refusal_number}
use Rattle.std.proofs.Common.{Option, Some, None, Result, Ok, Err}
use Prim.Native.Nat.{ℕ, ◌≤◌}
use native.Mathlib.Omega.{arith}
use mathlib.Core.Bool.{Bool}
use mathlib.Core.List.{List}
use mathlib.Core.Path.{◌≡◌, ◌∙◌}
use borrow.Author.Tests.{ltb-false}
use lib.Dec.{ltb, eqb}
use lib.ListN.{length}
use Rattle.laws.proofs.Pick.{by_bool}
use Rattle.block.specs.Block.{front_of}
use Rattle.block.proofs.Buffers.{front_over}
use Rattle.receiver.specs.Receiver.{receive}
use Rattle.reply.proofs.Replies.{reply_most, refusal_most, inputs_most}
use Rattle.machine.specs.State.{Machine}
use Rattle.machine.specs.Commands.{number}
use Rattle.machine.specs.Replies.{told_of, unless_silent}
use Rattle.machine.specs.Steps.{
  Outcome,
  refused,
  decided,
  outcome_of,
  answered,
  byte_step,
  TickAnswer,
  is_short,
  too_large,
  tick_step,
}
use Rattle.controller.specs.Answers.{ReplyIn, BlockIn}

silent_most : (silent : Bool) (reply : List ℕ) → length reply ≤ 120 → length (unless_silent silent reply) ≤ 120
silent_most silent reply h = by_bool (λ (l : List ℕ). length l ≤ 120) silent _ _ (λ e. omega arith) (λ e. h)

-- The reply to a byte whose outcome is o.
abbrev Most : Machine → ℕ → Outcome → Type 0
Most m b o = length (answered m b o).reply ≤ 120

refused_most : (m : Machine) (b n : ℕ) (silent : Bool) (ident : Option ℕ) → Most m b (refused n silent ident)
refused_most m b n silent ident = silent_most silent _ (refusal_most m.switch n ident)

decided_most : (m : Machine) (b : ℕ) (silent : Bool) (ident : Option ℕ) (j : Result Accepted Refusal) → Most m b (decided m silent ident j)
decided_most m b silent ident (Err r) = refused_most m b (refusal_number r) silent ident
decided_most m b silent ident (Ok a) =
    by_bool (Most m b) (eqb (number m a.command) 0) _ _
    (λ e. silent_most silent _ (reply_most (told_of m) a.command a.digits ident))
    (λ e. refused_most m b (number m a.command) silent ident)

heard_most : (m : Machine) (b : ℕ) (h : Option Line) → Most m b (outcome_of m h)
heard_most m b None = omega arith
heard_most m b (Some line) = decided_most m b line.silent line.ident line.judged

-- A buffer under 120 bytes gets none.
pub reply_room : (m : Machine) (b : ℕ) (d : List ℕ) → length (byte_step m b d).reply ≤ length d
reply_room m b d =
    by_bool (λ (o : Outcome). length (answered m b o).reply ≤ length d) (ltb (length d) 120) _ _
    (λ e. omega arith)
    (λ e. let h = ltb-false (length d) 120 e in
    let k = heard_most m b (receive m.line b).heard in
    omega (arith, h, k))

pub reply_in : (buffer : List ℕ) (n : ℕ) (part : List ℕ) → part ≡ front_of buffer n → ReplyIn buffer n part
reply_in buffer n part e m b entry p q =
    e ∙ ((λ i. front_of (p i) (q i)) ∙ front_over (byte_step m b entry).reply entry (reply_room m b entry))

-- A tick that is turned away, or is not the 2,500th, has none.
tick_room : (m : Machine) (w : ℕ) (d : List ℕ) → length (tick_step m w d).reply ≤ length d
tick_room m w d =
    by_bool (λ (a : TickAnswer). length a.reply ≤ length d) (is_short d) _ _ (λ e. omega arith)
    (λ e. let h = ltb-false (length d) 120 e in
    by_bool (λ (a : TickAnswer). length a.reply ≤ length d) (too_large w) _ _ (λ q. omega arith)
    (λ q. by_bool (λ (l : List ℕ). length l ≤ length d) (eqb m.settle.left 1) _ _
    (λ p. let k = inputs_most m.switch w m.settle.ident in omega (arith, h, k))
    (λ p. omega arith)))

pub block_in : (buffer : List ℕ) (n : ℕ) (part : List ℕ) → part ≡ front_of buffer n → BlockIn buffer n part
block_in buffer n part e m w entry p q =
    e ∙ ((λ i. front_of (p i) (q i)) ∙ front_over (tick_step m w entry).reply entry (tick_room m w entry))
