-- Replies are blocks that all have the switch digit and the identification that they are made with. Assumes nothing.
use Rattle.std.proofs.Common.{Option}
use Prim.Native.Nat.{ℕ}
use mathlib.Core.List.{[], ◌∷◌}
use mathlib.Core.Path.{refl}
use Rattle.block.specs.Block.{row_of, Blocks}
use Rattle.line.specs.declared.command.Command.{Command}
use Rattle.reply.specs.declared.Answer.{Answer}
use Rattle.reply.specs.declared.Answer.TheVariants.{One, All, Later}
use Rattle.reply.specs.Reply.{
  Told,
  letter_u,
  block_for,
  letters,
  numbers,
  answer_of,
  bytes_of,
  reply_of,
  refusal_ident,
  refusal_of,
}

pub no_blocks : (switch : ℕ) (ident : Option ℕ) → Blocks switch ident []
unfolding row_of
no_blocks switch ident = record { count = 0; letters = []; numbers = []; whole = refl }

pub one_block : (switch letter n : ℕ) (ident : Option ℕ) → Blocks switch ident (block_for switch letter n ident)
unfolding row_of
one_block switch letter n ident = record { count = 1; letters = letter ∷ []; numbers = n ∷ []; whole = refl }

answer_blocks : (t : Told) (a : Answer) (ident : Option ℕ) → Blocks t.switch ident (bytes_of t a ident)
answer_blocks t (One letter n) ident = one_block t.switch letter n ident
answer_blocks t All ident = record { count = 12; letters = letters; numbers = numbers t; whole = refl }
answer_blocks t Later ident = no_blocks t.switch ident

pub reply_blocks : (t : Told) (c : Command) (digits : ℕ) (ident : Option ℕ)
    → Blocks t.switch ident (reply_of t c digits ident)
unfolding reply_of
reply_blocks t c digits ident = answer_blocks t (answer_of t c digits) ident

pub refusal_blocks : (switch n : ℕ) (ident : Option ℕ) → Blocks switch (refusal_ident n ident) (refusal_of switch n ident)
unfolding refusal_of
refusal_blocks switch n ident = one_block switch letter_u n (refusal_ident n ident)
