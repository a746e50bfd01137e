-- The block of a W line as a tick writes it, over plain values. Assumes nothing.
use Rattle.std.proofs.Common.{Option}
use Prim.Native.Nat.{ℕ, ◌≤◌}
use mathlib.Core.Bool.{Bool}
use mathlib.Core.List.{List}
use mathlib.Core.Path.{◌≡◌, refl, sym, ap, ◌∙◌}
use native.Mathlib.Omega.{arith}
use borrow.Author.Tests.{eq-eqb, ne_eqb}
use lib.ListN.{length}
use Rattle.block.specs.Block.{over, laid, laid_length}
use Rattle.block.proofs.Buffers.{over_nil}
use Rattle.reply.specs.Reply.{inputs_of}
use Rattle.reply.proofs.Replies.{inputs_most, inputs_over, inputs_length}
use Rattle.controller.specs.Inner.Settle.{ident_of, tell_reply}

module _ (switch word : ℕ) (named : Bool) (held : ℕ) (ident : Option ℕ) (d : List ℕ) (e : ident ≡ ident_of named held) where
  -- Its length fits a byte.
  pub short_block : (n : ℕ) → 120 ≤ length d → n ≡ laid_length 0 (inputs_of switch word ident) d → n ≤ 10
  short_block n h p =
      let q = inputs_length switch word ident d h in
      let k = inputs_most switch word ident in
      omega (arith, p, q, k)

  -- The reply and the buffer of a tick with this count before it.
  abbrev Tells : ℕ → ℕ → List ℕ → Type 0
  Tells block n x = (n ≡ length (tell_reply block switch word named held))
      × (x ≡ over (tell_reply block switch word named held) d)

  pub told_due : (block n : ℕ) (x : List ℕ) → 120 ≤ length d → block ≡ 1
      → n ≡ laid_length 0 (inputs_of switch word ident) d → x ≡ laid 0 (inputs_of switch word ident) d → Tells block n x
  told_due block n x h b p q =
      rw (eq-eqb block 1 b) (
        p ∙ (inputs_length switch word ident d h ∙ ap (λ (x : Option ℕ). length (inputs_of switch word x)) e),
        q ∙ (inputs_over switch word ident d h ∙ ap (λ (x : Option ℕ). over (inputs_of switch word x) d) e),
      )

pub told_none : (switch word : ℕ) (named : Bool) (held : ℕ) (d : List ℕ) (block : ℕ) → (block ≡ 1 → ⊥)
    → (0 ≡ length (tell_reply block switch word named held)) × (d ≡ over (tell_reply block switch word named held) d)
told_none switch word named held d block b = rw (ne_eqb block 1 b) (refl, sym (over_nil d))
