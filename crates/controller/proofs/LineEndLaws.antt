-- What a line answers, joined from what its parts answer, over plain values. Assumes nothing.
use Rattle.std.proofs.Common.{Option}
use Prim.Native.Nat.{ℕ, ◌≤◌}
use mathlib.Core.Bool.{Bool, true, false}
use mathlib.Core.List.{List}
use mathlib.Core.Path.{◌≡◌, refl, sym, ap, subst, ◌∙◌}
use lib.ListN.{length}
use Rattle.block.specs.Block.{over, laid, laid_length}
use Rattle.block.proofs.Buffers.{over_nil}
use Rattle.line.specs.declared.command.Command.{Command}
use Rattle.reply.specs.declared.readings.Readings.{Readings}
use Rattle.reply.specs.Reply.{told_by, reply_of, refusal_of}
use Rattle.reply.proofs.Replies.{reply_over, reply_length, refusal_over, refusal_length}
use Rattle.controller.specs.declared.state.Controller.{Controller}
use Rattle.controller.specs.declared.state.ByteAnswer.{ByteAnswer}
use Rattle.controller.specs.Inner.Numbers.{turned_of}
use Rattle.controller.specs.Inner.Status.{readings_of}
use Rattle.controller.specs.Inner.LineEnd.{refuse_reply, refuse_of, tell_reply}

-- An answer with a reply laid over the buffer.
abbrev pub Answers : ByteAnswer → List ℕ → ByteAnswer → List ℕ → List ℕ → Type 0
Answers r e answer reply d = (r ≡ answer) × (e ≡ over reply d)

module _ (c : Controller) (ident : Option ℕ) (d : List ℕ) where
  pub refuse_silent : (silent : Bool) (n : ℕ) (t : Controller) → silent ≡ true → t ≡ turned_of c n
      → Answers (record { controller = t; length = 0; number = n }) d (refuse_of c silent ident n)
      (refuse_reply c silent ident n) d
  refuse_silent silent n t s e =
      subst (λ (b : Bool). Answers (record { controller = t; length = 0; number = n }) d (refuse_of c b ident n)
      (refuse_reply c b ident n) d) (sym s)
      ((λ i. record { controller = e i; length = 0; number = n }), sym (over_nil d))

  pub refuse_told : (silent : Bool) (n : ℕ) (t : Controller) (l : ℕ) (x : List ℕ) → 120 ≤ length d → silent ≡ false
      → t ≡ turned_of c n → l ≡ laid_length 0 (refusal_of c.cold.switch n ident) d
      → x ≡ laid 0 (refusal_of c.cold.switch n ident) d
      → Answers (record { controller = t; length = l; number = n }) x (refuse_of c silent ident n)
      (refuse_reply c silent ident n) d
  refuse_told silent n t l x h s e p q =
      subst (λ (b : Bool). Answers (record { controller = t; length = l; number = n }) x (refuse_of c b ident n)
      (refuse_reply c b ident n) d) (sym s) (
        (λ i. record { controller = e i; length = (p ∙ refusal_length c.cold.switch n ident d h) i; number = n }),
        q ∙ refusal_over c.cold.switch n ident d h,
      )

  module _ (command : Command) (digits : ℕ) where
    pub tell_silent : (silent : Bool) → silent ≡ true
        → (0 ≡ length (tell_reply c silent ident command digits))
        × (d ≡ over (tell_reply c silent ident command digits) d)
    tell_silent silent s =
        subst (λ (b : Bool). (0 ≡ length (tell_reply c b ident command digits))
        × (d ≡ over (tell_reply c b ident command digits) d)) (sym s) (refl, sym (over_nil d))

    pub tell_told : (silent : Bool) (r : Readings) (l : ℕ) (x : List ℕ) → 120 ≤ length d → silent ≡ false
        → r ≡ readings_of c → l ≡ laid_length 0 (reply_of (told_by r) command digits ident) d
        → x ≡ laid 0 (reply_of (told_by r) command digits ident) d
        → (l ≡ length (tell_reply c silent ident command digits))
        × (x ≡ over (tell_reply c silent ident command digits) d)
    tell_told silent r l x h s k p q =
        subst (λ (b : Bool). (l ≡ length (tell_reply c b ident command digits))
        × (x ≡ over (tell_reply c b ident command digits) d)) (sym s) (
          p ∙ (reply_length (told_by r) command digits ident d h
              ∙ ap (λ (y : Readings). length (reply_of (told_by y) command digits ident)) k),
          q ∙ (reply_over (told_by r) command digits ident d h
              ∙ ap (λ (y : Readings). over (reply_of (told_by y) command digits ident) d) k),
        )
