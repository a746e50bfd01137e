-- Paper 02, 3/14, over the code's own calls (specs/Settle.antt): the block that an answer tells is the one that is due
-- by the machine's list of those calls. Assumes nothing.
use Prim.Native.Nat.{ℕ}
use mathlib.Core.List.{List, [], ◌∷◌}
use mathlib.Core.Path.{◌≡◌, refl, sym, ap, ◌∙◌}
use lib.ListN.{length}
use Rattle.block.specs.Block.{over}
use Rattle.block.proofs.Buffers.{over_nil}
use Rattle.receiver.specs.Receiver.{before_end}
use Rattle.outputs.specs.Outputs.{general_of}
use Rattle.machine.specs.State.{Machine}
use Rattle.machine.specs.Steps as steps
use Rattle.machine.specs.Steps.{tick_step, refused_tick, buffer_after_tick}
use Rattle.machine.specs.Calls as calls
use Rattle.machine.specs.Calls.{Call, state, buffer, bytes}
use Rattle.machine.specs.Settle.{switch_of, latest_block}
use Rattle.machine.proofs.SettleLaws.{settled}
use Rattle.controller.specs.declared.state.Controller.{Controller}
use Rattle.controller.specs.declared.state.PowerOn.{PowerOn}
use Rattle.controller.specs.declared.state.TickAnswer.{TickAnswer}
use Rattle.controller.specs.Held.{held, held_tick}
use Rattle.controller.specs.Answers.{Answered, byte, tick, stretch, last, Follows, calls_of, after_bytes}
use Rattle.controller.specs.Settle.{latest_block_in, refused_with, Turned, ToldIn, SettlesAnswers}
use Rattle.controller.proofs.AnswerLaws.{last_held}
use Rattle.controller.proofs.FrontLaws.{block_in}

-- A list that ends with bytes answers no block.
block_bytes : (s : ℕ) (bs : List ℕ) (h : List Call) → latest_block s h ≡ [] → latest_block s (bytes bs h) ≡ []
unfolding latest_block
block_bytes s [] h e = e
block_bytes s (b ∷ bs) h e = block_bytes s bs (calls.byte b buffer ∷ h) refl

block_after : (s : ℕ) (bs : List ℕ) (h : List Call) → after_bytes [] bs (latest_block s h) ≡ latest_block s (bytes bs h)
unfolding latest_block
block_after s [] h = refl
block_after s (b ∷ bs) h = sym (block_bytes s bs (calls.byte b buffer ∷ h) refl)

latest_held : (s : ℕ) (p : PowerOn) (l : List Answered) → Follows s p l → latest_block_in l ≡ latest_block s (calls_of l)
unfolding latest_block_in latest_block
latest_held s p [] f = refl
latest_held s p (byte b entry exit r ∷ l) f = refl
latest_held s p (tick w entry exit r ∷ l) f =
    let e = last_held s p l f.0 in
    block_in exit r.length _ refl (state s (calls_of l)) w entry (f.1.1.0 s (calls_of l) e)
    (ap (λ x. x.length) (f.1.0 s (calls_of l) e))
latest_held s p (stretch bs r ∷ l) f =
    ap (after_bytes [] (before_end bs)) (latest_held s p l f.0) ∙ block_after s (before_end bs) (calls_of l)

-- What a tick tells, r being its answer to the machine m that the controller c holds.
turned_held : (m : Machine) (c : Controller) (w n : ℕ) (entry exit : List ℕ) (r : TickAnswer) → held m ≡ c
    → r ≡ held_tick (tick_step m w entry) → exit ≡ buffer_after_tick (tick_step m w entry) entry
    → tick_step m w entry ≡ refused_tick m n → Turned c n entry exit r
turned_held m c w n entry exit r e p q t = (
  p ∙ (ap held_tick t ∙ λ i. refused_with (e i) n),
  q ∙ (ap (λ (a : steps.TickAnswer). over a.reply entry) t
      ∙ over_nil entry),
)

told_held : (s : ℕ) (p : PowerOn) (l : List Answered) → Follows s p l → ToldIn s p l
unfolding latest_block
told_held s p [] f = tt
told_held s p (byte b entry exit r ∷ l) f = λ q.
    let e = last_held s p l f.0 in
    let x = (settled s (calls_of l)).ended b entry q in (
      ap (λ a. a.length) (f.1.0 s (calls_of l) e) ∙ ap length x.nothing,
      (
        ap (λ a. a.number) (f.1.0 s (calls_of l) e) ∙ x.number,
        f.1.1.0 s (calls_of l) e ∙ (ap (λ (y : List ℕ). over y entry) x.nothing ∙ over_nil entry),
      ),
    )
told_held s p (tick w entry exit r ∷ l) f =
    let e = last_held s p l f.0 in
    let m = state s (calls_of l) in
    let x = (settled s (calls.tick w entry ∷ calls_of l)).answered in
    let a = f.1.0 s (calls_of l) e in
    let b = f.1.1.0 s (calls_of l) e in
    record {
      size = ap (λ y. y.length) a ∙ ap length x;
      laid = b ∙ ap (λ (y : List ℕ). over y entry) x;
      words = λ q. let x = (settled s (calls_of l)).words w entry q in
          record {
            first = ap (λ y. general_of (switch_of s) y.first) a ∙ x.first;
            second = ap (λ y. general_of (switch_of s) y.second) a ∙ x.second;
          };
      short = λ q. turned_held m (last p l) w 2 entry exit r e a b ((settled s (calls_of l)).short w entry q);
      large = λ q t. turned_held m (last p l) w 3 entry exit r e a b ((settled s (calls_of l)).large w entry q t);
    }
told_held s p (stretch bs r ∷ l) f = tt

pub settles_answers : SettlesAnswers
settles_answers s p l f = record {
  answered = latest_held s p l f ∙ (settled s (calls_of l)).answered;
  told = told_held s p l f;
}
