-- Laws of the parts of a step: what a line that begins with T and a byte that goes in answer, as it is held.
-- Assumes nothing.
use Rattle.std.proofs.Common.{Some, None}
use Prim.Native.Nat.{ℕ, ◌+◌, ◌≤◌}
use native.Mathlib.Omega.{arith}
use mathlib.Core.List.{List, [], ◌∷◌, ◌++◌}
use mathlib.Core.Path.{◌≡◌, sym, ap, ◌∙◌}
use lib.ListN.{length, take, set, length-append}
use Rattle.laws.specs.Axes.{each}
use Rattle.block.specs.Block.{over, put}
use Rattle.block.proofs.Buffers.{stores, put_over}
use Rattle.machine.specs.State.{Machine}
use Rattle.machine.specs.Steps.{byte_step}
use Rattle.controller.specs.declared.state.Controller.{Controller}
use Rattle.controller.specs.Held.{held}
use Rattle.machine.specs.Calls.{buffer}
use Rattle.session.specs.declared.ticks.Ran.{Ran}
use Rattle.session.specs.declared.state.Place.TheVariants.{Start, Sending}
use Rattle.session.specs.declared.state.Sent.{Sent}
use Rattle.session.specs.declared.state.Taken.{Taken}
use Rattle.session.specs.Ticks.{sum_of, blocks_of, ran_of}
use Rattle.session.specs.Text.{sums_text}
use Rattle.session.specs.Session.{starting, sending, shown, sends, asks, Told, Passed, stood_at, at_start}
use Rattle.session.proofs.BlockLaws.{blocks_most}
use Rattle.session.proofs.PrintLaws.{shown_length, over_shown}

pub question_over : (d : List ℕ) → 120 ≤ length d → set (set d 0 63) 1 10 ≡ over (63 ∷ 10 ∷ []) d
question_over d h = stores (63 ∷ 10 ∷ []) d (omega arith)

-- Ticks answer ten bytes at most.
pub ran_small : (n w : ℕ) (m : Machine) (ran : Ran) → ran ≡ ran_of n w m → ran.length ≤ 10
ran_small n w m ran e = let k = blocks_most w m n in let a = ap (λ (r : Ran). r.length) e in omega (arith, k, a)

module _ (m : Machine) (d x : List ℕ) where
  pub question_told : (c : Controller) (r : Taken) → held m ≡ c → r ≡ at_start c 2 → x ≡ over (63 ∷ 10 ∷ []) d
      → Told r x d (asks m None)
  question_told c r e p q = (p ∙ ap (λ (y : Controller). at_start y 2) (sym e), q)

  -- Ticks ran, their block stands as it is printed, and the sums were written behind it.
  pub ticks_told : (n w : ℕ) (ran : Ran) (b y : List ℕ) (l : ℕ) (r : Taken) → ran ≡ ran_of n w m
      → b ≡ over (blocks_of n w m) d → y ≡ over (shown (take ran.length b)) b
      → l ≡ ran.length + length (sums_text 5 ran.sums) → x ≡ put ran.length (sums_text 5 ran.sums) y
      → r ≡ stood_at (record { controller = ran.controller; length = l; number = ran.number }) Start
      → Told r x d (asks m (Some (record { count = n; word = w })))
  ticks_told n w ran b y l r e p q u z s = (
    s ∙ (λ i. stood_at (record { controller = (e i).controller; length = size i; number = (e i).number }) Start),
    z ∙ ((λ i. put (at i) (sums_text 5 (e i).sums) (stands i)) ∙ put_over (shown block) sums d),
  )
    where
      block : List ℕ
      block = blocks_of n w m

      sums : List ℕ
      sums = sums_text 5 (each (sum_of n w m))

      at : ran.length ≡ length (shown block)
      at = ap (λ (k : Ran). k.length) e ∙ sym (shown_length block)

      stands : y ≡ over (shown block) d
      stands = q ∙ ((λ i. over (shown (take (e i).length (p i))) (p i)) ∙ over_shown block d)

      size : l ≡ length (shown block ++ sums)
      size = u ∙ ((λ i. at i + length (sums_text 5 (e i).sums)) ∙ sym (length-append (shown block) sums))

  pub sent_told : (b : ℕ) (s : Sent) (r : Taken) → Passed s x d (byte_step m b buffer) → r ≡ stood_at s Start
      → Told r x d (sends m b starting)
  sent_told b s r (p, q) e = (e ∙ ap (λ (y : Sent). stood_at y Start) p, q)

  pub sending_told : (b : ℕ) (s : Sent) (r : Taken) → Passed s x d (byte_step m b buffer) → r ≡ stood_at s Sending
      → Told r x d (sends m b sending)
  sending_told b s r (p, q) e = (e ∙ ap (λ (y : Sent). stood_at y Sending) p, q)
