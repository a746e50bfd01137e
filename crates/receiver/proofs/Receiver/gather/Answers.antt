-- The bytes before the first 0D are all of what is looked at. Assumes nothing.
use native.Mathlib.Omega.{arith}
use mathlib.Core.Path.{sym, ap, ◌∙◌}
use Prim.Native.Nat.{ℕ}
use lib.Dec.{eqb}
use lib.ListN.{take}
use lib.Seq.{length-take-le}
use Rattle.receiver.specs.Receiver.{push_all}
use Rattle.receiver.proofs.Laws.{before_take, before_short, gathered_told}
use Rattle.receiver.proofs.Receiver.gather.Goals as goal

pub slice_bounds-push_all-end : goal.slice_bounds-push_all-end
slice_bounds-push_all-end c =
    sym (length-take-le _ _ (omega (arith, c.before_end-count.ensures, before_short (λ b. eqb b 13) c.args.bytes.now)))

pub returns : goal.returns
returns c =
    let a = c.args in
    let taken =
    ap (λ (k : ℕ). take k a.bytes.now) c.before_end-count.ensures ∙ before_take (λ b. eqb b 13) a.bytes.now in
    let next = c.push_all.ensures ∙ ap (push_all a.self) taken in
    let told =
    gathered_told a.self a.bytes.now (λ i. record { next = next i; count = c.before_end-count.ensures i }) in
    record { value = told.0; holding = told.1 }
