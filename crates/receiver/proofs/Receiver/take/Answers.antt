-- The step on what is held, and so on every list of characters so held. Assumes nothing.
use Rattle.std.proofs.Common.{None}
use Rattle.laws.proofs.Pick.{on_eq, on_ne}
use Rattle.receiver.proofs.Laws.{both_told}
use Rattle.receiver.proofs.Receiver.take.Goals as goal

pub returns-then-b-eq-END : goal.returns-then-b-eq-END
returns-then-b-eq-END c =
    let told =
    both_told c.args.self c.args.b
    (on_eq c.args.b 13 _ _ _ c.if-b-eq-END.true
    (λ i. record { next = c.new-next.ensures i; heard = c.heard-heard.ensures i })) in
    record { value = told.0; holding = told.1 }

pub returns : goal.returns
returns c =
    let told =
    both_told c.args.self c.args.b
    (on_ne c.args.b 13 _ _ _ c.if-b-eq-END.false (λ i. record { next = c.push-next.ensures i; heard = None })) in
    record { value = told.0; holding = told.1 }
