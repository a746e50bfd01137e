-- A byte: the end of a line, or a character of it. Assumes nothing.
use mathlib.Core.Path.{◌≡◌}
use Rattle.laws.proofs.Pick.{on_eq, on_ne}
use Rattle.wording.specs.Wording.{taken_of}
use Rattle.wording.proofs.WordingLaws.{taken_desk}
use Rattle.wording.proofs.Desk.take.Goals as goal

pub returns-then-b-eq-FEED : goal.returns-then-b-eq-FEED
returns-then-b-eq-FEED c =
    let e : _ ≡ taken_of c.args.self c.args.b = on_eq c.args.b 10 _ _ _ c.if-b-eq-FEED.true
    (λ i. record { desk = c.new.ensures.value i; text = c.answered.ensures i }) in
    record {
      value = e;
      desks = taken_desk c.args.self c.args.b _ e;
    }

pub returns : goal.returns
returns c =
    let e : _ ≡ taken_of c.args.self c.args.b = on_ne c.args.b 10 _ _ _ c.if-b-eq-FEED.false
    (λ i. record { desk = record { line = c.with.ensures i }; text = c.new-2.ensures i }) in
    record {
      value = e;
      desks = taken_desk c.args.self c.args.b _ e;
    }
