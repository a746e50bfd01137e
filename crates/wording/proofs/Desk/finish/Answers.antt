-- The end of the input. Assumes nothing.
use mathlib.Core.Path.{◌≡◌}
use Rattle.laws.proofs.Pick.{on_eq, on_ne}
use Rattle.wording.specs.Wording.{finished_of}
use Rattle.wording.proofs.WordingLaws.{finished_desk}
use Rattle.wording.proofs.Desk.finish.Goals as goal

pub returns-then-self-eq0 : goal.returns-then-self-eq0
returns-then-self-eq0 c =
    let e : _ ≡ finished_of c.args.self = on_eq c.args.self.line.count 0 _ _ _ c.if-self-eq0.true c.new.ensures in
    record {
      value = e;
      desks = finished_desk c.args.self _ e;
    }

pub returns : goal.returns
returns c =
    let e : _ ≡ finished_of c.args.self =
    on_ne c.args.self.line.count 0 _ _ _ c.if-self-eq0.false c.answered.ensures in
    record {
      value = e;
      desks = finished_desk c.args.self _ e;
    }
