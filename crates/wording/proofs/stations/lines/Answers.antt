-- The lines of the values behind the first, one after another. Assumes nothing.
use native.Mathlib.Omega.{arith}
use mathlib.Core.List.{◌∷◌}
use mathlib.Core.Path.{◌≡◌}
use Rattle.text.proofs.TextLaws.{writes_none}
use Rattle.wording.specs.Stations.{more_text}
use Rattle.wording.proofs.StationLineLaws.{next_written, none_written, all_written}
use Rattle.wording.proofs.stations.lines.Goals as goal

pub returns-in_default : goal.returns-in_default
returns-in_default c = none_written c.args.text c.args.values.now c.in_default.ensures.cases

pub loop-value-init : goal.loop-value-init
unfolding more_text
loop-value-init c = writes_none c.line_of-told.result

pub loop-value-preserved : goal.loop-value-preserved
loop-value-preserved c =
    next_written c.line_of-told.result c.in-Some.more.now _ c.loop-value.value-index (omega arith) c.loop-value.invariant
    c.with.ensures c.line_of-told-in-loop-value.ensures

pub returns : goal.returns
returns c =
    let e : c.args.values.now ≡ c.in-Some.first.now ∷ c.in-Some.more.now = c.in-Some.ensures.cases.0 in
    all_written c.args.text c.in-Some.first.now c.in-Some.more.now c.args.values.now c.loop-value.value-index e
    (omega arith) c.line_of-told.ensures c.loop-value.invariant
