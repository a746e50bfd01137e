-- Number by number, each judged before the next. Assumes nothing.
use Rattle.std.proofs.Common.{rules, Err}
use native.Mathlib.Omega.{arith}
use mathlib.Core.Path.{◌≡◌, refl, ◌∙◌}
use lib.ListN.{drop, length-set}
use Rattle.journal.specs.Entries.{ranges, read_all}
use Rattle.journal.proofs.JudgeLaws.{resumed_start, loop_stops, loop_goes_on, loop_ends}
use Rattle.journal.proofs.entries.read_all.Goals as goal

pub loop-k-init : goal.loop-k-init
loop-k-init c =
    record { long = refl; read = resumed_start c.args.at (read_all ranges (drop c.args.at c.args.bytes.now)) }

pub returns-in_err-one : goal.returns-in_err-one
returns-in_err-one c =
    let l = c.loop-k in
    let e : c.from_residual.result ≡ Err c.in_err-one.field-0.0 = search rules in
    e
    ∙ loop_stops c.args.bytes.now l.k l.place (omega arith) c.args.at l.value-items l.invariant.read
    c.in_err-one.field-0.0 c.in_err-one.ensures

pub loop-k-preserved : goal.loop-k-preserved
loop-k-preserved c =
    let l = c.loop-k in
    let one = c.in_ok-one.one in
    record {
      long = length-set l.value-items l.k one.value ∙ l.invariant.long;
      read = loop_goes_on c.args.bytes.now l.k l.place (omega arith) c.args.at l.value-items l.invariant.read one
          c.in_ok-one.ensures l.invariant.long;
    }

pub returns : goal.returns
returns c =
    let l = c.loop-k in
    loop_ends c.args.bytes.now l.value-items l.place c.args.at l.k (omega arith) l.invariant.long l.invariant.read
