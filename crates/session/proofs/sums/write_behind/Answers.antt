-- Sum by sum. Assumes nothing.
use Rattle.std.proofs.Common.{get_or, pos, rules}
use native.Mathlib.Omega.{arith}
use lib.IntN.{nat_abs}
use mir.Syntax.{w32}
use mir.Val.{SFits}
use Rattle.laws.proofs.Signs.{answered, minus_told}
use Rattle.session.proofs.TextLaws.{none_written, next_written}
use Rattle.session.proofs.sums.write_behind.Goals as goal

pub loop-k-init : goal.loop-k-init
loop-k-init c =
    let t = none_written c.args.sums c.args.at c.args.buf.now in
    (omega arith, t.0, t.1)

pub loop-k-preserved : goal.loop-k-preserved
loop-k-preserved c =
    let k = c.loop-k.k in
    let l = c.loop-k.invariant in
    let w = c.write_item-end in
    let f : SFits w32 (get_or c.args.sums k (pos 0)) = search rules in
    let t = next_written c.args.sums c.args.at c.args.buf.now k c.loop-k.end w.result c.unsigned_abs.result
    _ c.loop-k.buf w.new.buf (omega (arith, l.0, l.1, c.requires, c.loop-k-test.true)) l.1 l.2
    (minus_told w32 _ f) (answered nat_abs w32 _ _ f c.unsigned_abs.ensures.value)
    w.ensures.value w.ensures.buf_after in
    (omega (arith, l.0, w.ensures.upper_bound), t.0, t.1)
