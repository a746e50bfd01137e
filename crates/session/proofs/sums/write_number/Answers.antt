-- A number behind its sign. Assumes nothing.
use mathlib.Core.Path.{◌∙◌}
use native.Mathlib.Omega.{arith}
use lib.ListN.{length-set}
use Rattle.session.proofs.TextLaws.{minus_room, plus_room, minus_written, plus_written}
use Rattle.session.proofs.sums.write_number.Goals as goal

pub bounds-buf-at : goal.bounds-buf-at
bounds-buf-at c =
    omega (arith, minus_room c.args.at c.args.minus c.args.n c.args.buf.now c.if-minus.true c.requires)

pub write_decimal-requires : goal.write_decimal-requires
write_decimal-requires c =
    simp length-set
    (minus_room c.args.at c.args.minus c.args.n c.args.buf.now c.if-minus.true c.requires)

pub shape_of-buf-then-minus : goal.shape_of-buf-then-minus
shape_of-buf-then-minus c = c.write_decimal.auto.buf ∙ simp length-set

pub returns-then-minus : goal.returns-then-minus
returns-then-minus c =
    let w = c.write_decimal in
    let t = minus_written c.args.at c.args.minus c.args.n c.args.buf.now w.result w.new.buf c.if-minus.true c.requires
    w.ensures.0 w.ensures.1 in
    record { value = t.0; buf_after = t.1 }

pub write_decimal-requires-2 : goal.write_decimal-requires-2
write_decimal-requires-2 c =
    plus_room c.args.at c.args.minus c.args.n c.args.buf.now c.if-minus.false c.requires

pub returns : goal.returns
returns c =
    let w = c.write_decimal-2 in
    let t = plus_written c.args.at c.args.minus c.args.n c.args.buf.now w.result w.new.buf c.if-minus.false
    w.ensures.0 w.ensures.1 in
    record { value = t.0; buf_after = t.1 }
