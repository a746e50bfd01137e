-- `tell` meets its contract: each return, by the test and the answers that led there. Assumes nothing.
use native.Mathlib.Omega.{arith}
use Rattle.controller.proofs.SettleLaws.{short_block, told_due, told_none}
use Rattle.controller.proofs.settle.tell.Goals as goal

pub overflow_cast-result : goal.overflow_cast-result
overflow_cast-result c =
    let l = short_block c.args.switch c.args.word c.args.named c.args.held _ c.args.buf.now c.then_some.ensures _
    c.requires c.write_inputs.ensures.value in
    omega (arith, l)

pub returns-then-block-eq1 : goal.returns-then-block-eq1
returns-then-block-eq1 c =
    let k = told_due c.args.switch c.args.word c.args.named c.args.held _ c.args.buf.now c.then_some.ensures
    c.args.block _ _ c.requires c.if-block-eq1.true c.write_inputs.ensures.value c.write_inputs.ensures.buf_after in
    record { value = k.0; buf_after = k.1 }

pub returns : goal.returns
returns c =
    let k = told_none c.args.switch c.args.word c.args.named c.args.held c.args.buf.now c.args.block
    c.if-block-eq1.false in
    record { value = k.0; buf_after = k.1 }
