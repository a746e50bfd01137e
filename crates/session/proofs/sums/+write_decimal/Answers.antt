-- The digits of a number, the lower ones behind the higher. Assumes nothing.
use native.Mathlib.Omega.{arith}
use mathlib.Core.Path.{ap}
use lib.ListN.{length}
use Rattle.text.proofs.DecimalLaws.{decimal_one, more_length}
use Rattle.session.proofs.DecimalLaws.{one_written, more_written}
use Rattle.session.proofs.sums.+write_decimal.Goals as goal

pub bounds-buf-at : goal.bounds-buf-at
bounds-buf-at t c = omega (arith, c.requires, ap length (decimal_one c.args.n c.if-n-lt10.true))

pub overflow_add-result : goal.overflow_add-result
overflow_add-result t c = omega (arith, c.requires, ap length (decimal_one c.args.n c.if-n-lt10.true))

pub returns-then-n-lt10 : goal.returns-then-n-lt10
returns-then-n-lt10 t c = one_written c.args.at c.args.n c.args.buf.now c.if-n-lt10.true c.requires

pub write_decimal-end-requires : goal.write_decimal-end-requires
write_decimal-end-requires t c = (
  omega arith,
  omega (arith, c.requires, more_length c.args.n c.if-n-lt10.false),
)

pub bounds-buf-end : goal.bounds-buf-end
bounds-buf-end t c =
    let w = c.write_decimal-end in
    omega (arith, w.ensures.0, w.auto.buf, c.requires, more_length c.args.n c.if-n-lt10.false)

pub overflow_add-result-2 : goal.overflow_add-result-2
overflow_add-result-2 t c =
    let w = c.write_decimal-end in
    omega (arith, w.ensures.0, c.requires, more_length c.args.n c.if-n-lt10.false)

pub returns : goal.returns
returns t c =
    let w = c.write_decimal-end in
    more_written c.args.at c.args.n c.args.buf.now w.result w.new.buf c.if-n-lt10.false c.requires w.ensures.0
    w.ensures.1
