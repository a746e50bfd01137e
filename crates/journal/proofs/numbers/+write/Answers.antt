-- The groups of a number, written one by one. Assumes nothing.
use native.Mathlib.Omega.{arith}
use lib.ListN.{length-set}
use Rattle.journal.proofs.WriteLaws.{last_length, next_length, some_more, smaller, last_written, next_written}
use Rattle.journal.proofs.numbers.+write.Goals as goal

-- ---- the last group

pub bounds-buf-at : goal.bounds-buf-at
bounds-buf-at t c = omega (arith, c.requires.0, last_length c.args.more c.args.n c.if-n-lt-GROUP.true)

pub returns-then-n-lt-GROUP : goal.returns-then-n-lt-GROUP
returns-then-n-lt-GROUP t c =
    let k = last_written c.args.at c.args.more c.args.n c.args.buf.now c.requires.0 c.if-n-lt-GROUP.true in
    record { value = k.0; buf_after = k.1 }

-- ---- a group before one more

pub bounds-buf-at-2 : goal.bounds-buf-at-2
bounds-buf-at-2 t c =
    let more = some_more c.args.more c.args.n c.requires.1 c.if-n-lt-GROUP.false in
    omega (arith, c.requires.0, next_length c.args.more c.args.n more c.if-n-lt-GROUP.false)

pub overflow_sub-more : goal.overflow_sub-more
overflow_sub-more t c = some_more c.args.more c.args.n c.requires.1 c.if-n-lt-GROUP.false

pub write-requires : goal.write-requires
write-requires t c =
    let more = some_more c.args.more c.args.n c.requires.1 c.if-n-lt-GROUP.false in
    let long = next_length c.args.more c.args.n more c.if-n-lt-GROUP.false in (
      omega arith,
      (
        simp length-set (omega (arith, c.requires.0, long)),
        smaller c.args.more c.args.n c.requires.1 c.if-n-lt-GROUP.false,
      ),
    )

pub returns : goal.returns
returns t c =
    let more = some_more c.args.more c.args.n c.requires.1 c.if-n-lt-GROUP.false in
    let k =
    next_written c.args.at c.args.more c.args.n c.args.buf.now c.requires.0 c.write.result c.write.new.buf
    more c.if-n-lt-GROUP.false c.write.ensures.value c.write.ensures.buf_after in
    record { value = k.0; buf_after = k.1 }
