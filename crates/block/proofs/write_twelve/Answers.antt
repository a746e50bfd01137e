-- Twelve blocks, or nothing where they have no room. Assumes nothing.
use native.Mathlib.Omega.{arith}
use Rattle.block.specs.Block.{row_of}
use Rattle.block.proofs.Blocks.{length_most, length_row}
use Rattle.block.proofs.Buffers.{no_room}
use Rattle.block.proofs.Loop as loop
use Rattle.block.proofs.write_twelve.Goals as goal

pub overflow_mul-block_length : goal.overflow_mul-block_length
overflow_mul-block_length c = omega (arith, c.block_length.ensures, length_most c.args.ident)

pub returns-then-buf-block_length : goal.returns-then-buf-block_length
returns-then-buf-block_length c =
    let row = row_of 12 c.args.letters c.args.numbers c.args.switch c.args.ident in
    let long = length_row c.args.letters c.args.numbers c.args.switch c.args.ident 12 in
    let k = no_room 0 row c.args.buf.now (omega (arith, long)) in
    record { value = k.0; buf_after = k.1 }

pub loop-k-init : goal.loop-k-init
loop-k-init c = loop.none_written (omega (arith, c.block_length.ensures, c.if-buf-block_length.false))

pub write_at-at-requires : goal.write_at-at-requires
write_at-at-requires c = loop.next_room c.loop-k.invariant c.loop-k-test.true

pub overflow_add-at : goal.overflow_add-at
overflow_add-at c =
    let next =
    loop.one_more c.loop-k.invariant c.loop-k-test.true c.write_at-at.ensures.0 c.write_at-at.ensures.1 in
    omega (arith, loop.most next)

pub loop-k-preserved : goal.loop-k-preserved
loop-k-preserved c =
    loop.one_more c.loop-k.invariant c.loop-k-test.true c.write_at-at.ensures.0 c.write_at-at.ensures.1

pub shape_of-buf : goal.shape_of-buf
shape_of-buf c = loop.same_length c.loop-k.invariant

pub returns : goal.returns
returns c =
    let k = loop.all_written c.loop-k.invariant (omega arith) in
    record { value = k.0; buf_after = k.1 }
