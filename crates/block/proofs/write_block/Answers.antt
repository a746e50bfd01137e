-- A block at a place, or nothing where it has no room there. Assumes nothing.
use native.Mathlib.Omega.{arith}
use Rattle.block.specs.Block.{block_of}
use Rattle.block.proofs.Blocks.{length_block}
use Rattle.block.proofs.Buffers.{no_room, with_room}
use Rattle.block.proofs.write_block.Goals as goal

pub returns-then-buf-need : goal.returns-then-buf-need
returns-then-buf-need c =
    let k = no_room c.args.at (block_of c.args.block) c.args.buf.now (omega (arith, length_block c.args.block)) in
    record { value = k.0; buf_after = k.1 }

pub write_at-requires : goal.write_at-requires
write_at-requires c =
    omega (arith, length_block c.args.block)

pub returns : goal.returns
returns c =
    let k =
    with_room c.args.at (block_of c.args.block) c.args.buf.now c.write_at.result c.write_at.new.buf
    (omega (arith, length_block c.args.block)) c.write_at.ensures.0 c.write_at.ensures.1 in
    record { value = k.0; buf_after = k.1 }
