-- A block at a place where it has room: the part from there on, with the block over its front. Assumes nothing.
use Rattle.block.specs.Block.{block_of}
use Rattle.block.proofs.Buffers.{part_over}
use Rattle.block.proofs.write_at.Goals as goal

pub returns : goal.returns
returns c = (
  c.write_front.ensures.0,
  part_over c.args.at (block_of c.args.block) c.args.buf.now c.write_front.new.buf c.write_front.ensures.1,
)
