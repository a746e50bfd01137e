-- `front` meets its contract: the front part, which is the reply of the byte, or the block of the tick, that answered
-- the length. Assumes nothing.
use Rattle.controller.proofs.FrontLaws.{reply_in, block_in}
use Rattle.controller.proofs.front.Goals as goal

pub returns : goal.returns
returns c =
    record {
      result_value = c.front.ensures;
      reply_in = reply_in c.args.buf.now c.args.n _ c.front.ensures;
      block_in = block_in c.args.buf.now c.args.n _ c.front.ensures;
    }
