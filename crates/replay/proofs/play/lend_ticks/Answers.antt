-- So many ticks, and what counts of their buffer. Assumes nothing.
use Rattle.replay.proofs.PlayLaws.{lent_is}
use Rattle.replay.proofs.play.lend_ticks.Goals as goal

pub returns : goal.returns
returns c =
    let r = c.run-ran in
    λ s h e. lent_is s c.args.word c.args.count h c.args.buf.now c.args.was.digest r.result r.new.buf _
    c.args.whole _ (r.ensures.plays s h e) (r.ensures.lends s h e) c.part-counted.ensures c.bytes.ensures
