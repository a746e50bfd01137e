-- A tick, after every list of calls that leaves the controller. Assumes nothing.
use Rattle.replay.proofs.AnswerLaws.{tick_is}
use Rattle.replay.proofs.play.tick.Goals as goal

pub returns : goal.returns
returns c =
    record {
      plays = λ s h e. tick_is s h c.args.word c.args.was.digest c.args.buf.now c.tick-a.new.buf c.tick-a.result _ _ _ _
          (c.tick-a.ensures.0 s h e) (c.tick-a.ensures.1.0 s h e) c.with_block-shown.ensures c.entered-entered.ensures
          c.tick_code-code.ensures c.mix.ensures;
      lends = λ s h e. c.tick-a.ensures.1.0 s h e;
    }
