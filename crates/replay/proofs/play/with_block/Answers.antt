-- A block more, or none. Assumes nothing.
use mathlib.Core.Path.{ap, ◌∙◌}
use Rattle.replay.specs.Digest.{mixed_bytes}
use Rattle.replay.proofs.PlayLaws.{block_none}
use Rattle.replay.proofs.play.with_block.Goals as goal

pub returns-then-n-eq0 : goal.returns-then-n-eq0
returns-then-n-eq0 c =
    block_none c.args.h c.args.n c.args.buf.now c.if-n-eq0.true

pub returns : goal.returns
returns c =
    c.bytes.ensures ∙ ap (mixed_bytes c.args.h) c.front.ensures.result_value
