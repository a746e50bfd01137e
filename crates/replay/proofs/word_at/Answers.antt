-- Four bytes, weighed. Assumes nothing.
use Rattle.replay.specs.Replay.{word_at}
use Rattle.replay.proofs.word_at.Goals as goal

pub returns : goal.returns
unfolding word_at
returns c = c.from_le_bytes.ensures
