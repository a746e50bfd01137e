-- The sum of the products is below 2 to the 64. Assumes nothing.
use mathlib.Core.Path.{refl}
use Rattle.replay.specs.Digest.{mixed}
use Rattle.replay.proofs.digest.mix.Goals as goal

pub returns : goal.returns
unfolding mixed
returns c = refl
