-- Power-on, its number mixed into 0. Assumes nothing.
use mathlib.Core.Path.{refl}
use Rattle.replay.proofs.AnswerLaws.{begun_is}
use Rattle.replay.proofs.begin.Goals as goal

pub returns : goal.returns
returns c = begun_is c.args.switch c.power_on-on.result _ _ c.power_on-on.ensures.value refl c.mix.ensures
