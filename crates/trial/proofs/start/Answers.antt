-- The plain start's line given to a copy without a half-received line. Assumes nothing.
use mathlib.Core.Path.{refl}
use Rattle.trial.proofs.TrialLaws.{start_is}
use Rattle.trial.proofs.start.Goals as goal

pub returns-clause-made : goal.returns-clause-made
returns-clause-made c =
    let copy = c.without_line-copy in
    λ s h e.
    start_is s h c.args.master c.args.c copy.result _ c.gather.result c.byte.result refl e
    copy.ensures.made c.gather.ensures.0 c.byte.ensures.0
