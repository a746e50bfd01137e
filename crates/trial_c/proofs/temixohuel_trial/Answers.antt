-- The export answers what the library's function answers. Assumes nothing.
use Rattle.trial_c.proofs.temixohuel_trial.Goals as goal

pub returns-clause-made : goal.returns-clause-made
returns-clause-made c = c.temixohuel_trial.ensures.made
