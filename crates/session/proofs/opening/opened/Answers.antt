-- Power-on, the characters of the host's first line, and its 0D. Assumes nothing.
use mathlib.Core.Path.{ap}
use Rattle.session.proofs.OpeningLaws.{opened_is}
use Rattle.session.proofs.opening.opened.Goals as goal

pub returns : goal.returns
returns c =
    opened_is _ _ _ _ _ _ (ap (λ x. x.controller) c.power_on.ensures.value)
    c.watch_off-line.ensures.value c.gather-gathered.ensures c.send.ensures
