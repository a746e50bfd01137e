-- No limit is in the way where no limit input is active. Assumes nothing.
use mathlib.Core.Bool.{false}
use mathlib.Core.Path.{sym, ◌∙◌}
use lib.ListN.{get_or}
use Rattle.controller.specs.Inner.Status.{current_of}
use Rattle.controller.proofs.CalmLaws.{calm_free}
use Rattle.controller.proofs.status.blocked.Goals as goal

pub returns-then-is_calm : goal.returns-then-is_calm
returns-then-is_calm c =
    calm_free c.args.c.cold.settings.low c.args.c.cold.settings.high c.args.c.hot.inputs
    (λ k. get_or (current_of c.args.c).distances k 0) (λ k. get_or (current_of c.args.c).minus k false)
    (sym c.is_calm.ensures ∙ c.if-is_calm.true)
