-- The watch alone counts where no limit input is active. Assumes nothing.
use mathlib.Core.Bool.{false}
use mathlib.Core.Path.{sym, ◌∙◌}
use lib.ListN.{get_or}
use Rattle.controller.proofs.CalmLaws.{calm_free}
use Rattle.controller.proofs.watch.limit_or_watch.Goals as goal

pub returns-then-is_calm : goal.returns-then-is_calm
returns-then-is_calm c =
    rw (sym (calm_free c.args.settings.low c.args.settings.high c.args.inputs (λ k. get_or c.args.plan.distances k 0)
    (λ k. get_or c.args.plan.minus k false) (sym c.is_calm.ensures ∙ c.if-is_calm.true)))
    c.is_full.ensures
