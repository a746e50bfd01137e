-- `positions` meets its contract: the held positions, and these read as signed numbers. Assumes nothing.
use mathlib.Core.List.{map}
use mathlib.Core.Path.{sym, ap, ◌∙◌}
use Rattle.reply.specs.Reply.{position_of}
use Rattle.controller.specs.declared.state.Controller.{Controller}
use Rattle.controller.proofs.AnswerLaws.{positions_signed}
use Rattle.controller.proofs.state.Controller.positions.Goals as goal

pub returns-clause-made : goal.returns-clause-made
returns-clause-made c =
    λ s h e. ap (λ (x : Controller). map position_of x.hot.counters.positions) (sym e) ∙ positions_signed s h
