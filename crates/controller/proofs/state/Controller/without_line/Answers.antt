-- `without_line` meets its contract: the calls but for the characters since the last 0D leave what it hands back.
-- Assumes nothing.
use Rattle.controller.proofs.GatherLaws.{bare_reached}
use Rattle.controller.proofs.state.Controller.without_line.Goals as goal

pub returns-clause-reachable : goal.returns-clause-reachable
returns-clause-reachable c = bare_reached c.args.self c.new-line.result _ c.new-line.ensures c.with_line.ensures c.requires
