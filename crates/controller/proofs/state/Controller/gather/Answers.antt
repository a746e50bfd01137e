-- `gather` meets its contract: what the receiver gathers is what the machine after those bytes has. Assumes nothing.
use Rattle.controller.proofs.GatherLaws.{gather_answers}
use Rattle.controller.proofs.state.Controller.gather.Goals as goal

pub returns : goal.returns
returns c =
    gather_answers c.args.self c.args.bytes.now c.gather-gathered.result _
    c.gather-gathered.ensures.holding c.with_line-controller.ensures c.requires
