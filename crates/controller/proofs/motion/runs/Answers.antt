-- `runs` meets what its callee asks of the axes. Assumes nothing.
use native.Mathlib.Omega.{arith}
use Rattle.controller.proofs.StepLaws.{axes_fit}
use Rattle.controller.proofs.motion.runs.Goals as goal

pub axis_step-b-requires : goal.axis_step-b-requires
axis_step-b-requires c =
    axes_fit c.args.settings c.args.hot c.pace-paced.result c.pace-paced.ensures c.requires 1 (omega arith)

pub axis_step-c-requires : goal.axis_step-c-requires
axis_step-c-requires c =
    axes_fit c.args.settings c.args.hot c.pace-paced.result c.pace-paced.ensures c.requires 2 (omega arith)

pub axis_step-d-requires : goal.axis_step-d-requires
axis_step-d-requires c =
    axes_fit c.args.settings c.args.hot c.pace-paced.result c.pace-paced.ensures c.requires 3 (omega arith)

pub axis_step-e-requires : goal.axis_step-e-requires
axis_step-e-requires c =
    axes_fit c.args.settings c.args.hot c.pace-paced.result c.pace-paced.ensures c.requires 4 (omega arith)
