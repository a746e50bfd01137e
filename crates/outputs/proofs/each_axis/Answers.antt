-- `each_axis` meets its contract: five axes, each with the polarity shifted down to it. Assumes nothing.
use mathlib.Core.Bool.{false}
use lib.ListN.{get_or}
use Rattle.outputs.proofs.Parts.{cells_five}
use Rattle.outputs.proofs.each_axis.Goals as goal

pub returns : goal.returns
returns c =
    cells_five c.args.switch c.args.polarity (λ k. get_or c.args.minus k false) c.args.fires
    c.cell.ensures c.cell-2.ensures c.cell-3.ensures c.cell-4.ensures c.cell-5.ensures
