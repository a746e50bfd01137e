-- `axis_cells` meets its contract: five axes at rest, five as they fire, and those at rest together. Assumes nothing.
use Rattle.std.proofs.Common.{rules, sum}
use Prim.Native.Nat.{ℕ, ◌<◌}
use mathlib.Core.Path.{◌≡◌, ◌∙◌}
use mathlib.Core.Bool.{Bool, false}
use lib.ListN.{get_or}
use Rattle.outputs.specs.Outputs.{rest_of}
use Rattle.outputs.proofs.Small.{rests_small, rests_total}
use Rattle.outputs.proofs.axis_cells.Goals as goal

pub sum-still-requires-clause-fits : goal.sum-still-requires-clause-fits
unfolding rest_of
sum-still-requires-clause-fits c =
    let minus : ℕ → Bool = λ k. get_or c.args.minus k false in
    let h : sum c.each_axis-rests.result < 4294967296 = (rests_small c.args.switch c.args.polarity minus c.each_axis-rests.ensures).all in
    search rules

pub returns-clause-still_value : goal.returns-clause-still_value
unfolding rest_of
returns-clause-still_value c =
    let total : c.sum-still.result ≡ sum c.each_axis-rests.result = search rules in
    total ∙ rests_total c.args.switch c.args.polarity (λ k. get_or c.args.minus k false) c.each_axis-rests.ensures
