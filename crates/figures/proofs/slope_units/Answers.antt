-- `slope_units` reads back the slopes in range, and no other f64. Assumes nothing.
use Rattle.std.proofs.Common.{ℕ, T, sym, subst, rules}
use lib.Ieee.{binary64, fits}
use Rattle.line.specs.Ranges.{top_slope}
use Rattle.figures.specs.Figures.{Answer, ReadBack, slope_hz}
use Rattle.figures.proofs.Values.{slope_unit_is}
use Rattle.figures.proofs.Trip.{slope_back}
use Rattle.figures.proofs.slope_units.Goals as goal

pub returns : goal.returns
returns c =
    let read = c.read_units.ensures 5 slope_unit_is in
    let fits : T (fits binary64 c.args.x) = search rules in
    record {
      result_value = read;
      read_back = subst (λ (r : Answer ℕ). ReadBack slope_hz top_slope c.args.x r) (sym read) (slope_back c.args.x fits);
    }
