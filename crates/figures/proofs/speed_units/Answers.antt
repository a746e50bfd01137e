-- `speed_units` reads back the speeds in range, and no other f64. Assumes nothing.
use Rattle.std.proofs.Common.{ℕ, T, sym, subst, rules}
use lib.Ieee.{binary64, fits}
use Rattle.line.specs.Ranges.{top_speed}
use Rattle.figures.specs.Figures.{Answer, ReadBack, speed_hz}
use Rattle.figures.proofs.Values.{speed_unit_is}
use Rattle.figures.proofs.Trip.{speed_back}
use Rattle.figures.proofs.speed_units.Goals as goal

pub returns : goal.returns
returns c =
    let read = c.read_units.ensures 1 speed_unit_is in
    let fits : T (fits binary64 c.args.x) = search rules in
    record {
      result_value = read;
      read_back = subst (λ (r : Answer ℕ). ReadBack speed_hz top_speed c.args.x r) (sym read) (speed_back c.args.x fits);
    }
