-- `speed_hz` is n/4 exactly: 0.25 is 1/4, and a product with it loses nothing. Assumes nothing.
use Rattle.std.proofs.Common.{ℕ, pos, subst, one-mul}
use lib.Ieee.{mul, binary64, of_int}
use Rattle.figures.specs.Figures.{Exactly}
use Rattle.figures.proofs.Values.{units_are, speed_unit, speed_unit_is}
use Rattle.figures.proofs.speed_hz.Goals as goal

pub returns : goal.returns
returns c =
    subst (λ (k : ℕ). Exactly (mul binary64 (of_int binary64 (pos c.args.n)) speed_unit) k 4) (one-mul c.args.n)
    (units_are 1 c.args.n speed_unit c.ranges.n.fits speed_unit_is)
