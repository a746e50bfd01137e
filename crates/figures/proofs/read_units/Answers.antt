-- `read_units` reads x in units: each way out has its law in proofs/Reader.antt. Assumes nothing.
use Rattle.std.proofs.Common.{ℕ, ◌<◌, ◌≤◌, sym, subst}
use lib.Ieee.{binary64, div}
use Rattle.figures.proofs.Reader.{in_range_lem, too_low, too_high, too_many, same, other}
use Rattle.figures.proofs.read_units.Goals as goal
use Rattle.figures.proofs.read_units.Goals.{
  else-n-most-via-then-n-most+else-n-unit,
  else-n-most-via-else-n-most,
  else-y-via-then-y+else-y-2,
  else-y-via-else-y,
}

pub truncating_f64_to_u64-n-requires : goal.truncating_f64_to_u64-n-requires
truncating_f64_to_u64-n-requires c =
    let range = in_range_lem (div binary64 c.args.x c.args.unit) c.if-y.true c.if-y-2.true in
    record { lower_bound = range.above; upper_bound = range.below }

pub overflow_cast-n : goal.overflow_cast-n
overflow_cast-n c =
    let range = in_range_lem (div binary64 c.args.x c.args.unit) c.if-y.true c.if-y-2.true in
    record { fits = subst (λ (n : ℕ). n < 4294967296) (sym c.truncating_f64_to_u64-n.ensures) range.high }

pub returns-then-n-unit : goal.returns-then-n-unit
returns-then-n-unit c =
    let range = in_range_lem (div binary64 c.args.x c.args.unit) c.if-y.true c.if-y-2.true in
    let n-is = c.truncating_f64_to_u64-n.ensures in
    let n-low = subst (λ (n : ℕ). 1 ≤ n) (sym n-is) range.low in
    let n-high = subst (λ (n : ℕ). n < 4294967296) (sym n-is) range.high in
    λ a h.
    sym (same c.args.x c.args.unit c.args.most c.ranges.most.fits a h c.truncating_f64_to_u64-n.result n-is n-high
    n-low c.if-n-most.true c.if-n-unit.true)

pub returns-else-n-most : goal.returns-else-n-most
returns-else-n-most c =
    let range = in_range_lem (div binary64 c.args.x c.args.unit) c.if-y.true c.if-y-2.true in
    let n = c.truncating_f64_to_u64-n.result in
    let n-is = c.truncating_f64_to_u64-n.ensures in
    let n-high = subst (λ (n : ℕ). n < 4294967296) (sym n-is) range.high in
    λ a h.
    elim c.else-n-most.branch [
      | else-n-most-via-then-n-most+else-n-unit w ↦
          sym (other c.args.x c.args.unit c.args.most c.ranges.most.fits a h n n-is n-high w.if-n-unit.false)
      | else-n-most-via-else-n-most w ↦
          sym (too_many c.args.x c.args.unit c.args.most c.ranges.most.fits a h n n-is w.if-n-most.false)
    ]

pub returns-else-y : goal.returns-else-y
returns-else-y c =
    λ a h.
    elim c.else-y.branch [
      | else-y-via-then-y+else-y-2 w ↦
          sym (too_high c.args.x c.args.unit c.args.most c.ranges.most.fits a h w.if-y-2.false)
      | else-y-via-else-y w ↦ sym (too_low c.args.x c.args.unit c.args.most c.ranges.most.fits a h w.if-y.false)
    ]
