-- Readings by computing: figures of both scales, and f64 values at their edges and beside them. Assumes nothing.
use Rattle.std.proofs.Common.{◌≡◌, refl}
use lib.Ieee.{binary64, of_bits}
use Rattle.figures.specs.Figures.{given, turned, units_of, speed_units, slope_units}

-- speeds: 0.25, 0.5 and 250,000 Hz

quarter : speed_units (of_bits binary64 0x3fd0_0000_0000_0000) ≡ given 1
unfolding units_of of_bits
quarter = refl

half : speed_units (of_bits binary64 0x3fe0_0000_0000_0000) ≡ given 2
unfolding units_of of_bits
half = refl

fastest : speed_units (of_bits binary64 0x410e_8480_0000_0000) ≡ given 1000000
unfolding units_of of_bits
fastest = refl

-- no speeds: the f64 above 0.25 and below it, 0.26, 0.1, 250,000.25

above_quarter : speed_units (of_bits binary64 0x3fd0_0000_0000_0001) ≡ turned 21
unfolding units_of of_bits
above_quarter = refl

below_quarter : speed_units (of_bits binary64 0x3fcf_ffff_ffff_ffff) ≡ turned 21
unfolding units_of of_bits
below_quarter = refl

hundredths : speed_units (of_bits binary64 0x3fd0_a3d7_0a3d_70a4) ≡ turned 21
unfolding units_of of_bits
hundredths = refl

tenth : speed_units (of_bits binary64 0x3fb9_9999_9999_999a) ≡ turned 21
unfolding units_of of_bits
tenth = refl

over : speed_units (of_bits binary64 0x410e_8482_0000_0000) ≡ turned 21
unfolding units_of of_bits
over = refl

-- nor 0, -0, -0.25, the least f64 above 0, the largest, the infinities, NaN

zero : speed_units (of_bits binary64 0x0000_0000_0000_0000) ≡ turned 21
unfolding units_of of_bits
zero = refl

minus_zero_lem : speed_units (of_bits binary64 0x8000_0000_0000_0000) ≡ turned 21
unfolding units_of of_bits
minus_zero_lem = refl

minus_quarter : speed_units (of_bits binary64 0xbfd0_0000_0000_0000) ≡ turned 21
unfolding units_of of_bits
minus_quarter = refl

least : speed_units (of_bits binary64 0x0000_0000_0000_0001) ≡ turned 21
unfolding units_of of_bits
least = refl

most : speed_units (of_bits binary64 0x7fef_ffff_ffff_ffff) ≡ turned 21
unfolding units_of of_bits
most = refl

infinity : speed_units (of_bits binary64 0x7ff0_0000_0000_0000) ≡ turned 21
unfolding units_of of_bits
infinity = refl

minus_infinity : speed_units (of_bits binary64 0xfff0_0000_0000_0000) ≡ turned 21
unfolding units_of of_bits
minus_infinity = refl

not_a_number : speed_units (of_bits binary64 0x7ff8_0000_0000_0000) ≡ turned 21
unfolding units_of of_bits
not_a_number = refl

-- slopes: 1.25 and 5,118.75 Hz per ms

shallowest : slope_units (of_bits binary64 0x3ff4_0000_0000_0000) ≡ given 1
unfolding units_of of_bits
shallowest = refl

steepest : slope_units (of_bits binary64 0x40b3_fec0_0000_0000) ≡ given 4095
unfolding units_of of_bits
steepest = refl

-- no slopes: the f64 above 1.25, 0.25, 2, 5,120, NaN

above_shallowest : slope_units (of_bits binary64 0x3ff4_0000_0000_0001) ≡ turned 21
unfolding units_of of_bits
above_shallowest = refl

fifth : slope_units (of_bits binary64 0x3fd0_0000_0000_0000) ≡ turned 21
unfolding units_of of_bits
fifth = refl

two : slope_units (of_bits binary64 0x4000_0000_0000_0000) ≡ turned 21
unfolding units_of of_bits
two = refl

too_steep : slope_units (of_bits binary64 0x40b4_0000_0000_0000) ≡ turned 21
unfolding units_of of_bits
too_steep = refl

no_number : slope_units (of_bits binary64 0x7ff8_0000_0000_0000) ≡ turned 21
unfolding units_of of_bits
no_number = refl
