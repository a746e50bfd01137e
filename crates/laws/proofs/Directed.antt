-- No step, in either direction. Assumes nothing.
use mathlib.Core.Bool.{Bool, true, false}
use mathlib.Core.Path.{◌≡◌, refl}
use lib.IntN.{pos}
use Rattle.laws.specs.Axes.{directed}

pub no_step : (minus : Bool) → directed minus 0 ≡ pos 0
no_step true = refl
no_step false = refl
