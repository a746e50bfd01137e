-- Both round trips: every n in range is read back from its figure, and what is read as n is the very figure of n.
-- Assumes nothing.
use Rattle.std.proofs.Common.{◌≡◌, ℕ, ◌*◌, ◌^◌, ◌<◌, ◌≤◌, false, T, sym, refl, ap, subst, lt_of_le_of_lt, mul-le-mul_left, mul-pos, one-mul, lit<}
use lib.Ieee.{Float, binary64, fits, round}
use lib.Ieee.Fits.{round-fits}
use lib.Ieee.Exact.{HasValue}
use Rattle.line.specs.Ranges.{top_speed, top_slope}
use Rattle.figures.specs.Figures.{given, units_of, speed_units, slope_units, speed_hz, slope_hz, ReadBack}
use Rattle.figures.proofs.Values.{quarter}
use Rattle.figures.proofs.Read.{reads, only, refuses}
use Rattle.figures.proofs.Unique.{value_unique}

-- ---- a scale of a / 4 up to most, with f for its figures

abbrev rounded : ℕ → ℕ → Float
rounded a n = round binary64 false (a * n) 4

module _ (a most : ℕ) (f : ℕ → Float) (E : (n : ℕ) → rounded a n ≡ f n) (A : 0 < a) (S : a * most < 2 ^ 53) where
  value : (n : ℕ) → n ≤ most → HasValue (f n) false (a * n) 4
  value n U =
      subst (λ (y : Float). HasValue y false (a * n) 4) (E n) (quarter (a * n) (lt_of_le_of_lt (mul-le-mul_left a U) S))

  trip : (n : ℕ) → 1 ≤ n → n ≤ most → units_of a 4 most (f n) ≡ given n
  trip n L U = reads a 4 most n (f n) A L U (value n U)

  is : (n : ℕ) (x : Float) → T (fits binary64 x) → 1 ≤ n → n ≤ most → HasValue x false (a * n) 4 → x ≡ f n
  is n x F L U v =
      value_unique binary64 x (f n) false (a * n) 4 (mul-pos A L) (lit< tt) F
      (subst (λ (y : Float). T (fits binary64 y)) (E n) (round-fits binary64 false (a * n) 4)) v (value n U)

  back : (x : Float) → T (fits binary64 x) → ReadBack f most x (units_of a 4 most x)
  back x F =
      record {
        reads = λ n L U e. subst (λ (y : Float). units_of a 4 most y ≡ given n) (sym e) (trip n L U);
        only = λ n e. let k = only a 4 most n x e in (k.0, k.1, is n x F k.0 k.1 k.2);
        refuses = λ no. refuses a 4 most x (λ n L U v. no n L U (is n x F L U v));
      }

-- ---- the two scales

speed_rounded : (n : ℕ) → rounded 1 n ≡ speed_hz n
speed_rounded n = ap (λ (z : ℕ). round binary64 false z 4) (one-mul n)

-- every n in range is read back
pub speed_trip : (n : ℕ) → 1 ≤ n → n ≤ top_speed → speed_units (speed_hz n) ≡ given n
speed_trip = trip 1 top_speed speed_hz speed_rounded (lit< tt) (lit< tt)

pub slope_trip : (n : ℕ) → 1 ≤ n → n ≤ top_slope → slope_units (slope_hz n) ≡ given n
slope_trip = trip 5 top_slope slope_hz (λ n. refl) (lit< tt) (lit< tt)

-- the reading of an f64 is that of figures, and nothing else
pub speed_back : (x : Float) → T (fits binary64 x) → ReadBack speed_hz top_speed x (speed_units x)
speed_back = back 1 top_speed speed_hz speed_rounded (lit< tt) (lit< tt)

pub slope_back : (x : Float) → T (fits binary64 x) → ReadBack slope_hz top_slope x (slope_units x)
slope_back = back 5 top_slope slope_hz (λ n. refl) (lit< tt) (lit< tt)

-- what is read as n is the f64 of n
pub speed_is : (n : ℕ) (x : Float) → T (fits binary64 x) → speed_units x ≡ given n → x ≡ speed_hz n
speed_is n x F e = ((speed_back x F).only n e).2

pub slope_is : (n : ℕ) (x : Float) → T (fits binary64 x) → slope_units x ≡ given n → x ≡ slope_hz n
slope_is n x F e = ((slope_back x F).only n e).2
