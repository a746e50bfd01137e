-- Numbers as people write them: decimal or hexadecimal, with a sign, and with a decimal fraction.
use Rattle.std.specs.Prelude.{ℕ, ◌+◌, ◌-◌, ◌*◌, ◌/◌, ◌%◌, min, Bool, true, false, cond, List, [], ◌∷◌, ltb, eqb, length, get_or, drop, Option, Some, None, Result, Ok, Err}
use Rattle.digits.specs.Digits.{digit_of}
use Rattle.digits.specs.declared.Digit.{Digit}
use Rattle.digits.specs.declared.Digit.TheVariants.{Capital, Small}
use Rattle.text.specs.Parts.{part, parts}
use Rattle.numerals.specs.declared.Signed.{Signed}
use Rattle.numerals.specs.declared.NoFigure.{NoFigure}
use Rattle.numerals.specs.declared.NoFigure.TheVariants.{Misspelled, Inexact}

-- The largest number that is told apart: a larger one counts as this. No command takes as much.
abbrev pub largest : ℕ
largest = 4294967295

-- ---- A row of digits in a base, 10 or 16, the highest first; letters of either case

-- The number n with a digit of the value v behind it, if the base has that digit.
abbrev pub join_value : ℕ → ℕ → ℕ → Option ℕ
join_value base n v = cond (ltb v base) (Some (min largest (n * base + v))) None

abbrev pub join_digit : ℕ → ℕ → Option Digit → Option ℕ
join_digit base n None = None
join_digit base n (Some (Capital v)) = join_value base n v
join_digit base n (Some (Small v)) = join_value base n v

abbrev pub join_of : ℕ → Option ℕ → ℕ → Option ℕ
join_of base None c = None
join_of base (Some n) c = join_digit base n (digit_of c)

unfoldable pub read_on : ℕ → Option ℕ → List ℕ → Option ℕ
read_on base so_far [] = so_far
read_on base so_far (c ∷ cs) = read_on base (join_of base so_far c) cs

-- One digit or more.
abbrev pub spelled_of : ℕ → List ℕ → Option ℕ
spelled_of base cs = cond (eqb (length cs) 0) None (read_on base (Some 0) cs)

-- ---- A decimal number that may have a minus sign (45) before it

abbrev pub signs : Bool → Option ℕ → Option Signed
signs minus None = None
signs minus (Some n) = Some (record { minus = minus; size = n })

abbrev pub has_minus : List ℕ → Bool
has_minus cs = eqb (get_or cs 0 0) 45

abbrev pub signed_of : List ℕ → Option Signed
signed_of cs =
    cond (has_minus cs) (signs true (spelled_of 10 (drop 1 cs)))
    (signs false (spelled_of 10 cs))

-- ---- A figure: a decimal number, or one with a point (46) and decimal digits behind it, as a whole number of quarters

-- The value of the decimal digit at a place of a fraction; 0 where there is none.
abbrev pub digit_at : List ℕ → ℕ → ℕ
digit_at cs i = get_or cs i 48 - 48

-- Its first two digits as a number, and whether those from the third on are all 0 (48).
abbrev pub hundredths : List ℕ → ℕ
hundredths cs = digit_at cs 0 * 10 + digit_at cs 1

unfoldable pub noughts : List ℕ → Bool
noughts [] = true
noughts (c ∷ cs) = cond (eqb c 48) (noughts cs) false

abbrev pub zeros : List ℕ → Bool
zeros cs = noughts (drop 2 cs)

-- w wholes and a fraction of these digits: quarters only where the hundredths are 00, 25, 50 or 75 and nothing follows.
abbrev pub quarters_of : ℕ → List ℕ → Result ℕ NoFigure
quarters_of w cs =
    cond (zeros cs)
    (cond (eqb (hundredths cs % 25) 0) (Ok (min largest (w * 4 + hundredths cs / 25))) (Err Inexact))
    (Err Inexact)

-- The digits behind the point spell a number, or they are none.
abbrev pub with_fraction : ℕ → Option ℕ → List ℕ → Result ℕ NoFigure
with_fraction w None cs = Err Misspelled
with_fraction w (Some f) cs = quarters_of w cs

-- No point: w wholes. One: the digits behind it.
abbrev pub fraction_of : ℕ → List ℕ → Result ℕ NoFigure
fraction_of w cs =
    cond (eqb (parts 46 cs) 1) (Ok (min largest (w * 4)))
    (cond (eqb (parts 46 cs) 2) (with_fraction w (spelled_of 10 (part 46 1 cs)) (part 46 1 cs))
    (Err Misspelled))

abbrev pub whole_of : Option ℕ → List ℕ → Result ℕ NoFigure
whole_of None cs = Err Misspelled
whole_of (Some w) cs = fraction_of w cs

abbrev pub plain_figure : List ℕ → Result ℕ NoFigure
plain_figure cs = whole_of (spelled_of 10 (part 46 0 cs)) cs

-- With a minus sign before it a figure is out of every range, as one that is not exact.
abbrev pub below : Result ℕ NoFigure → Result ℕ NoFigure
below (Err Misspelled) = Err Misspelled
below (Err Inexact) = Err Inexact
below (Ok q) = Err Inexact

abbrev pub figure_of : List ℕ → Result ℕ NoFigure
figure_of cs =
    cond (has_minus cs) (below (plain_figure (drop 1 cs)))
    (plain_figure cs)
