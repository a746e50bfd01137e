-- The number that digits spell, as the code reads it: up to the largest that is told apart it is the number, and a
-- larger one counts as that, so that none wraps. A distance with its sign. Assumes nothing.
use Rattle.std.proofs.Common.{Option, Some, None, option_map}
use Prim.Native.Nat.{ℕ, zero, suc, ◌+◌, ◌-◌, ◌*◌, min, ◌≤◌, ◌<◌}
use native.Mathlib.Omega.{arith}
use mathlib.Core.Bool.{Bool, true, false, cond, not, ◌&&◌}
use mathlib.Core.List.{List, [], ◌∷◌}
use mathlib.Core.Path.{◌≡◌, refl, ap, ◌∙◌}
use borrow.Author.Tests.{le-leb, lt-leb, lt-ltb, le-ltb, ne_eqb}
use lib.Dec.{eqb}
use lib.ListN.{length, drop}
use Rattle.laws.specs.Axes.{directed}
use Rattle.laws.proofs.Pick.{by_lt}
use Rattle.digits.specs.declared.Digit.{Digit}
use Rattle.digits.specs.declared.Digit.TheVariants.{Capital}
use Rattle.numerals.specs.declared.Signed.{Signed}
use Rattle.numerals.specs.Numerals.{largest, join_value, join_digit, join_of, read_on, spelled_of, signs, signed_of}
use Rattle.station.specs.declared.points.Distance.{Distance}
use Rattle.station.specs.Forms.{is_digit, are_digits, is_number, joined, number_of, has_minus, is_distance, distance_of}
use Rattle.station.specs.Held.{held, measured_of}

-- ---- One character more

-- A letter is a digit of another base only.
module _ (n c : ℕ) where
  abbrev Joins : Option ℕ → Type 0
  Joins s = s ≡ cond (is_digit c) (Some (min largest (n * 10 + (c - 48)))) None

  join_over : 57 < c → Joins None
  join_over h = rw (le-leb 48 c (omega arith), lt-leb c 57 h)

  join_under : c < 48 → Joins None
  join_under h = rw (lt-leb 48 c h)

  join_value_lem : (v : ℕ) → 57 < c → 10 ≤ v → Joins (join_value 10 n v)
  join_value_lem v h g = rw (le-ltb v 10 g) (join_over h)

  abbrev Reads : Option Digit → Type 0
  Reads d = Joins (join_digit 10 n d)

  join_digit_lem : 48 ≤ c → c < 58 → Reads (Some (Capital (c - 48)))
  join_digit_lem g h = rw (le-leb 48 c g, le-leb c 57 (omega arith), lt-ltb (c - 48) 10 (omega arith))

  join_one : Joins (join_of 10 (Some n) c)
  join_one =
      by_lt Reads c 48 _ _ (λ h. join_under h) (λ g.
      by_lt Reads c 58 _ _ (λ h. join_digit_lem g h) (λ a.
      by_lt Reads c 65 _ _ (λ h. join_over (omega arith)) (λ b.
      by_lt Reads c 71 _ _ (λ h. join_value_lem (c - 55) (omega arith) (omega arith)) (λ d.
      by_lt Reads c 97 _ _ (λ h. join_over (omega arith)) (λ e.
      by_lt Reads c 103 _ _ (λ h. join_value_lem (c - 87) (omega arith) (omega arith)) (λ f.
      join_over (omega arith)))))))

-- ---- A row of them

read_not : (cs : List ℕ) → read_on 10 None cs ≡ None
unfolding read_on
read_not [] = refl
read_not (c ∷ cs) = read_not cs

-- Read on from the number n, of which m is kept.
read_on_lem : (cs : List ℕ) (m n : ℕ) → m ≡ min largest n
    → read_on 10 (Some m) cs ≡ cond (are_digits cs) (Some (min largest (joined n cs))) None
unfolding read_on are_digits joined
read_on_lem [] m n e = ap Some e
read_on_lem (c ∷ cs) m n e =
    ap (λ (s : Option ℕ). read_on 10 s cs) (join_one m c)
    ∙ when (is_digit c) (read_on_lem cs (min largest (m * 10 + (c - 48))) (n * 10 + (c - 48)) (omega arith))
  where
    when : (t : Bool)
        → read_on 10 (Some (min largest (m * 10 + (c - 48)))) cs
        ≡ cond (are_digits cs) (Some (min largest (joined (n * 10 + (c - 48)) cs))) None
        → read_on 10 (cond t (Some (min largest (m * 10 + (c - 48)))) None) cs
        ≡ cond (t && are_digits cs) (Some (min largest (joined (n * 10 + (c - 48)) cs))) None
    when true p = p
    when false p = read_not cs

pub spelled : (w : List ℕ) → spelled_of 10 w ≡ cond (is_number w) (Some (min largest (number_of w))) None
spelled w = when (eqb (length w) 0)
  where
    when : (t : Bool)
        → cond t None (read_on 10 (Some 0) w) ≡ cond (not t && are_digits w) (Some (min largest (number_of w))) None
    when true = refl
    when false = read_on_lem w 0 0 refl

-- ---- A distance

measured_one : (minus : Bool) (n : ℕ) → measured_of (record { minus = minus; size = min largest n }) ≡ held (directed minus n)
measured_one false n = refl
measured_one true zero = refl
measured_one true (suc n) = rw (ne_eqb (min largest (suc n)) 0 (λ (q : min largest (suc n) ≡ 0). omega arith))

-- The distance that is read, if one is.
abbrev pub distance_in : Option Signed → Option Distance
distance_in s = option_map measured_of s

measured_so : (minus t : Bool) (n : ℕ)
    → distance_in (signs minus (cond t (Some (min largest n)) None)) ≡ cond t (Some (held (directed minus n))) None
measured_so minus true n = ap Some (measured_one minus n)
measured_so minus false n = refl

pub measured : (w : List ℕ) → distance_in (signed_of w) ≡ cond (is_distance w) (Some (held (distance_of w))) None
measured w = when (has_minus w)
  where
    when : (t : Bool)
        → distance_in (cond t (signs true (spelled_of 10 (drop 1 w))) (signs false (spelled_of 10 w)))
        ≡ cond (is_number (cond t (drop 1 w) w)) (Some (held (directed t (number_of (cond t (drop 1 w) w))))) None
    when true =
        ap (λ (s : Option ℕ). distance_in (signs true s)) (spelled (drop 1 w))
        ∙ measured_so true (is_number (drop 1 w)) (number_of (drop 1 w))
    when false =
        ap (λ (s : Option ℕ). distance_in (signs false s)) (spelled w)
        ∙ measured_so false (is_number w) (number_of w)
