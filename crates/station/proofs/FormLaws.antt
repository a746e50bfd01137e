-- What the code reads, test by test, is what the command says, as it is held. Assumes nothing.
use Rattle.std.proofs.Common.{Option, Some, None, option_map, MatchOption, IsSomeAnd}
use Prim.Native.Nat.{ℕ, ◌+◌, min}
use mathlib.Core.Bool.{Bool, true, false, cond, ◌&&◌, ◌||◌}
use mathlib.Core.List.{List}
use mathlib.Core.Path.{◌≡◌, refl, ap, ◌∙◌}
use lib.Dec.{eqb}
use lib.IntN.{ℤ, pos}
use Rattle.text.specs.Parts.{parts, same}
use Rattle.numerals.specs.Numerals.{largest, spelled_of, signed_of}
use Rattle.machine.specs.Calls.{chars}
use Rattle.station.specs.declared.points.Distance.{Distance}
use Rattle.station.specs.declared.forms.Form as D
use Rattle.station.specs.declared.forms.Form.TheVariants as F
use Rattle.station.specs.Forms.{
  Form,
  other,
  speed,
  move,
  stop,
  words,
  word,
  is_x,
  is_y,
  is_number,
  number_of,
  is_distance,
  distance_of,
  speed_form,
  single_form,
  front,
  back,
  pair_form,
  stop_form,
  form_as,
}
use Rattle.station.specs.Held.{held, held_form, still, is_point, point_of}
use Rattle.station.proofs.NumberLaws.{spelled, distance_in, measured}

-- What `map` says of its answer r.
pub mapped : {A B : Type 0} (f : A → B) (o : Option A) (r : Option B)
    → MatchOption o (r ≡ None) (λ x. IsSomeAnd r (λ y. y ≡ f x)) → r ≡ option_map f o
mapped f None r e = e
mapped f (Some x) None e = absurd e
mapped f (Some x) (Some y) e = ap Some e

-- A drive speed that is read, if one is; a move of X, or one of Y; a move of both.
abbrev pub rate_of : Option ℕ → Option D.Form
rate_of n = option_map F.Speed n

abbrev pub either_of : Option Distance → Option Distance → Option D.Form
either_of (Some x) y = Some (F.Move x still)
either_of None y = option_map (F.Move still) y

abbrev pub both_of : Option Distance → Option Distance → Option D.Form
both_of None y = None
both_of (Some x) y = option_map (F.Move x) y

-- A choice of forms is held as the choice of what is held.
pub choice : (t : Bool) (f g : Form) → cond t (held_form f) (held_form g) ≡ held_form (cond t f g)
choice true f g = refl
choice false f g = refl

module _ (t : List ℕ) where
  -- SPD: three words, an axis, a number.
  pub speed_read : cond (eqb (words t) 3)
      (cond (is_x (word 1 t) || is_y (word 1 t)) (rate_of (spelled_of 10 (word 2 t))) None) None
      ≡ held_form (speed_form t)
  speed_read =
      ap (λ (s : Option ℕ). cond (eqb (words t) 3) (cond (is_x (word 1 t) || is_y (word 1 t)) (rate_of s) None) None)
      (spelled (word 2 t))
      ∙ when (eqb (words t) 3) (is_x (word 1 t) || is_y (word 1 t)) (is_number (word 2 t)) (number_of (word 2 t))
    where
      when : (a b d : Bool) (n : ℕ)
          → cond a (cond b (rate_of (cond d (Some (min largest n)) None)) None) None
          ≡ held_form (cond (a && (b && d)) (speed n) other)
      when false b d n = refl
      when true false d n = refl
      when true true true n = refl
      when true true false n = refl

  -- An axis and its distance.
  pub point_read : (k : ℕ) (axis : List ℕ)
      → cond (eqb (words t) (k + 2)) (cond (same (word k t) axis) (distance_in (signed_of (word (k + 1) t))) None)
      None
      ≡ point_of k axis t
  point_read k axis =
      ap (λ (p : Option Distance). cond (eqb (words t) (k + 2)) (cond (same (word k t) axis) p None) None)
      (measured (word (k + 1) t))
      ∙ when (eqb (words t) (k + 2)) (same (word k t) axis) (is_distance (word (k + 1) t)) _
    where
      when : (a b d : Bool) (at : Option Distance)
          → cond a (cond b (cond d at None) None) None ≡ cond (a && (b && d)) at None
      when false b d at = refl
      when true false d at = refl
      when true true d at = refl

  -- INC: a point of X or one of Y.
  pub single_read : either_of (point_of 1 (chars "X") t) (point_of 1 (chars "Y") t) ≡ held_form (single_form t)
  single_read =
      when (eqb (words t) 3) (is_distance (word 2 t)) (is_x (word 1 t)) (is_y (word 1 t)) (distance_of (word 2 t))
    where
      when : (a d x y : Bool) (z : ℤ)
          → either_of (cond (a && (x && d)) (Some (held z)) None) (cond (a && (y && d)) (Some (held z)) None)
          ≡ held_form (cond (a && d) (cond x (move z (pos 0)) (cond y (move (pos 0) z) other)) other)
      when false d x y z = refl
      when true true true y z = refl
      when true true false true z = refl
      when true true false false z = refl
      when true false true true z = refl
      when true false true false z = refl
      when true false false true z = refl
      when true false false false z = refl

  -- LNI: a point of X before the comma and one of Y behind it.
  pub pair_read : cond (eqb (parts 44 t) 2)
      (both_of (point_of 1 (chars "X") (front t)) (point_of 0 (chars "Y") (back t))) None
      ≡ held_form (pair_form t)
  pair_read =
      when (eqb (parts 44 t) 2) (is_point 1 (chars "X") (front t)) (is_point 0 (chars "Y") (back t)) _ _
    where
      when : (a p q : Bool) (x y : ℤ)
          → cond a (both_of (cond p (Some (held x)) None) (cond q (Some (held y)) None)) None
          ≡ held_form (cond (a && (p && q)) (move x y) other)
      when false p q x y = refl
      when true false q x y = refl
      when true true true x y = refl
      when true true false x y = refl

  -- SST: one of four texts.
  pub stop_read : cond (same t (chars "SST X")) (Some F.Stop)
      (cond (same t (chars "SST Y")) (Some F.Stop)
      (cond (same t (chars "SST X,Y")) (Some F.Stop)
      (cond (same t (chars "SST X, Y")) (Some F.Stop)
      None)))
      ≡ held_form (stop_form t)
  stop_read =
      when (same t (chars "SST X")) (same t (chars "SST Y")) (same t (chars "SST X,Y")) (same t (chars "SST X, Y"))
    where
      when : (a b c d : Bool)
          → cond a (Some F.Stop) (cond b (Some F.Stop) (cond c (Some F.Stop) (cond d (Some F.Stop) None)))
          ≡ held_form (cond (a || (b || (c || d))) stop other)
      when true b c d = refl
      when false true c d = refl
      when false false true d = refl
      when false false false true = refl
      when false false false false = refl

  -- One of the four, by its name.
  pub name_read : (n : List ℕ)
      → cond (same n (chars "SPD")) (held_form (speed_form t))
      (cond (same n (chars "INC")) (held_form (single_form t))
      (cond (same n (chars "LNI")) (held_form (pair_form t))
      (cond (same n (chars "SST")) (held_form (stop_form t))
      None)))
      ≡ held_form (form_as n t)
  name_read n = when (same n (chars "SPD")) (same n (chars "INC")) (same n (chars "LNI")) (same n (chars "SST"))
    where
      when : (a b c d : Bool)
          → cond a (held_form (speed_form t)) (cond b (held_form (single_form t)) (cond c (held_form (pair_form t))
          (cond d (held_form (stop_form t)) None)))
          ≡ held_form (cond a (speed_form t) (cond b (single_form t) (cond c (pair_form t) (cond d (stop_form t) other))))
      when true b c d = refl
      when false true c d = refl
      when false false true d = refl
      when false false false true = refl
      when false false false false = refl
