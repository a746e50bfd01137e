-- What a command says and the format lines of source document 001: each command in one of its formats says what it
-- spells, and no other says anything. `convert` promises `Spelled`.
use Rattle.std.specs.Prelude.{ℕ, Bool, true, false, cond, List, [], ◌∷◌, ◌++◌, ◌≡◌, pos}
use Rattle.laws.specs.Axes.{directed}
use Rattle.text.specs.Decimal.{decimal_of, sign_text}
use Rattle.machine.specs.Calls.{chars}
use Rattle.station.specs.Forms.{
  Form,
  speed,
  move,
  stop,
  is_number,
  number_of,
  is_distance,
  distance_of,
  form_of,
}
use Rattle.station.specs.Station.{is_other}

-- A text and its [NULL].
abbrev pub ended : List ℕ → List ℕ
ended t = t ++ (0 ∷ [])

-- A space behind a comma, or none: the document prints both.
abbrev pub gap : Bool → List ℕ
gap spaced = cond spaced (32 ∷ []) []

-- The commands in these formats, with v and w where the document has nnnn.
pub data Spells (l : List ℕ) (f : Form) : Type 0 where
  -- 3.4.1
  spd_x : (w : List ℕ) → is_number w ≡ true → l ≡ ended (chars "SPD X " ++ w) → f ≡ speed (number_of w) → Spells l f
  spd_y : (w : List ℕ) → is_number w ≡ true → l ≡ ended (chars "SPD Y " ++ w) → f ≡ speed (number_of w) → Spells l f
  -- 3.2.3
  inc_x : (w : List ℕ) → is_distance w ≡ true → l ≡ ended (chars "INC X " ++ w) → f ≡ move (distance_of w) (pos 0)
      → Spells l f
  inc_y : (w : List ℕ) → is_distance w ≡ true → l ≡ ended (chars "INC Y " ++ w) → f ≡ move (pos 0) (distance_of w)
      → Spells l f
  -- 3.3.1
  lni : (spaced : Bool) (v w : List ℕ) → is_distance v ≡ true → is_distance w ≡ true
      → l ≡ ended (chars "LNI X " ++ (v ++ (chars "," ++ (gap spaced ++ (chars "Y " ++ w)))))
      → f ≡ move (distance_of v) (distance_of w) → Spells l f
  -- 3.2.10
  sst_x : l ≡ ended (chars "SST X") → f ≡ stop → Spells l f
  sst_y : l ≡ ended (chars "SST Y") → f ≡ stop → Spells l f
  sst_both : (spaced : Bool) → l ≡ ended (chars "SST X," ++ (gap spaced ++ chars "Y")) → f ≡ stop → Spells l f

pub record Spelled : Type 0 where
  -- A command in one of the formats says what it spells,
  pub complete : (l : List ℕ) (f : Form) → Spells l f → form_of l ≡ f
  -- and a command that says something is in one of them.
  pub sound : (l : List ℕ) → is_other (form_of l) ≡ false → Spells l (form_of l)
  -- The decimal digits of a number spell it, and with a minus sign before them or none they spell a distance.
  pub numbers : (n : ℕ) → (is_number (decimal_of n) ≡ true) × (number_of (decimal_of n) ≡ n)
  pub distances : (minus : Bool) (n : ℕ)
      → (is_distance (sign_text minus n) ≡ true) × (distance_of (sign_text minus n) ≡ directed minus n)
