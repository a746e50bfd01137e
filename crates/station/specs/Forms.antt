-- What a command of the MD5230D says (source document 001, chapters 2, 3.2.3, 3.2.10, 3.3.1, 3.4.1), for the four of
-- them that we convert. Its characters are followed by [NULL], the byte 00; △ is a space (32).
use Rattle.std.specs.Prelude.{ℕ, ◌+◌, ◌-◌, ◌*◌, Bool, true, cond, not, ◌&&◌, ◌||◌, List, [], ◌∷◌, eqb, ℤ, pos, length, get_or, drop}
use Rattle.laws.specs.Axes.{directed}
use Rattle.line.specs.Ranges.{is_within}
use Rattle.machine.specs.Calls.{chars}
use Rattle.text.specs.Parts.{part, parts, same}

-- ---- The characters, the end, the name

-- What stands before the first 00, or all.
abbrev pub text_of : List ℕ → List ℕ
text_of l = part 0 0 l

-- 00 is the last byte and the only one.
abbrev pub is_ended : List ℕ → Bool
is_ended l = eqb (parts 0 l) 2 && same (part 0 1 l) []

-- The words of a text: what stands between spaces.
abbrev pub words : List ℕ → ℕ
words t = parts 32 t

abbrev pub word : ℕ → List ℕ → List ℕ
word k t = part 32 k t

-- The name runs to the first space or 00.
abbrev pub name_of : List ℕ → List ℕ
name_of l = word 0 (text_of l)

-- ---- Numbers of any length

abbrev pub is_digit : ℕ → Bool
is_digit c = is_within c 48 57

unfoldable pub are_digits : List ℕ → Bool
are_digits [] = true
are_digits (c ∷ cs) = is_digit c && are_digits cs

-- One decimal digit or more.
abbrev pub is_number : List ℕ → Bool
is_number w = not (eqb (length w) 0) && are_digits w

-- The number that digits spell behind those of n.
unfoldable pub joined : ℕ → List ℕ → ℕ
joined n [] = n
joined n (c ∷ cs) = joined (n * 10 + (c - 48)) cs

abbrev pub number_of : List ℕ → ℕ
number_of w = joined 0 w

-- A distance may have a minus sign (45) before it.
abbrev pub has_minus : List ℕ → Bool
has_minus w = eqb (get_or w 0 0) 45

abbrev pub unsigned : List ℕ → List ℕ
unsigned w = cond (has_minus w) (drop 1 w) w

abbrev pub is_distance : List ℕ → Bool
is_distance w = is_number (unsigned w)

abbrev pub distance_of : List ℕ → ℤ
distance_of w = directed (has_minus w) (number_of (unsigned w))

-- ---- The four forms

pub data Form : Type 0 where
  -- another form
  other : Form
  -- SPD: a drive speed in pps
  speed : ℕ → Form
  -- INC, LNI: the distances of X and Y
  move : ℤ → ℤ → Form
  -- SST
  stop : Form

abbrev pub is_x : List ℕ → Bool
is_x w = same w (chars "X")

abbrev pub is_y : List ℕ → Bool
is_y w = same w (chars "Y")

-- Command Name△Axis Assignment△Drive Speed: one speed for both axes.
abbrev pub speed_form : List ℕ → Form
speed_form t =
    cond (eqb (words t) 3 && ((is_x (word 1 t) || is_y (word 1 t)) && is_number (word 2 t)))
    (speed (number_of (word 2 t)))
    other

-- Command Name△Axis Assignment△Relative position by pulses.
abbrev pub single_form : List ℕ → Form
single_form t =
    cond (eqb (words t) 3 && is_distance (word 2 t))
    (cond (is_x (word 1 t)) (move (distance_of (word 2 t)) (pos 0))
    (cond (is_y (word 1 t)) (move (pos 0) (distance_of (word 2 t)))
    other))
    other

-- What stands before the first comma (44) and behind it; there one space may come first.
abbrev pub front : List ℕ → List ℕ
front t = part 44 0 t

abbrev pub back : List ℕ → List ℕ
back t = cond (eqb (get_or (part 44 1 t) 0 0) 32) (drop 1 (part 44 1 t)) (part 44 1 t)

-- Command Name△X-axis△Finish Point, Y-axis△Finish Point.
abbrev pub is_pair : List ℕ → Bool
is_pair t =
    eqb (parts 44 t) 2
    && ((eqb (words (front t)) 3 && (is_x (word 1 (front t)) && is_distance (word 2 (front t))))
    && (eqb (words (back t)) 2 && (is_y (word 0 (back t)) && is_distance (word 1 (back t)))))

abbrev pub pair_form : List ℕ → Form
pair_form t =
    cond (is_pair t) (move (distance_of (word 2 (front t))) (distance_of (word 1 (back t)))) other

-- Command Name△Axis Assignment; Command Name△X-axis, Y-axis.
abbrev pub stop_form : List ℕ → Form
stop_form t =
    cond (same t (chars "SST X") || (same t (chars "SST Y") || (same t (chars "SST X,Y") || same t (chars "SST X, Y"))))
    stop
    other

-- The four that we convert, by their names.
abbrev pub is_ours : List ℕ → Bool
is_ours w = same w (chars "SPD") || (same w (chars "INC") || (same w (chars "LNI") || same w (chars "SST")))

abbrev pub form_as : List ℕ → List ℕ → Form
form_as name t =
    cond (same name (chars "SPD")) (speed_form t)
    (cond (same name (chars "INC")) (single_form t)
    (cond (same name (chars "LNI")) (pair_form t)
    (cond (same name (chars "SST")) (stop_form t)
    other)))

-- What a command says; nothing without its end.
unfoldable pub form_of : List ℕ → Form
form_of l = cond (is_ended l) (form_as (name_of l) (text_of l)) other
