-- How the code holds what a command says, and what its private functions answer: a means of proof, not what a reader
-- must believe. A number from the largest that is told apart on counts as that: it is out of range as the number is.
use Rattle.std.specs.Prelude.{ℕ, ◌+◌, ◌*◌, min, Bool, false, cond, not, ◌&&◌, ◌||◌, List, [], ◌∷◌, ltb, eqb, ℤ, nat_abs, length, Option, Some, None, Result, Ok, Err}
use Rattle.laws.specs.Axes.{is_minus}
use Rattle.line.specs.declared.command.Command.TheVariants as C
use Rattle.text.specs.Parts.{same}
use Rattle.numerals.specs.Numerals.{largest}
use Rattle.numerals.specs.declared.Signed.{Signed}
use Rattle.host.specs.Master.{master_of}
use Rattle.host.specs.declared.Request.{Request}
use Rattle.station.specs.declared.Refusal.{Refusal}
use Rattle.station.specs.declared.Refusal.TheVariants.{OutOfRange}
use Rattle.station.specs.declared.Requests.{Requests}
use Rattle.station.specs.declared.points.Distance.{Distance}
use Rattle.station.specs.declared.forms.Form as D
use Rattle.station.specs.declared.forms.Form.TheVariants as F
use Rattle.station.specs.Forms.{Form, other, speed, move, stop, words, word, is_distance, distance_of}
use Rattle.station.specs.Station.{asks, places}

-- ---- What is held

abbrev pub held : ℤ → Distance
held z = record { minus = is_minus z; size = min largest (nat_abs z) }

abbrev pub held_form : Form → Option D.Form
held_form other = None
held_form (speed n) = Some (F.Speed (min largest n))
held_form (move x y) = Some (F.Move (held x) (held y))
held_form stop = Some F.Stop

-- ---- What is read

abbrev pub still : Distance
still = record { minus = false; size = 0 }

-- 0 is plus, whatever its sign.
abbrev pub measured_of : Signed → Distance
measured_of z = record { minus = z.minus && not (eqb z.size 0); size = z.size }

-- A text of two words more than k: an axis, then a distance.
abbrev pub is_point : ℕ → List ℕ → List ℕ → Bool
is_point k axis t = eqb (words t) (k + 2) && (same (word k t) axis && is_distance (word (k + 1) t))

abbrev pub point_of : ℕ → List ℕ → List ℕ → Option Distance
point_of k axis t = cond (is_point k axis t) (Some (held (distance_of (word (k + 1) t)))) None

-- ---- What is answered

-- Command values, in their six places.
abbrev pub requests : List Request → Requests
requests rs = record { count = length rs; requests = places rs }

abbrev pub held_speed : ℕ → Result Requests Refusal
held_speed n =
    cond (eqb n 0 || ltb 250000 n)
    (Err OutOfRange)
    (Ok (requests (asks (C.Set 8 (4 * n)) ∷ [])))

abbrev pub held_distance : ℕ → Distance → Request
held_distance k d = asks (C.Distance k d.minus d.size)

abbrev pub moved_values : Distance → Distance → List Request
moved_values x y =
    held_distance 0 x
    ∷ held_distance 1 y
    ∷ held_distance 2 still
    ∷ held_distance 3 still
    ∷ held_distance 4 still
    ∷ asks (C.Start (master_of (x.size ∷ y.size ∷ 0 ∷ 0 ∷ 0 ∷ [])) false)
    ∷ []

abbrev pub held_move : Distance → Distance → Result Requests Refusal
held_move x y =
    cond (ltb 524287 x.size || ltb 524287 y.size)
    (Err OutOfRange)
    (Ok (requests (moved_values x y)))

-- What one of the four says.
abbrev pub held_answer : D.Form → Result Requests Refusal
held_answer (F.Speed n) = held_speed n
held_answer (F.Move x y) = held_move x y
held_answer F.Stop = Ok (requests (asks (C.Order 9) ∷ []))
