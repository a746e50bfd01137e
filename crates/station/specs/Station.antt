-- The converter (paper 02, 8/14): from a command of the MD5230D to command values for the writer, or 27 to 29.
use Rattle.std.specs.Prelude.{ℕ, ◌-◌, ◌*◌, Bool, true, false, cond, not, ◌&&◌, ◌||◌, List, [], ◌∷◌, ◌++◌, ltb, eqb, ℤ, nat_abs, length, replicate, None, Result, Ok, Err}
use Rattle.laws.specs.Axes.{is_minus}
use Rattle.line.specs.declared.command.Command.{Command}
use Rattle.line.specs.declared.command.Command.TheVariants as C
use Rattle.line.specs.declared.command.Reading.TheVariants as R
use Rattle.host.specs.Master.{master_of}
use Rattle.host.specs.declared.Request.{Request}
use Rattle.station.specs.declared.Converted.{Converted}
use Rattle.station.specs.declared.Refusal.{Refusal}
use Rattle.station.specs.declared.Refusal.TheVariants.{Unknown, Lacked, OutOfRange}
use Rattle.station.specs.declared.Requests.{Requests}
use Rattle.station.specs.Names.{is_listed}
use Rattle.station.specs.Forms.{Form, other, speed, move, stop, is_ours, name_of, form_of}

-- ---- The command values of a form

-- Each asks for a reply and carries no identification.
abbrev pub asks : Command → Request
asks c = record { silent = false; command = c; ident = None }

-- A distance of an axis: 0 is plus.
abbrev pub distance : ℕ → ℤ → Request
distance k z = asks (C.Distance k (is_minus z) (nat_abs z))

-- The longer axis is master, as the picker has it.
abbrev pub picked : ℤ → ℤ → ℕ
picked x y = master_of (nat_abs x ∷ nat_abs y ∷ 0 ∷ 0 ∷ 0 ∷ [])

-- n pps are 4n units. X is axis 0, Y axis 1; the other axes get distance 0; then the plain start. The stop order.
abbrev pub values_of : Form → List Request
values_of other = []
values_of (speed n) = asks (C.Set 8 (4 * n)) ∷ []
values_of (move x y) =
    distance 0 x
    ∷ distance 1 y
    ∷ asks (C.Distance 2 false 0)
    ∷ asks (C.Distance 3 false 0)
    ∷ asks (C.Distance 4 false 0)
    ∷ asks (C.Start (picked x y) false)
    ∷ []
values_of stop = asks (C.Order 9) ∷ []

-- ---- What is turned away, in this order

-- 27. A name not in that document's list, or one of the four in another form.
abbrev pub is_other : Form → Bool
is_other other = true
is_other (speed n) = false
is_other (move x y) = false
is_other stop = false

abbrev pub is_unknown : List ℕ → Bool
is_unknown l = not (is_listed (name_of l)) || (is_ours (name_of l) && is_other (form_of l))

-- 28. A command that we lack; its form is not judged.
abbrev pub is_lacked : List ℕ → Bool
is_lacked l = not (is_ours (name_of l))

-- 29. A speed of 0 or over 250,000 pps, or a distance over 524,287 either way.
abbrev pub is_far : ℤ → Bool
is_far z = ltb 524287 (nat_abs z)

abbrev pub is_out : Form → Bool
is_out other = false
is_out (speed n) = eqb n 0 || ltb 250000 n
is_out (move x y) = is_far x || is_far y
is_out stop = false

-- The first that applies; 0 where none does.
unfoldable pub number_of : List ℕ → ℕ
number_of l =
    cond (is_unknown l) 27
    (cond (is_lacked l) 28
    (cond (is_out (form_of l)) 29
    0))

-- ---- The answer

-- The command values, in order; none where a number turns the command away.
unfoldable pub values_in : List ℕ → List Request
values_in l = cond (eqb (number_of l) 0) (values_of (form_of l)) []

-- An unused place of the six holds a reading of the status, which alters nothing where it is sent by mistake.
abbrev pub unused : Request
unused = asks (C.Read R.Status)

abbrev pub places : List Request → List Request
places rs = rs ++ replicate (6 - length rs) unused

unfoldable pub convert_of : List ℕ → Converted
convert_of l = record { number = number_of l; count = length (values_in l); requests = places (values_in l) }

-- ---- What the code answers

abbrev pub refusal_number : Refusal → ℕ
refusal_number Unknown = 27
refusal_number Lacked = 28
refusal_number OutOfRange = 29

-- Command values have the number 0. A refusal has its number and no command value: all six places are unused.
abbrev pub answer : Result Requests Refusal → Converted
answer (Ok r) = record { number = 0; count = r.count; requests = r.requests }
answer (Err refusal) = record { number = refusal_number refusal; count = 0; requests = places [] }
