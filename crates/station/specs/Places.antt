-- What every answer of the converter holds (paper 02, 8/14): "The answer is up to six command values for the writer, in
-- order: for a move the distances of axes 0 to 4 (a 0 as plus), then the plain start. Here … each asks for a reply and
-- carries no identification." `convert` promises `Places`. It is said of the whole answer, for every byte slice.
use Rattle.std.specs.Prelude.{ℕ, ◌*◌, ◌<◌, Bool, true, false, not, ◌&&◌, ◌||◌, List, [], ◌∷◌, map, ◌≡◌, eqb, length, take}
use Rattle.line.specs.declared.command.Command.{Command}
use Rattle.line.specs.declared.command.Command.TheVariants as C
use Rattle.machine.specs.Ramp.{full}
use Rattle.host.specs.Writer.{is_absent}
use Rattle.host.specs.Master.{Longest}
use Rattle.host.specs.declared.Request.{Request}
use Rattle.station.specs.Forms.{speed, stop, form_of}
use Rattle.station.specs.Station.{convert_of}

-- ---- One command value

-- A distance of 0 is plus.
abbrev pub is_plus : Command → Bool
is_plus (C.Distance k minus d) = not minus || not (eqb d 0)
is_plus (C.Set code v) = true
is_plus (C.Start k waits) = true
is_plus (C.Order code) = true
is_plus (C.Outputs v) = true
is_plus (C.Read r) = true

-- It asks for a reply, carries no identification, and a 0 in it is plus.
abbrev pub is_fit : Request → Bool
is_fit r = (not r.silent && is_absent r.ident) && is_plus r.command

unfoldable pub are_fit : List Request → Bool
are_fit [] = true
are_fit (r ∷ rs) = is_fit r && are_fit rs

-- ---- A move

-- The length that a distance names, and the master that a plain start names.
abbrev pub length_in : Command → ℕ
length_in (C.Distance k minus d) = d
length_in (C.Set code v) = 0
length_in (C.Start k waits) = 0
length_in (C.Order code) = 0
length_in (C.Outputs v) = 0
length_in (C.Read r) = 0

abbrev pub is_distance_of : ℕ → Command → Bool
is_distance_of j (C.Distance k minus d) = eqb k j
is_distance_of j (C.Set code v) = false
is_distance_of j (C.Start k waits) = false
is_distance_of j (C.Order code) = false
is_distance_of j (C.Outputs v) = false
is_distance_of j (C.Read r) = false

abbrev pub is_start_of : ℕ → Command → Bool
is_start_of j (C.Distance k minus d) = false
is_start_of j (C.Set code v) = false
is_start_of j (C.Start k waits) = not waits && eqb k j
is_start_of j (C.Order code) = false
is_start_of j (C.Outputs v) = false
is_start_of j (C.Read r) = false

-- The distances of axes 0 to 4, then the plain start with the master j.
unfoldable pub are_move : ℕ → List Request → Bool
are_move j [] = false
are_move j (a ∷ []) = false
are_move j (a ∷ b ∷ []) = false
are_move j (a ∷ b ∷ c ∷ []) = false
are_move j (a ∷ b ∷ c ∷ d ∷ []) = false
are_move j (a ∷ b ∷ c ∷ d ∷ e ∷ []) = false
are_move j (a ∷ b ∷ c ∷ d ∷ e ∷ f ∷ g) =
    is_distance_of 0 a.command
    && (is_distance_of 1 b.command
    && (is_distance_of 2 c.command
    && (is_distance_of 3 d.command
    && (is_distance_of 4 e.command
    && is_start_of j f.command))))

-- The five lengths.
abbrev pub lengths : List Request → List ℕ
lengths rs = map (λ (r : Request). length_in r.command) (take 5 rs)

-- ---- A speed, and a stop

abbrev pub is_speed_of : ℕ → Command → Bool
is_speed_of u (C.Distance k minus d) = false
is_speed_of u (C.Set code v) = eqb code 8 && eqb v u
is_speed_of u (C.Start k waits) = false
is_speed_of u (C.Order code) = false
is_speed_of u (C.Outputs v) = false
is_speed_of u (C.Read r) = false

abbrev pub is_stop : Command → Bool
is_stop (C.Distance k minus d) = false
is_stop (C.Set code v) = false
is_stop (C.Start k waits) = false
is_stop (C.Order code) = eqb code 9
is_stop (C.Outputs v) = false
is_stop (C.Read r) = false

-- The first value is such a one.
abbrev pub is_first : (Command → Bool) → List Request → Bool
is_first f [] = false
is_first f (r ∷ rs) = f r.command

-- n pulses a second: at a speed of V the phase grows by 50 × V in each of the 250,000 ticks of a second, and each time
-- that it is full the master pulses (machine, Ramp.antt).
pub record Pacing (n : ℕ) (rs : List Request) : Type 0 where
  pub units : ℕ
  pub value : is_first (is_speed_of units) rs ≡ true
  pub pace : 250000 * (50 * units) ≡ n * full

-- ---- Every answer

pub record Moving (rs : List Request) : Type 0 where
  pub master : ℕ
  pub values : are_move master rs ≡ true
  -- no axis is longer: the controller's 14 never turns such a start away, and 15 only where both distances are 0
  pub longest : Longest (lengths rs) master

pub record PlacesOf (l : List ℕ) : Type 0 where
  pub six : length (convert_of l).requests ≡ 6
  -- a number alone, or one value, or a move's six
  pub refused : ((convert_of l).number ≡ 0 → ⊥) → (convert_of l).count ≡ 0
  pub several : 1 < (convert_of l).count → ((convert_of l).count ≡ 6) × Moving (convert_of l).requests
  pub speeds : (n : ℕ) → form_of l ≡ speed n → (convert_of l).number ≡ 0
      → ((convert_of l).count ≡ 1) × Pacing n (convert_of l).requests
  pub stops : form_of l ≡ stop → (convert_of l).number ≡ 0
      → ((convert_of l).count ≡ 1) × (is_first is_stop (convert_of l).requests ≡ true)
  pub fit : are_fit (convert_of l).requests ≡ true

abbrev pub Places : Type 0
Places = (l : List ℕ) → PlacesOf l
