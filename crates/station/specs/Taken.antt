-- The premises of `Executes` can be met for every command: a controller fresh from power-on, with any switch, takes
-- each line of a converted command, but for the start of a move by 0, and then the move runs. So the master is never
-- shorter than an axis (14), its distance is not 0 (15), and each value is in its range (10). `convert` promises
-- `Taken`.
use Rattle.std.specs.Prelude.{ℕ, Bool, true, false, ◌&&◌, List, [], ◌∷◌, ◌≡◌, eqb, nat_abs}
use Rattle.machine.specs.Calls.{Call, byte, buffer}
use Rattle.machine.specs.List.{goes_on}
use Rattle.station.specs.Forms.{Form, other, speed, move, stop, form_of}
use Rattle.station.specs.Station.{convert_of}
use Rattle.station.specs.Executed.{lines_of, onto, is_undisturbed}

-- Bytes as calls in order of time, each with a buffer of 120 bytes.
unfoldable pub lent : List ℕ → List Call
lent [] = []
lent (b ∷ bs) = byte b buffer ∷ lent bs

-- A move, and one by 0.
abbrev pub is_move : Form → Bool
is_move other = false
is_move (speed n) = false
is_move (move x y) = true
is_move stop = false

abbrev pub is_still : Form → Bool
is_still other = false
is_still (speed n) = false
is_still (move x y) = eqb (nat_abs x) 0 && eqb (nat_abs y) 0
is_still stop = false

pub record TakenBy (s : ℕ) (c : List ℕ) : Type 0 where
  pub taken : is_undisturbed s [] (lent (lines_of (c ∷ []))) ≡ true
  pub runs : is_move (form_of c) ≡ true → goes_on s (onto (lent (lines_of (c ∷ []))) []) ≡ true

abbrev pub Taken : Type 0
Taken = (s : ℕ) (c : List ℕ) → (convert_of c).number ≡ 0 → is_still (form_of c) ≡ false → TakenBy s c
