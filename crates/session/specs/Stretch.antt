-- A stretch of characters, taken at once: the same as each of them by itself.
use Rattle.std.specs.Prelude.{ℕ, Bool, true, false, ◌||◌, List, [], ◌∷◌, ◌≡◌, eqb, length}
use Rattle.digits.specs.Digits.{end_byte}
use Rattle.receiver.specs.Receiver.{before}
use Rattle.session.specs.declared.state.Gathered.{Gathered}
use Rattle.session.specs.declared.state.Place.{Place}
use Rattle.session.specs.declared.state.Place.TheVariants.{Start, Sending, Asking}
use Rattle.session.specs.Asked.{letter_t}
use Rattle.session.specs.Session.{Bench, taken, held_bench}
use Rattle.session.specs.Lines.{after}

-- A line feed or 0D.
abbrev pub is_mark : ℕ → Bool
is_mark b = eqb b 10 || eqb b end_byte

-- The bytes before the first of them.
abbrev pub stretch : List ℕ → List ℕ
stretch bs = before is_mark bs

-- The bench after these, and how many they are.
abbrev pub held_stretch : Bench → List ℕ → Gathered
held_stretch x bs = record { session = held_bench (after x (stretch bs)); count = length (stretch bs) }

-- Bytes that are taken one after another, none of which prints anything or has a number.
abbrev pub Silent : Bench → List ℕ → Type 0
Silent x [] = Unit {0}
Silent x (b ∷ bs) = ((taken x b).printed ≡ []) × (((taken x b).number ≡ 0) × Silent (taken x b).bench bs)

-- ---- On what is held: whether a line whose next character is b is kept.
abbrev pub keeps_of : Place → ℕ → Bool
keeps_of Start b = eqb b letter_t
keeps_of Sending b = false
keeps_of Asking b = true
