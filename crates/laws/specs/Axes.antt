-- Five axes, 0 to 4; and steps in a direction.
use Rattle.std.specs.Prelude.{ℕ, Bool, true, false, ◌||◌, List, [], ◌∷◌, ℤ, pos, negsuc, neg_ℤ}

-- Whether something holds of one of the five axes.
abbrev pub some : (ℕ → Bool) → Bool
some f = f 0 || f 1 || f 2 || f 3 || f 4

-- What the five axes have, as a list.
abbrev pub each : {A : Type 0} → (ℕ → A) → List A
each f = f 0 ∷ f 1 ∷ f 2 ∷ f 3 ∷ f 4 ∷ []

-- So many steps in a direction; true is minus.
abbrev pub directed : Bool → ℕ → ℤ
directed true n = neg_ℤ (pos n)
directed false n = pos n

-- Whether a number is below 0.
abbrev pub is_minus : ℤ → Bool
is_minus (pos n) = false
is_minus (negsuc n) = true
