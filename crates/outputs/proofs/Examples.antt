-- The words of some ticks, by the definitions: outputs FFFFFF, axis 0 plus and axis 1 minus. Assumes nothing.
use Prim.Native.Nat.{ℕ, zero, suc}
use mathlib.Core.Bool.{Bool, true, false}
use mathlib.Core.List.{List, [], ◌∷◌}
use mathlib.Core.Path.{◌≡◌, refl}
use lib.IntN.{ℤ, pos, negsuc}
use Rattle.laws.specs.Bits.{weigh}
use Rattle.outputs.specs.Outputs.{word_of}

abbrev pub all_plus : ℕ → Bool
all_plus k = false

-- Axis 1 goes minus, the others plus.
abbrev pub second_minus : ℕ → Bool
second_minus zero = false
second_minus (suc zero) = true
second_minus (suc (suc k)) = false

abbrev pub no_pulse : ℕ → ℤ
no_pulse k = pos 0

-- Axes 0 and 1 pulse.
abbrev pub two_pulses : ℕ → ℤ
two_pulses zero = pos 1
two_pulses (suc zero) = negsuc 0
two_pulses (suc (suc k)) = pos 0

-- Before any start; at rest after it; both halves of a tick in which axes 0 and 1 pulse; the same with polarity 1.
abbrev pub shown : ℕ → List ℕ
shown switch =
    word_of switch 0 0xFFFFFF all_plus no_pulse true
    ∷ word_of switch 0 0xFFFFFF second_minus no_pulse true
    ∷ word_of switch 0 0xFFFFFF second_minus two_pulses true
    ∷ word_of switch 0 0xFFFFFF second_minus two_pulses false
    ∷ word_of switch 1 0xFFFFFF second_minus two_pulses true
    ∷ word_of switch 1 0xFFFFFF second_minus two_pulses false
    ∷ []

pub words : (shown 0 ≡ 0xFFFC00 ∷ 0xFFFC08 ∷ 0xFFFC0D ∷ 0xFFFC08 ∷ 0xFFFC0C ∷ 0xFFFC09 ∷ [])
    × (shown 4 ≡ 0xFFFC00 ∷ 0xFFFC00 ∷ 0xFFFC09 ∷ 0xFFFC00 ∷ 0xFFFC08 ∷ 0xFFFC01 ∷ [])
    × (shown 8 ≡ 0xFAAAAA ∷ 0xFAAA6A ∷ 0xFAAA59 ∷ 0xFAAA6A ∷ 0xFAAA5A ∷ 0xFAAA69 ∷ [])
    × (shown 13 ≡ 0xFAAAAA ∷ 0xFAAAAA ∷ 0xFAAA69 ∷ 0xFAAAAA ∷ 0xFAAA6A ∷ 0xFAAAA9 ∷ [])
unfolding word_of weigh
words = (refl, refl, refl, refl)
