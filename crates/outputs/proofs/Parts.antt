-- What the code's functions cite: directions by ranges of the switch, and lines in a polarity shifted down.
-- Assumes nothing.
use Prim.Native.Nat.{ℕ, ◌+◌, ◌*◌, ◌/◌, ◌^◌}
use mathlib.Core.Bool.{Bool, cond}
use mathlib.Core.List.{[], ◌∷◌}
use mathlib.Core.Path.{◌≡◌, ap, ◌∙◌}
use native.Mathlib.Omega.{arith}
use lib.IntN.{ℤ, pos}
use Rattle.laws.specs.Axes.{each, directed}
use Rattle.laws.specs.Bits.{bit}
use Rattle.laws.proofs.BitLaws.{bit_down}
use Rattle.outputs.specs.Outputs.{xor, first_line, second_line}
use Rattle.outputs.specs.Outputs.{lines_of, cells_of, shown_of}

-- The pair of polarity bits from a on, in a polarity shifted down by a.
pub shown_down : (s q : ℕ) (minus : Bool) (p : ℤ) (early : Bool) (n m a : ℕ)
    → shown_of s (q / 2 ^ a) minus p early n m
    ≡ lines_of s (xor (bit q (a + 0)) (first_line s p early)) (xor (bit q (a + 1)) (second_line s minus p early)) n m
shown_down s q minus p early n m a = λ i.
    lines_of s (xor (bit_down q a 0 i) (first_line s p early)) (xor (bit_down q a 1 i) (second_line s minus p early)) n m

-- ---- five axes

module _ (s q : ℕ) (minus : ℕ → Bool) (fires : Bool) where
  -- What axis k adds, in a polarity shifted down to it.
  abbrev pub shifted : ℕ → ℕ
  shifted k =
      shown_of s (q / 2 ^ (2 * k)) (minus k) (cond fires (directed (minus k) 1) (pos 0)) fires (4 ^ k) (16 ^ k)

  at : (k : ℕ) → shifted k ≡ cells_of s q minus fires k
  at k = shown_down s q (minus k) (cond fires (directed (minus k) 1) (pos 0)) fires (4 ^ k) (16 ^ k) (2 * k)

  -- The words of five axes, from what each answers in its own polarity.
  pub cells_five : {a b c d e : ℕ} → a ≡ shown_of s q (minus 0) (cond fires (directed (minus 0) 1) (pos 0)) fires 1 1
      → b ≡ shifted 1 → c ≡ shifted 2 → d ≡ shifted 3 → e ≡ shifted 4
      → a ∷ b ∷ c ∷ d ∷ e ∷ [] ≡ each (cells_of s q minus fires)
  cells_five p0 p1 p2 p3 p4 =
      let whole : q ≡ q / 1 = omega arith in
      λ i. (p0 ∙ ap (λ (x : ℕ). shown_of s x (minus 0) (cond fires (directed (minus 0) 1) (pos 0)) fires 1 1) whole ∙ at 0) i
      ∷ (p1 ∙ at 1) i ∷ (p2 ∙ at 2) i ∷ (p3 ∙ at 3) i ∷ (p4 ∙ at 4) i ∷ []
