-- A word is the sum of its parts: what the general outputs add, and for each axis what its lines add, at rest or
-- while it pulses; and so each word shows the general outputs. Assumes nothing.
use Prim.Native.Nat.{ℕ, ◌+◌, ◌*◌, ◌/◌, ◌%◌, ◌^◌, ◌<◌}
use mathlib.Core.Bool.{Bool, true, false, cond, and-false}
use mathlib.Core.Path.{◌≡◌, ap, subst, ◌∙◌}
use native.Mathlib.Omega.{arith}
use lib.Dec.{ltb, eqb, lit≤, lit<}
use lib.IntN.{ℤ, pos}
use Rattle.laws.specs.Axes.{directed}
use Rattle.laws.specs.Bits.{bit, weigh}
use Rattle.laws.proofs.BitLaws.{weigh_bits, weigh_lt, weigh_mixed}
use Rattle.outputs.specs.Outputs.{xor, has_direction, line, narrow_bit, wide_bit, word_of}
use Rattle.outputs.specs.Outputs.{general_of, pair_of, inverses_of, lines_of, cell_of, rest_of, fire_of}

-- ---- the word by its parts

-- The lowest bits of o give way to a sum l of lines.
sum_narrow : (o : ℕ) {x y m z l : ℕ} → x + y ≡ m + z → y ≡ o % 1024 → z ≡ o % 16777216 → m ≡ l
    → x ≡ o % 16777216 / 1024 * 1024 + l
sum_narrow o e f g h = omega arith

sum_wide : (o : ℕ) {x y m z l : ℕ} → x + y ≡ m + z → y ≡ o % 1048576 → z ≡ o % 16777216 → m ≡ l
    → x ≡ o % 16777216 / 1048576 * 1048576 + l
sum_wide o e f g h = omega arith

-- Lines that stay below them leave the others as they are.
general_narrow : (o : ℕ) {x l : ℕ} → x ≡ o % 16777216 / 1024 * 1024 + l → l < 1024
    → x % 16777216 / 1024 * 1024 ≡ o % 16777216 / 1024 * 1024
general_narrow o e h = omega arith

general_wide : (o : ℕ) {x l : ℕ} → x ≡ o % 16777216 / 1048576 * 1048576 + l → l < 1048576
    → x % 16777216 / 1048576 * 1048576 ≡ o % 16777216 / 1048576 * 1048576
general_wide o e h = omega arith

module _ (s q o : ℕ) (minus : ℕ → Bool) (p : ℕ → ℤ) (early : Bool) where
  -- Line j of axis k.
  abbrev at : ℕ → ℕ → Bool
  at k j = line s q (minus k) (p k) early k j

  abbrev narrow_line : ℕ → Bool
  narrow_line i = at (i / 2) (i % 2)

  abbrev wide_line : ℕ → Bool
  wide_line i = xor (eqb (i % 2) 1) (at (i / 4) (i / 2 % 2))

  narrow_lines : weigh 10 narrow_line
      ≡ pair_of (at 0 0) (at 0 1) 1 + pair_of (at 1 0) (at 1 1) 4 + pair_of (at 2 0) (at 2 1) 16
      + pair_of (at 3 0) (at 3 1) 64 + pair_of (at 4 0) (at 4 1) 256
  unfolding weigh
  narrow_lines = omega arith

  wide_lines : weigh 20 wide_line
      ≡ inverses_of (at 0 0) (at 0 1) 1 + inverses_of (at 1 0) (at 1 1) 16 + inverses_of (at 2 0) (at 2 1) 256
      + inverses_of (at 3 0) (at 3 1) 4096 + inverses_of (at 4 0) (at 4 1) 65536
  unfolding weigh
  wide_lines = omega arith

  narrow_word : weigh 24 (narrow_bit s q o minus p early)
      ≡ o % 16777216 / 1024 * 1024
      + (pair_of (at 0 0) (at 0 1) 1 + pair_of (at 1 0) (at 1 1) 4 + pair_of (at 2 0) (at 2 1) 16
      + pair_of (at 3 0) (at 3 1) 64 + pair_of (at 4 0) (at 4 1) 256)
  narrow_word =
      sum_narrow o (weigh_mixed 24 10 narrow_line (bit o) (lit≤ tt)) (weigh_bits 10 o) (weigh_bits 24 o) narrow_lines

  wide_word : weigh 24 (wide_bit s q o minus p early)
      ≡ o % 16777216 / 1048576 * 1048576
      + (inverses_of (at 0 0) (at 0 1) 1 + inverses_of (at 1 0) (at 1 1) 16 + inverses_of (at 2 0) (at 2 1) 256
      + inverses_of (at 3 0) (at 3 1) 4096 + inverses_of (at 4 0) (at 4 1) 65536)
  wide_word =
      sum_wide o (weigh_mixed 24 20 wide_line (bit o) (lit≤ tt)) (weigh_bits 20 o) (weigh_bits 24 o) wide_lines

  -- A word is what the general outputs add and what the five axes add.
  pub word_cells : word_of s q o minus p early
      ≡ general_of s o
      + (cell_of s q (minus 0) (p 0) early 0 + cell_of s q (minus 1) (p 1) early 1 + cell_of s q (minus 2) (p 2) early 2
      + cell_of s q (minus 3) (p 3) early 3 + cell_of s q (minus 4) (p 4) early 4)
  unfolding word_of
  word_cells = either (ltb s 8)
    where
      either : (t : Bool) → weigh 24 (λ i. cond t (narrow_bit s q o minus p early i) (wide_bit s q o minus p early i))
          ≡ cond t (o % 16777216 / 1024 * 1024) (o % 16777216 / 1048576 * 1048576)
          + (cond t (pair_of (at 0 0) (at 0 1) 1) (inverses_of (at 0 0) (at 0 1) 1)
          + cond t (pair_of (at 1 0) (at 1 1) 4) (inverses_of (at 1 0) (at 1 1) 16)
          + cond t (pair_of (at 2 0) (at 2 1) 16) (inverses_of (at 2 0) (at 2 1) 256)
          + cond t (pair_of (at 3 0) (at 3 1) 64) (inverses_of (at 3 0) (at 3 1) 4096)
          + cond t (pair_of (at 4 0) (at 4 1) 256) (inverses_of (at 4 0) (at 4 1) 65536))
      either true = narrow_word
      either false = wide_word

  -- Lines stay below the lowest bit of the general outputs.
  pub word_general : general_of s (word_of s q o minus p early) ≡ general_of s o
  unfolding word_of
  word_general = either (ltb s 8)
    where
      either : (t : Bool)
          → cond t (weigh 24 (λ i. cond t (narrow_bit s q o minus p early i) (wide_bit s q o minus p early i))
          % 16777216 / 1024 * 1024)
          (weigh 24 (λ i. cond t (narrow_bit s q o minus p early i) (wide_bit s q o minus p early i))
          % 16777216 / 1048576 * 1048576)
          ≡ cond t (o % 16777216 / 1024 * 1024) (o % 16777216 / 1048576 * 1048576)
      either true = general_narrow o narrow_word (subst (λ (n : ℕ). n < 1024) narrow_lines (weigh_lt 10 narrow_line))
      either false = general_wide o wide_word (subst (λ (n : ℕ). n < 1048576) wide_lines (weigh_lt 20 wide_line))

-- ---- the two halves of a tick

-- In the second half each axis adds what it adds at rest, whatever it pulsed.
pub word_rest : (s q o : ℕ) (minus : ℕ → Bool) (p : ℕ → ℤ) → word_of s q o minus p false
    ≡ general_of s o
    + (rest_of s q minus 0 + rest_of s q minus 1 + rest_of s q minus 2 + rest_of s q minus 3 + rest_of s q minus 4)
unfolding rest_of
word_rest s q o minus p = word_cells s q o minus p false

-- In a first half an axis without a pulse adds what it adds at rest.
idle_cell : (s q : ℕ) (minus : ℕ → Bool) (k : ℕ) → cell_of s q (minus k) (pos 0) true k ≡ rest_of s q minus k
unfolding rest_of
idle_cell s q minus k = λ i.
    lines_of s (xor (bit q (2 * k + 0)) (and-false (has_direction s) i))
    (xor (bit q (2 * k + 1)) (cond (has_direction s) (minus k) false)) (4 ^ k) (16 ^ k)

first_cell : (s q : ℕ) (minus : ℕ → Bool) (k : ℕ) (on : Bool) {p : ℤ} → p ≡ cond on (directed (minus k) 1) (pos 0)
    → cell_of s q (minus k) p true k ≡ cond on (fire_of s q minus k) (rest_of s q minus k)
unfolding fire_of
first_cell s q minus k true e = ap (λ (x : ℤ). cell_of s q (minus k) x true k) e
first_cell s q minus k false e = ap (λ (x : ℤ). cell_of s q (minus k) x true k) e ∙ idle_cell s q minus k

-- In the first half each axis adds what it adds while it pulses, or what it adds at rest.
pub word_first : (s q o : ℕ) (minus on : ℕ → Bool) (p : ℕ → ℤ)
    → ((k : ℕ) → k < 5 → p k ≡ cond (on k) (directed (minus k) 1) (pos 0))
    → word_of s q o minus p true
    ≡ general_of s o
    + (cond (on 0) (fire_of s q minus 0) (rest_of s q minus 0) + cond (on 1) (fire_of s q minus 1) (rest_of s q minus 1)
    + cond (on 2) (fire_of s q minus 2) (rest_of s q minus 2) + cond (on 3) (fire_of s q minus 3) (rest_of s q minus 3)
    + cond (on 4) (fire_of s q minus 4) (rest_of s q minus 4))
word_first s q o minus on p h =
    word_cells s q o minus p true ∙ (λ i. general_of s o + (c0 i + c1 i + c2 i + c3 i + c4 i))
  where
    c0 : cell_of s q (minus 0) (p 0) true 0 ≡ cond (on 0) (fire_of s q minus 0) (rest_of s q minus 0)
    c0 = first_cell s q minus 0 (on 0) (h 0 (lit< tt))

    c1 : cell_of s q (minus 1) (p 1) true 1 ≡ cond (on 1) (fire_of s q minus 1) (rest_of s q minus 1)
    c1 = first_cell s q minus 1 (on 1) (h 1 (lit< tt))

    c2 : cell_of s q (minus 2) (p 2) true 2 ≡ cond (on 2) (fire_of s q minus 2) (rest_of s q minus 2)
    c2 = first_cell s q minus 2 (on 2) (h 2 (lit< tt))

    c3 : cell_of s q (minus 3) (p 3) true 3 ≡ cond (on 3) (fire_of s q minus 3) (rest_of s q minus 3)
    c3 = first_cell s q minus 3 (on 3) (h 3 (lit< tt))

    c4 : cell_of s q (minus 4) (p 4) true 4 ≡ cond (on 4) (fire_of s q minus 4) (rest_of s q minus 4)
    c4 = first_cell s q minus 4 (on 4) (h 4 (lit< tt))

-- A first half without a pulse is the word at rest.
pub word_still : (s q o : ℕ) (minus : ℕ → Bool) (p : ℕ → ℤ) → ((k : ℕ) → k < 5 → p k ≡ pos 0)
    → word_of s q o minus p true
    ≡ general_of s o
    + (rest_of s q minus 0 + rest_of s q minus 1 + rest_of s q minus 2 + rest_of s q minus 3 + rest_of s q minus 4)
word_still s q o minus p h = word_first s q o minus (λ k. false) p h

-- Every word has 24 bits.
pub word_lt : (s q o : ℕ) (minus : ℕ → Bool) (p : ℕ → ℤ) (early : Bool) → word_of s q o minus p early < 16777216
unfolding word_of
word_lt s q o minus p early = weigh_lt 24 _
