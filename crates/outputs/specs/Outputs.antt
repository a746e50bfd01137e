-- Paper 01, "Lines of output (chapter 5)": the two words of a tick.
--
--   switch 0-3   bit 2k    pulse          first half only       bit 2k+1  high for minus   both halves
--   switch 4-7   bit 2k    plus pulse     first half only       bit 2k+1  minus pulse      first half only
--   switch 8-B   as 0-3 at bits 4k and 4k+2, each followed by its inverse at 4k+1 and 4k+3
--   switch D-F   as 4-7 at bits 4k and 4k+2, each followed by its inverse
use Rattle.std.specs.Prelude.{ℕ, ◌+◌, ◌*◌, ◌/◌, ◌%◌, ◌^◌, Bool, true, false, cond, not, ◌&&◌, ◌||◌, ltb, leb, eqb, ℤ, pos, negsuc}
use Rattle.laws.specs.Axes.{directed, is_minus}
use Rattle.laws.specs.Bits.{bit, weight, weigh}

abbrev pub xor : Bool → Bool → Bool
xor true b = not b
xor false b = b

abbrev pub is_plus : ℤ → Bool
is_plus (pos n) = ltb 0 n
is_plus (negsuc n) = false

-- Switch 0-3 and 8-B have a pulse and a direction line, 4-7 and D-F a plus and a minus line.
abbrev pub has_direction : ℕ → Bool
has_direction switch = ltb switch 4 || leb 8 switch && ltb switch 12

-- The first line of an axis: the pulse, or the plus pulse p. Pulse lines rest in the second half.
abbrev pub first_line : ℕ → ℤ → Bool → Bool
first_line switch p early = early && (is_plus p || has_direction switch && is_minus p)

-- The second line: the latest move's direction (plus before any), or the minus pulse.
abbrev pub second_line : ℕ → Bool → ℤ → Bool → Bool
second_line switch minus p early = cond (has_direction switch) minus (early && is_minus p)

-- Polarity bits 2k, 2k+1 flip the pair. j is 0 for the first line, 1 for the second.
abbrev pub line : ℕ → ℕ → Bool → ℤ → Bool → ℕ → ℕ → Bool
line switch polarity minus p early k j =
    xor (bit polarity (2 * k + j)) (cond (eqb j 0) (first_line switch p early) (second_line switch minus p early))

-- Bit i of the word below switch 8. Other bits are the general outputs.
abbrev pub narrow_bit : ℕ → ℕ → ℕ → (ℕ → Bool) → (ℕ → ℤ) → Bool → ℕ → Bool
narrow_bit switch polarity outputs minus p early i =
    cond (ltb i 10) (line switch polarity (minus (i / 2)) (p (i / 2)) early (i / 2) (i % 2)) (bit outputs i)

-- Bit i of the word from switch 8 on: each line is followed by its inverse.
abbrev pub wide_bit : ℕ → ℕ → ℕ → (ℕ → Bool) → (ℕ → ℤ) → Bool → ℕ → Bool
wide_bit switch polarity outputs minus p early i =
    cond (ltb i 20)
    (xor (eqb (i % 2) 1) (line switch polarity (minus (i / 4)) (p (i / 4)) early (i / 4) (i / 2 % 2)))
    (bit outputs i)

abbrev pub word_bit : ℕ → ℕ → ℕ → (ℕ → Bool) → (ℕ → ℤ) → Bool → ℕ → Bool
word_bit switch polarity outputs minus p early i =
    cond (ltb switch 8) (narrow_bit switch polarity outputs minus p early i)
    (wide_bit switch polarity outputs minus p early i)

-- The 24-bit word of the first half of a tick (early) or of the second, with the pulses p.
unfoldable pub word_of : ℕ → ℕ → ℕ → (ℕ → Bool) → (ℕ → ℤ) → Bool → ℕ
word_of switch polarity outputs minus p early = weigh 24 (word_bit switch polarity outputs minus p early)

-- ---- The word by its parts: what the general outputs add, and what the lines of each axis add.

-- The general outputs: bits 10 to 23, or 20 to 23.
abbrev pub general_of : ℕ → ℕ → ℕ
general_of switch outputs =
    cond (ltb switch 8) (outputs % 16777216 / 1024 * 1024) (outputs % 16777216 / 1048576 * 1048576)

-- Two lines side by side, the first of which counts n.
abbrev pub pair_of : Bool → Bool → ℕ → ℕ
pair_of a b n = weight a n + weight b (2 * n)

-- The same, each line followed by its inverse.
abbrev pub inverses_of : Bool → Bool → ℕ → ℕ
inverses_of a b n = weight a n + weight (not a) (2 * n) + weight b (4 * n) + weight (not b) (8 * n)

-- Two lines below switch 8, where the first counts n, and from switch 8 on, where it counts m.
abbrev pub lines_of : ℕ → Bool → Bool → ℕ → ℕ → ℕ
lines_of switch a b n m = cond (ltb switch 8) (pair_of a b n) (inverses_of a b m)

-- What the lines of axis k add, with the pulse p.
abbrev pub cell_of : ℕ → ℕ → Bool → ℤ → Bool → ℕ → ℕ
cell_of switch polarity minus p early k =
    lines_of switch (line switch polarity minus p early k 0) (line switch polarity minus p early k 1) (4 ^ k) (16 ^ k)

-- The same of an axis whose polarity bits are 0 and 1 and whose first line counts n or m.
abbrev pub shown_of : ℕ → ℕ → Bool → ℤ → Bool → ℕ → ℕ → ℕ
shown_of switch polarity minus p early n m =
    lines_of switch (line switch polarity minus p early 0 0) (line switch polarity minus p early 0 1) n m

-- What axis k adds at rest, and in the first half of a tick in which it pulses.
unfoldable pub rest_of : ℕ → ℕ → (ℕ → Bool) → ℕ → ℕ
rest_of switch polarity minus k = cell_of switch polarity (minus k) (pos 0) false k

unfoldable pub fire_of : ℕ → ℕ → (ℕ → Bool) → ℕ → ℕ
fire_of switch polarity minus k = cell_of switch polarity (minus k) (directed (minus k) 1) true k

-- The one or the other: at rest, or where it fires.
abbrev pub cells_of : ℕ → ℕ → (ℕ → Bool) → Bool → ℕ → ℕ
cells_of switch polarity minus fires k =
    cell_of switch polarity (minus k) (cond fires (directed (minus k) 1) (pos 0)) fires k

-- What five axes add together.
abbrev pub sum_of : (ℕ → ℕ) → ℕ
sum_of f = f 0 + f 1 + f 2 + f 3 + f 4

-- What all five add at rest.
abbrev pub still_of : ℕ → ℕ → (ℕ → Bool) → ℕ
still_of switch polarity minus = sum_of (rest_of switch polarity minus)
