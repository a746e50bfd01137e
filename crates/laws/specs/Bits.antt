-- Bits of a word.
use Rattle.std.specs.Prelude.{ℕ, zero, suc, ◌+◌, ◌/◌, ◌%◌, ◌^◌, Bool, cond, eqb}

-- The bit of a word at a place.
abbrev pub bit : ℕ → ℕ → Bool
bit w i = eqb (w / 2 ^ i % 2) 1

-- A bit that counts n.
abbrev pub weight : Bool → ℕ → ℕ
weight b n = cond b n 0

-- The number whose bits below n are those of f.
unfoldable pub weigh : ℕ → (ℕ → Bool) → ℕ
weigh zero f = 0
weigh (suc n) f = weigh n f + weight (f n) (2 ^ n)
