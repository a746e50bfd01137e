-- A tick that is turned away: src/turned.rt on held values.
use Rattle.std.specs.Prelude.{ℕ, cond, ltb}

-- The number that turns a tick away, by the length of its buffer and its word, or 0.
abbrev pub tick_number_of : ℕ → ℕ → ℕ
tick_number_of room word = cond (ltb room 120) 2 (cond (ltb 16777215 word) 3 0)
