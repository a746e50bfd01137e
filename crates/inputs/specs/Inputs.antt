-- Paper 01, "Stops (6.6 to 6.10)", its first paragraph: what the inputs say under the low-ON and high-ON settings.
use Rattle.std.specs.Prelude.{ℕ, ◌+◌, ◌*◌, Bool, cond, not, ◌&&◌, ◌||◌, ltb}
use Rattle.laws.specs.Axes.{some}
use Rattle.laws.specs.Bits.{bit}

-- Low-ON has the bit and that input is low.
abbrev pub low_at : ℕ → ℕ → ℕ → Bool
low_at low_on inputs i = bit low_on i && not (bit inputs i)

-- High-ON has the bit and that input is high.
abbrev pub high_at : ℕ → ℕ → ℕ → Bool
high_at high_on inputs i = bit high_on i && bit inputs i

-- For axis k, low-ON bit 2k blocks minus while that input is low, high-ON bit 2k+1 minus while high.
abbrev pub blocks_minus : ℕ → ℕ → ℕ → ℕ → Bool
blocks_minus low_on high_on inputs k = low_at low_on inputs (2 * k) || high_at high_on inputs (2 * k + 1)

-- Low-ON bit 2k+1 blocks plus while low, high-ON bit 2k plus while high.
abbrev pub blocks_plus : ℕ → ℕ → ℕ → ℕ → Bool
blocks_plus low_on high_on inputs k = low_at low_on inputs (2 * k + 1) || high_at high_on inputs (2 * k)

-- An axis of distance 0 is never blocked.
abbrev pub blocked_at : ℕ → ℕ → ℕ → ℕ → Bool → ℕ → Bool
blocked_at low_on high_on inputs distance minus k =
    ltb 0 distance && cond minus (blocks_minus low_on high_on inputs k) (blocks_plus low_on high_on inputs k)

-- Some axis is blocked.
abbrev pub some_blocked : ℕ → ℕ → ℕ → (ℕ → ℕ) → (ℕ → Bool) → Bool
some_blocked low_on high_on inputs distance minus =
    some (λ k. blocked_at low_on high_on inputs (distance k) (minus k) k)

-- Bit 12 is emergency, bit 13 sensor, in either setting: active while low where low-ON has the bit, or while high where
-- high-ON has it.
abbrev pub active_at : ℕ → ℕ → ℕ → ℕ → Bool
active_at low_on high_on inputs i = low_at low_on inputs i || high_at high_on inputs i
