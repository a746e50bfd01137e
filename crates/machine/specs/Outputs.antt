-- The output words of a tick (paper 01, "Lines of output").
use Rattle.std.specs.Prelude.{ℕ, Bool, ℤ}
use Rattle.outputs.specs.Outputs.{word_of}
use Rattle.machine.specs.State.{Machine}

-- The word of the first half (early) or the second, with the pulses p; the direction is the latest move's, plus
-- before any.
abbrev pub word : Machine → (ℕ → ℤ) → Bool → ℕ
word m p early = word_of m.switch m.settings.polarity m.outputs m.move.plan.minus p early
