-- What the entry `answer` promises beside what it shows, of every trial; `Whole` is what `screen` promises to it.
use Rattle.std.specs.Prelude.{ℕ, ◌+◌, ◌*◌, ◌≤◌, ◌<◌, ◌≡◌, length}
use Rattle.trial.specs.declared.Trial.{Trial}
use Rattle.screen.specs.Screen.{seconds_of, micros_of, all_pulses, share_of, share_at, screen_text}

-- No screen is cut: a text has room for 250 bytes, and the screen fits. It is promised of every value that the code
-- can hold.
abbrev pub Whole : Trial → ℕ → ℕ → Type 0
Whole t master n = length (screen_text t master n) ≤ 250

-- h hundredths of a percent are the share of a part, cut off: h of them are not more than it, h + 1 are more.
pub record CutOff (h part sum : ℕ) : Type 0 where
  pub most : h * sum ≤ part * 10000
  pub less : part * 10000 < (h + 1) * sum

-- What is shown as a wine's share.
pub record Shares : Type 0 where
  pub cut : (part sum : ℕ) → 0 < sum → CutOff (share_of part sum) part sum
  -- where no axis has moved it is 0
  pub none : (t : Trial) (k : ℕ) → all_pulses t ≡ 0 → share_at t k ≡ 0
  -- it is at most 100.00 %
  pub hundred : (t : Trial) (k : ℕ) → k < 5 → share_at t k ≤ 10000

-- What is shown as a time: seconds and µs that are four times the ticks.
pub record Times : Type 0 where
  pub micros : (n : ℕ) → seconds_of n * 1000000 + micros_of n ≡ 4 * n
  pub low : (n : ℕ) → micros_of n < 1000000
