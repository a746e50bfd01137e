-- Paper 01, "Shares (6.3)".
use Rattle.std.specs.Prelude.{ℕ, ◌-◌, ◌*◌, ◌/◌, ℤ}
use Rattle.laws.specs.Axes.{directed}
use Rattle.machine.specs.State.{Move}

-- M: the master's distance. m: the master's travel.
abbrev pub whole : Move → ℕ
whole v = v.plan.distance v.master

abbrev pub gone : Move → ℕ
gone v = v.travel v.master

-- An axis's share at the master travel m: the whole part of m × d / M. In a running move M > 0.
abbrev pub share : Move → ℕ → ℕ → ℕ
share v m k = m * v.plan.distance k / whole v

-- At the master pulse that makes the master travel m every axis's travel becomes its share. What that adds it sends as
-- pulses, in its direction; so it sends one or none (`Answer` in Demand.antt).
abbrev pub pulse : Move → ℕ → ℕ → ℤ
pulse v m k = directed (v.plan.minus k) (share v m k - v.travel k)
