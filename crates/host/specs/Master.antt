-- The master picker (paper 01, "Host end and program"): the longest; of equals the lowest axis; 0 if all are 0.
use Rattle.std.specs.Prelude.{ℕ, ◌≤◌, ◌<◌, Bool, cond, not, List, get_or}
use Rattle.line.specs.Distances.{some_longer}

-- No axis is longer than this length.
abbrev pub none_longer : List ℕ → ℕ → Bool
none_longer distances length = not (some_longer distances length)

-- Axis k is the longest, or one of the longest.
abbrev pub is_longest : List ℕ → ℕ → Bool
is_longest distances k = none_longer distances (get_or distances k 0)

-- The lowest axis that is.
unfoldable pub master_of : List ℕ → ℕ
master_of distances =
    cond (is_longest distances 0) 0
    (cond (is_longest distances 1) 1
    (cond (is_longest distances 2) 2
    (cond (is_longest distances 3) 3
    4)))

-- Axis k is one of five, none of them is longer, and each lower one is shorter.
pub record Longest (distances : List ℕ) (k : ℕ) : Type 0 where
  pub axis : k < 5
  pub longest : (j : ℕ) → j < 5 → get_or distances j 0 ≤ get_or distances k 0
  pub lowest : (j : ℕ) → j < k → get_or distances j 0 < get_or distances k 0
