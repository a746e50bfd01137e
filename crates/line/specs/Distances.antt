-- Five distances compared, for number 14 and for the master picker (paper 01, "Turned away", "Host end and program").
use Rattle.std.specs.Prelude.{ℕ, Bool, List, ltb, get_or}
use Rattle.laws.specs.Axes.{some}

-- Some axis is longer than this length.
abbrev pub some_longer : List ℕ → ℕ → Bool
some_longer distances length = some (λ k. ltb length (get_or distances k 0))
