-- What `convert` promises beside its answer: each command has one to six command values, each of which the writer has a
-- line for, or none and a number with a sentence.
use Rattle.std.specs.Prelude.{ℕ, ◌≤◌, Bool, true, ◌&&◌, List, [], ◌∷◌, ◌≡◌, length}
use Rattle.host.specs.Writer.{has_line}
use Rattle.host.specs.declared.Request.{Request}
use Rattle.station.specs.Station.{number_of, values_in}

-- Whether the writer has a line for each value.
unfoldable pub are_lined : List Request → Bool
are_lined [] = true
are_lined (r ∷ rs) = has_line r && are_lined rs

-- Of the command l.
pub record Lined (l : List ℕ) : Type 0 where
  -- 0, or 27 to 29
  pub number : number_of l ≤ 29
  -- a command that no number turns away has a value
  pub some : number_of l ≡ 0 → 1 ≤ length (values_in l)
  pub most : length (values_in l) ≤ 6
  pub lined : are_lined (values_in l) ≡ true

-- Of every byte slice.
abbrev pub Writable : Type 0
Writable = (l : List ℕ) → Lined l
