-- The output words by their parts: src/words.rt on held values.
use Rattle.std.specs.Prelude.{ℕ, ◌+◌, ◌<◌, Bool, cond, get_or}
use Rattle.controller.specs.declared.state.Wires.{Wires}

-- What an axis adds to the first word.
abbrev pub level_of : Wires → ℕ → Bool → ℕ
level_of w k on = cond on (get_or w.cells.fires k 0) (get_or w.cells.rests k 0)

-- The output word in which these axes pulse.
abbrev pub word_of : Wires → Bool → Bool → Bool → Bool → Bool → ℕ
word_of w a b c d e =
    w.general + level_of w 0 a + level_of w 1 b + level_of w 2 c + level_of w 3 d + level_of w 4 e

-- The output word at rest.
abbrev pub rest_of : Wires → ℕ
rest_of w = w.general + w.cells.still

-- What keeps a word's sum in range.
pub record WiresFit (w : Wires) : Type 0 where
  pub general : w.general < 16777216
  pub rests : (k : ℕ) → k < 5 → get_or w.cells.rests k 0 < 16777216
  pub fires : (k : ℕ) → k < 5 → get_or w.cells.fires k 0 < 16777216
  pub still : w.cells.still < 16777216
