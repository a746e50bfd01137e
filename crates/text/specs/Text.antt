-- A text under way, and how it is held: its first 250 bytes, zeros after them, and their count up to 250.
use Rattle.std.specs.Prelude.{ℕ, ◌+◌, ◌-◌, min, cond, List, [], ◌∷◌, ◌++◌, leb, length, take, set, replicate}
use Rattle.text.specs.declared.Text.{Text}

abbrev pub holding : List ℕ → Text
holding l = record { chars = take 250 l ++ replicate (250 - length l) 0; count = min 250 (length l) }

-- Its bytes, as many as it counts; none where it counts more than it has.
abbrev pub bytes_of : Text → List ℕ
bytes_of t = cond (leb t.count (length t.chars)) (take t.count t.chars) []

-- ---- The same on what is held, for every value: one byte more, and bytes one after another.

abbrev pub push_of : Text → ℕ → Text
push_of t b =
    cond (leb 250 t.count) t
    (record { chars = set t.chars t.count b; count = t.count + 1 })

unfoldable pub writes : Text → List ℕ → Text
writes t [] = t
writes t (b ∷ bs) = writes (push_of t b) bs
