-- Paper 01, "Host end and program": what the bytes of a read print, as it stands in a buffer before it is written.
use Rattle.std.specs.Prelude.{ℕ, suc, min, ◌+◌, ◌-◌, cond, List, [], ◌∷◌, ◌≡◌, ltb, length, take}
use Rattle.block.specs.Block.{over, put}
use Rattle.session.specs.Session.{Bench, taken, held_bench}
use Rattle.session.specs.Lines.{after, printed_by}
use Rattle.session.specs.Stretch.{stretch}
use Rattle.console.specs.declared.Line.{Line}

-- A text stands in a buffer from the place `at` on, and ends at n: the bytes before and after it keep their values.
abbrev pub Stands : ℕ → ℕ → List ℕ → List ℕ → List ℕ → Type 0
Stands at n text exit entry = (n ≡ at + length text) × (exit ≡ put at text entry)

-- The length of a line, as far as it has come: the characters before the first line feed or 0D, and this byte.
abbrev pub line_length : List ℕ → ℕ
line_length bs = min (length bs) (length (stretch bs) + 1)

-- How many bytes are taken with `room` bytes of buffer: one more as long as 120 bytes are left for what it prints.
unfoldable pub fitting : ℕ → Bench → List ℕ → ℕ
fitting room x [] = 0
fitting room x (b ∷ bs) =
    cond (ltb room 120) 0 (suc (fitting (room - length (taken x b).printed) (taken x b).bench bs))

-- The session after n of the bytes, the length of what they print, and n.
abbrev pub held_line : Bench → List ℕ → ℕ → Line
held_line x bs n = record {
  session = held_bench (after x (take n bs));
  length = length (printed_by x (take n bs));
  count = n;
}

-- The buffer after these: what they print stands at its front, the bytes after it keep their values.
abbrev pub Holds : List ℕ → List ℕ → Bench → List ℕ → ℕ → Type 0
Holds exit entry x bs n = exit ≡ over (printed_by x (take n bs)) entry

-- As many bytes are taken as the buffer has room for.
abbrev pub Fills : Line → List ℕ → List ℕ → Bench → List ℕ → Type 0
Fills r exit entry x bs =
    (r ≡ held_line x bs (fitting (length entry) x bs)) × Holds exit entry x bs (fitting (length entry) x bs)
