-- How a line that begins with T is held: its first 17 characters, zeros after them, and their count up to 17. The form
-- has at most 16 characters.
use Rattle.std.specs.Prelude.{ℕ, ◌+◌, ◌-◌, min, cond, List, ◌++◌, ◌≡◌, leb, ltb, length, take, set, replicate, Option, None}
use Rattle.session.specs.declared.kept.Kept.{Kept}
use Rattle.session.specs.declared.asked.Ticks.{Ticks}
use Rattle.session.specs.Asked.{asked_of}

abbrev pub keeping : List ℕ → Kept
keeping l = record { chars = take 17 l ++ replicate (17 - length l) 0; count = min 17 (length l) }

-- P of every list of characters that k holds.
abbrev pub Keeping : Kept → (List ℕ → Type 0) → Type 0
Keeping k P = (l : List ℕ) → keeping l ≡ k → P l

-- ---- The same on what is held, for every value.

abbrev pub push_of : Kept → ℕ → Kept
push_of k b =
    cond (leb 17 k.count) k
    (record { chars = set k.chars k.count b; count = k.count + 1 })

abbrev pub kept_asked : Kept → Option Ticks
kept_asked k = cond (ltb 16 k.count) None (asked_of (take k.count k.chars))
