-- What the desk answers to each line of its input (docs/PROTOCOL.md, "From words"), and how a line under way is held.
use Rattle.std.specs.Prelude.{ℕ, zero, suc, Bool, true, false, cond, List, [], ◌∷◌, ◌++◌, ◌≡◌, leb, eqb, length, is_some}
use Rattle.block.specs.Block.{front_of}
use Rattle.machine.specs.Calls.{chars}
use Rattle.text.specs.Parts.{part, parts}
use Rattle.text.specs.Text.{holding, push_of}
use Rattle.text.specs.declared.Text.{Text}
use Rattle.numerals.specs.Numerals.{signed_of}
use Rattle.phrases.specs.Phrases.{words_text, overlong_text}
use Rattle.readout.specs.Readout.{is_block, block_text}
use Rattle.wording.specs.declared.Desk.{Desk}
use Rattle.wording.specs.declared.Taken.{Taken}
use Rattle.wording.specs.Stations.{is_station, station_text}

-- ---- Five sums, with one space (32) between two of them

abbrev pub is_sum_at : List ℕ → ℕ → Bool
is_sum_at l k = is_some (signed_of (part 32 k l))

-- Those so far are, and the next is.
abbrev pub and_sum : Bool → List ℕ → ℕ → Bool
and_sum so_far l k = cond so_far (is_sum_at l k) false

unfoldable pub sums_in : ℕ → List ℕ → Bool
sums_in zero l = true
sums_in (suc n) l = and_sum (sums_in n l) l n

abbrev pub are_sums : List ℕ → Bool
are_sums l = cond (eqb (parts 32 l) 5) (sums_in 5 l) false

-- ---- What a line is, the first that applies: over-long, a station's command, a block, five sums, words

unfoldable pub answer_text : List ℕ → List ℕ
answer_text l =
    cond (leb 100 (length l)) (overlong_text l)
    (cond (is_station l) (station_text l)
    (cond (is_block l) (block_text l)
    (cond (are_sums l) (chars "pulses " ++ l)
    (words_text l))))

-- A line feed (10) ends it.
abbrev pub answer_of : List ℕ → List ℕ
answer_of l = answer_text l ++ (10 ∷ [])

-- ---- The desk: the characters since the last line feed

abbrev pub desk_of : List ℕ → Desk
desk_of l = record { line = holding l }

-- A byte: a line feed ends the line, which is answered; any other byte is a character of it.
abbrev pub taken_by : List ℕ → ℕ → Taken
taken_by l b =
    cond (eqb b 10)
    (record { desk = desk_of []; text = holding (answer_of l) })
    (record { desk = desk_of (l ++ (b ∷ [])); text = holding [] })

-- The end of the input ends a last line that has a character.
abbrev pub finished_by : List ℕ → Text
finished_by l = cond (eqb (length l) 0) (holding []) (holding (answer_of l))

-- P of every line that the desk d holds.
abbrev pub Desks : Desk → (List ℕ → Type 0) → Type 0
Desks d P = (l : List ℕ) → desk_of l ≡ d → P l

-- ---- The same on what is held, for every value of a desk

abbrev pub held_line : Desk → List ℕ
held_line d = front_of d.line.chars d.line.count

abbrev pub taken_of : Desk → ℕ → Taken
taken_of d b =
    cond (eqb b 10)
    (record { desk = desk_of []; text = holding (answer_of (held_line d)) })
    (record { desk = record { line = push_of d.line b }; text = holding [] })

abbrev pub finished_of : Desk → Text
finished_of d = cond (eqb d.line.count 0) (holding []) (holding (answer_of (held_line d)))
