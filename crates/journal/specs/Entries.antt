-- The entries of a journal (paper 02, 1/14): their seven numbers, how an entry is spelled, and how one is read.
use Rattle.std.specs.Prelude.{ℕ, ◌+◌, ◌-◌, ◌*◌, ◌^◌, Bool, true, false, cond, ◌&&◌, List, [], ◌∷◌, ◌++◌, map, leb, get_or, drop}
use Rattle.journal.specs.declared.Entry.{Entry}
use Rattle.journal.specs.Numbers.{spelling, Got, found, stored, signed}
use Rattle.journal.specs.Numbers.Got.{cut, wrong, got}

-- The least and the most that a number may be.
pub record Range : Type 0 where
  pub least : ℕ
  pub most : ℕ

-- Ticks moved: 1 to 2 to the power 45, less 1.
abbrev pub ticks_range : Range
ticks_range = record { least = 1; most = 2 ^ 45 - 1 }

-- The cause: 0 where m reached M, else 1, stopped.
abbrev pub cause_range : Range
cause_range = record { least = 0; most = 1 }

-- A travel of -524,287 to 524,287, as it is stored.
abbrev pub travel_range : Range
travel_range = record { least = 0; most = 2 * 524287 }

-- The numbers of an entry, in order: ticks, cause and five signed travels.
abbrev pub ranges : List Range
ranges =
    ticks_range ∷ cause_range ∷ travel_range ∷ travel_range ∷ travel_range ∷ travel_range ∷ travel_range ∷ []

abbrev pub numbers_of : Entry → List ℕ
numbers_of e = e.ticks ∷ e.cause ∷ map stored e.travels

-- The entry with these numbers.
abbrev pub entry_from : List ℕ → Entry
entry_from ns = record { ticks = get_or ns 0 0; cause = get_or ns 1 0; travels = map signed (drop 2 ns) }

-- ---- writing

abbrev pub within : Range → ℕ → Bool
within r n = leb r.least n && leb n r.most

-- As many numbers as ranges, and each within its own.
unfoldable pub fit_all : List Range → List ℕ → Bool
fit_all [] [] = true
fit_all [] (n ∷ ns) = false
fit_all (r ∷ rs) [] = false
fit_all (r ∷ rs) (n ∷ ns) = within r n && fit_all rs ns

-- Whether an entry can be written.
abbrev pub fits : Entry → Bool
fits e = fit_all ranges (numbers_of e)

-- Numbers one behind the other.
unfoldable pub spell_all : List ℕ → List ℕ
spell_all [] = []
spell_all (n ∷ ns) = spelling n ++ spell_all ns

-- An entry's bytes.
abbrev pub spelled : Entry → List ℕ
spelled e = spell_all (numbers_of e)

-- ---- reading

-- A value out of range is wrong too.
abbrev pub ranged : Range → Got ℕ → Got ℕ
ranged r cut = cut
ranged r wrong = wrong
ranged r (got n used) = cond (within r n) (got n used) wrong

-- A number before those behind it.
abbrev pub before : ℕ → ℕ → Got (List ℕ) → Got (List ℕ)
before n used cut = cut
before n used wrong = wrong
before n used (got ns more) = got (n ∷ ns) (used + more)

-- Judged number by number: the rest is looked at only behind a number that was read.
abbrev pub behind : Got ℕ → (ℕ → Got (List ℕ)) → Got (List ℕ)
behind cut rest = cut
behind wrong rest = wrong
behind (got n used) rest = before n used (rest used)

-- Numbers of these ranges, one behind the other at the front of the bytes.
unfoldable pub read_all : List Range → List ℕ → Got (List ℕ)
read_all [] bs = got [] 0
read_all (r ∷ rs) bs = behind (ranged r (found 6 bs)) (λ used. read_all rs (drop used bs))

abbrev pub as_entry : Got (List ℕ) → Got Entry
as_entry cut = cut
as_entry wrong = wrong
as_entry (got ns used) = got (entry_from ns) used

-- The entry at the front of the bytes.
abbrev pub read_entry : List ℕ → Got Entry
read_entry bs = as_entry (read_all ranges bs)
