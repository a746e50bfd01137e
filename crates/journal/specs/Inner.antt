-- What the private functions answer: a means of proof, not what a reader must believe.
use Rattle.std.specs.Prelude.{ℕ, zero, suc, ◌+◌, ◌*◌, cond, List, leb, length, get_or, Result, Ok, Err}
use Rattle.journal.specs.declared.Found.{Found}
use Rattle.journal.specs.declared.Refusal.{Refusal}
use Rattle.journal.specs.declared.Refusal.TheVariants.{NoSpace, CutShort, Wrong}
use Rattle.journal.specs.Numbers.{Got}
use Rattle.journal.specs.Numbers.Got.{cut, wrong, got}
use Rattle.journal.specs.Entries.{Range, ranges, travel_range, fit_all, spell_all}

-- The numbers 22 to 24.
abbrev pub refusal_number : Refusal → ℕ
refusal_number NoSpace = 22
refusal_number CutShort = 23
refusal_number Wrong = 24

-- Whether a buffer of this length takes an entry with these numbers at a place.
abbrev pub taken : ℕ → ℕ → List ℕ → Result Unit Refusal
taken size at ns =
    cond (fit_all ranges ns) (cond (leb (at + length (spell_all ns)) size) (Ok tt) (Err NoSpace)) (Err Wrong)

-- What one group and so many more can hold.
unfoldable pub capacity : ℕ → ℕ
capacity zero = 128
capacity (suc more) = 128 * capacity more

-- What was read from the place at on.
abbrev pub found_at : {A : Type 0} → ℕ → Got A → Result (Found A) Refusal
found_at at cut = Err CutShort
found_at at wrong = Err Wrong
found_at at (got x used) = Ok (record { value = x; next = at + used })

-- The range of number k; every number from the third on is a travel.
abbrev pub range_at : ℕ → Range
range_at k = get_or ranges k travel_range
