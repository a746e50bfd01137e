-- Laws of numbers as people write them: a row of digits read on by one, and the noughts of a fraction. Assumes nothing.
use Rattle.std.proofs.Common.{Option, None}
use Rattle.std.specs.List.{list_all}
use Prim.Native.Nat.{ℕ, ◌+◌, ◌<◌, ◌≤◌}
use native.Mathlib.Numerals.{add-one}
use mathlib.Core.Bool.{Bool, true, false, cond, ◌&&◌}
use mathlib.Core.List.{List, [], ◌∷◌}
use mathlib.Core.Path.{◌≡◌, refl}
use lib.Dec.{eqb}
use lib.ListN.{length, get_or, drop, drop_of_length-le}
use lib.Seq.{drop-cons}
use Rattle.numerals.specs.Numerals.{join_of, read_on, noughts}

-- ---- a row of digits

pub read_next : (base : ℕ) (n : Option ℕ) (i : ℕ) (cs : List ℕ) → i < length cs
    → read_on base n (drop i cs) ≡ read_on base (join_of base n (get_or cs i 0)) (drop (i + 1) cs)
unfolding read_on
read_next base n i cs h = rw (drop-cons cs i 0 h, add-one i)

pub read_end : (base : ℕ) (n : Option ℕ) (i : ℕ) (cs : List ℕ) → length cs ≤ i → read_on base n (drop i cs) ≡ n
unfolding read_on
read_end base n i cs h = rw (drop_of_length-le cs h)

-- What spells no number so far spells none.
pub read_none : (base : ℕ) (cs : List ℕ) → read_on base None cs ≡ None
unfolding read_on
read_none base [] = refl
read_none base (c ∷ cs) = read_none base cs

-- ---- noughts

pub all_noughts : (cs : List ℕ) → list_all (λ c. eqb c 48) cs ≡ noughts cs
unfolding noughts
all_noughts [] = refl
all_noughts (c ∷ cs) = when (eqb c 48) (all_noughts cs)
  where
    when : (t : Bool) → list_all (λ c. eqb c 48) cs ≡ noughts cs
        → (t && list_all (λ c. eqb c 48) cs) ≡ cond t (noughts cs) false
    when true e = e
    when false e = refl
