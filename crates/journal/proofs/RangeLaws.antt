-- Laws of the seven numbers of an entry: their ranges, whether they fit, and each of them by itself. Assumes
-- nothing.
use Rattle.std.specs.List.{All}
use Rattle.std.specs.Iterator.{Yields}
use Rattle.std.specs.Array.{list_steps}
use Prim.Native.Nat.{ℕ, zero, suc, ◌≤◌, ◌<◌}
use Rattle.std.specs.Prelude.{MatchBool}
use mathlib.Core.Bool.{Bool, true, false, false≢true}
use mathlib.Core.List.{List, [], ◌∷◌, map}
use mathlib.Core.Path.{◌≡◌, refl, sym, ap, subst, ◌∙◌}
use native.Mathlib.Omega.{arith}
use borrow.Author.Tests.{leb-true}
use lib.Dec.{leb}
use lib.IntN.{ℤ, pos}
use lib.ListN.{length, get_or}
use Rattle.laws.proofs.Tests.{both}
use Rattle.journal.specs.Numbers.{stored}
use Rattle.journal.specs.Entries.{
  Range,
  ticks_range,
  cause_range,
  travel_range,
  ranges,
  within,
  fit_all,
}
use Rattle.journal.specs.Inner.{range_at}

-- ---- ranges

pub by_range : (P : Range → Type 0) → P ticks_range → P cause_range → P travel_range → (k : ℕ) → P (range_at k)
by_range P a b c zero = a
by_range P a b c (suc zero) = b
by_range P a b c (suc (suc zero)) = c
by_range P a b c (suc (suc (suc zero))) = c
by_range P a b c (suc (suc (suc (suc zero)))) = c
by_range P a b c (suc (suc (suc (suc (suc zero))))) = c
by_range P a b c (suc (suc (suc (suc (suc (suc zero)))))) = c
by_range P a b c (suc (suc (suc (suc (suc (suc (suc k))))))) = c

pub within_most : (r : Range) (n : ℕ) → within r n ≡ true → n ≤ r.most
within_most r n e = leb-true n r.most (both (leb r.least n) (leb n r.most) e).1

pub within_small : (k n : ℕ) → within (range_at k) n ≡ true → n < 562949953421312
within_small k n e =
    by_range (λ (r : Range). within r n ≡ true → n < 562949953421312)
    (λ (e : within ticks_range n ≡ true). omega (arith, within_most ticks_range n e))
    (λ (e : within cause_range n ≡ true). omega (arith, within_most cause_range n e))
    (λ (e : within travel_range n ≡ true). omega (arith, within_most travel_range n e)) k e

-- ---- numbers that fit

pub fit_length : (rs : List Range) (ns : List ℕ) → fit_all rs ns ≡ true → length ns ≡ length rs
unfolding fit_all
fit_length [] [] e = refl
fit_length [] (n ∷ ns) e = absurd (false≢true e)
fit_length (r ∷ rs) [] e = absurd (false≢true e)
fit_length (r ∷ rs) (n ∷ ns) e = ap suc (fit_length rs ns (both (within r n) (fit_all rs ns) e).1)

pub fit_at : (rs : List Range) (ns : List ℕ) (d : Range) (k : ℕ) → fit_all rs ns ≡ true → k < length rs
    → within (get_or rs k d) (get_or ns k 0) ≡ true
unfolding fit_all
fit_at [] ns d k e h = absurd (omega arith)
fit_at (r ∷ rs) [] d k e h = absurd (false≢true e)
fit_at (r ∷ rs) (n ∷ ns) d zero e h = (both (within r n) (fit_all rs ns) e).0
fit_at (r ∷ rs) (n ∷ ns) d (suc k) e h = fit_at rs ns d k (both (within r n) (fit_all rs ns) e).1 (omega arith)

pub travel_at : (ns : List ℕ) (k : ℕ) → fit_all ranges ns ≡ true → k < 7 → range_at k ≡ travel_range
    → get_or ns k 0 < 1048576
travel_at ns k f h e =
    let w : within travel_range (get_or ns k 0) ≡ true =
    ap (λ (r : Range). within r (get_or ns k 0)) (sym e) ∙ fit_at ranges ns travel_range k f h in
    omega (arith, within_most travel_range (get_or ns k 0) w)

-- ---- five travels as they are stored

pub five_stored : (zs : List ℤ) (ns : List ℕ) → length zs ≡ 5
    → ((k : ℕ) → k < 5 → get_or ns k 0 ≡ stored (get_or zs k (pos 0)))
    → get_or ns 0 0 ∷ get_or ns 1 0 ∷ get_or ns 2 0 ∷ get_or ns 3 0 ∷ get_or ns 4 0 ∷ [] ≡ map stored zs
five_stored [] ns l h = absurd (omega arith)
five_stored (a ∷ []) ns l h = absurd (omega arith)
five_stored (a ∷ b ∷ []) ns l h = absurd (omega arith)
five_stored (a ∷ b ∷ c ∷ []) ns l h = absurd (omega arith)
five_stored (a ∷ b ∷ c ∷ d ∷ []) ns l h = absurd (omega arith)
five_stored (a ∷ b ∷ c ∷ d ∷ e ∷ []) ns l h =
    λ i. h 0 (omega arith) i ∷ h 1 (omega arith) i ∷ h 2 (omega arith) i ∷ h 3 (omega arith) i ∷ h 4 (omega arith) i ∷ []
five_stored (a ∷ b ∷ c ∷ d ∷ e ∷ f ∷ zs) ns l h = absurd (omega arith)

-- ---- judged one by one

all_in : (rs : List Range) (ns : List ℕ) → length ns ≡ length rs
    → ((k : ℕ) → k < length rs → within (get_or rs k travel_range) (get_or ns k 0) ≡ true) → fit_all rs ns ≡ true
unfolding fit_all
all_in [] [] e h = refl
all_in [] (n ∷ ns) e h = absurd (omega arith)
all_in (r ∷ rs) [] e h = absurd (omega arith)
all_in (r ∷ rs) (n ∷ ns) e h =
    let first = h 0 (omega arith) in
    let rest = all_in rs ns (omega arith) (λ k l. h (suc k) (omega arith)) in
    rw (first, rest)

pub all_fit : (ns : List ℕ) → length ns ≡ 7 → (r : Bool)
    → MatchBool r ((k : ℕ) → k < 7 → within (range_at k) (get_or ns k 0) ≡ true)
    ((k : ℕ) × (k < 7) × (within (range_at k) (get_or ns k 0) ≡ false))
    → r ≡ fit_all ranges ns
all_fit ns e true h = sym (all_in ranges ns e h)
all_fit ns e false h = one_out (fit_all ranges ns) refl
  where
    one_out : (r : Bool) → fit_all ranges ns ≡ r → false ≡ r
    one_out true p = sym h.2 ∙ fit_at ranges ns travel_range h.0 p h.1
    one_out false p = refl

-- ---- calls at the items of a list in turn

-- Each call is at a number below m.
pub item_small : (m : ℕ) (l xs t u : List ℕ) (x : ℕ) → All (λ n. n < m) l → Yields list_steps l xs t → t ≡ x ∷ u → x < m
item_small m l [] t u x a y e = subst (All (λ n. n < m)) (y ∙ e) a 0 0 (omega arith)
item_small m l (z ∷ xs) t u x a y e =
    let rest = subst (All (λ n. n < m)) y.1 a in
    item_small m y.0 xs t u x (λ k d h. rest (suc k) d (omega arith)) y.2 e
