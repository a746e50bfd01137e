-- Laws of one number: its groups one by one, what is read of its groups, and that what is read as a number is its
-- groups. Assumes nothing.
use Prim.Native.Nat.{ℕ, zero, suc, ◌+◌, ◌-◌, ◌*◌, ◌/◌, ◌%◌, ◌≤◌, ◌<◌}
use mathlib.Core.Bool.{Bool, true, false}
use mathlib.Core.List.{List, [], ◌∷◌, ◌++◌}
use mathlib.Core.Path.{◌≡◌, refl, sym, ap, ◌∙◌}
use native.Mathlib.Numerals.{add-one}
use native.Mathlib.Omega.{arith}
use borrow.Author.Tests.{lt-ltb, le-ltb, ne_eqb, ltb-true, ltb-false}
use lib.Dec.{ltb}
use lib.ListN.{length, take}
use Rattle.laws.proofs.Pick.{by_lt, by_eq}
use Rattle.journal.specs.Numbers.{groups, Got, onto, found}
use Rattle.journal.specs.Numbers.Got.{cut, wrong, got}
use Rattle.journal.specs.Inner.{capacity}
use Rattle.journal.specs.Journal.{Bytes}

-- ---- groups

pub group_one : (more n : ℕ) → n < 128 → groups more n ≡ n ∷ []
unfolding groups
group_one zero n h = refl
group_one (suc more) n h = rw (lt-ltb n 128 h)

pub group_more : (more n : ℕ) → 128 ≤ n → groups (suc more) n ≡ (128 + n % 128) ∷ groups more (n / 128)
unfolding groups
group_more more n h = rw (le-ltb n 128 h)

-- ---- what so many groups hold

pub capacity_least : (more : ℕ) → 128 ≤ capacity more
unfolding capacity
capacity_least zero = omega arith
capacity_least (suc more) = omega (arith, capacity_least more)

pub capacity_most : (more : ℕ) → more ≤ 6 → capacity more ≤ 562949953421312
unfolding capacity
capacity_most zero h = omega arith
capacity_most (suc zero) h = omega arith
capacity_most (suc (suc zero)) h = omega arith
capacity_most (suc (suc (suc zero))) h = omega arith
capacity_most (suc (suc (suc (suc zero)))) h = omega arith
capacity_most (suc (suc (suc (suc (suc zero))))) h = omega arith
capacity_most (suc (suc (suc (suc (suc (suc zero)))))) h = omega arith
capacity_most (suc (suc (suc (suc (suc (suc (suc more))))))) h = absurd (omega arith)

pub capacity_next : (more : ℕ) → capacity (suc more) ≡ 128 * capacity more
unfolding capacity
capacity_next more = refl

-- ---- groups are read as their number

pub found_nil : (more : ℕ) → found more [] ≡ cut
unfolding found
found_nil zero = refl
found_nil (suc more) = refl

pub found_last : (more b : ℕ) (bs : List ℕ) → b < 128 → found more (b ∷ bs) ≡ got b 1
unfolding found
found_last zero b bs h = rw (lt-ltb b 128 h)
found_last (suc more) b bs h = rw (lt-ltb b 128 h)

pub found_seventh : (b : ℕ) (bs : List ℕ) → 128 ≤ b → found 0 (b ∷ bs) ≡ wrong
unfolding found
found_seventh b bs h = rw (le-ltb b 128 h)

pub found_more : (more b : ℕ) (bs : List ℕ) → 128 ≤ b → found (suc more) (b ∷ bs) ≡ onto b (found more bs)
unfolding found
found_more more b bs h = rw (le-ltb b 128 h)

pub groups_read : (more n : ℕ) (rest : List ℕ) → n < capacity more
    → found more (groups more n ++ rest) ≡ got n (length (groups more n))
unfolding capacity
groups_read zero n rest h = rw (group_one 0 n h) (found_last 0 n rest h)
groups_read (suc more) n rest h = split (ltb n 128) refl (λ k. groups_read more (n / 128) rest k)
  where
    split : (t : Bool) → ltb n 128 ≡ t
        → (n / 128 < capacity more
        → found more (groups more (n / 128) ++ rest) ≡ got (n / 128) (length (groups more (n / 128))))
        → found (suc more) (groups (suc more) n ++ rest) ≡ got n (length (groups (suc more) n))
    split true e less =
        let k : n < 128 = ltb-true n 128 e in
        rw (group_one (suc more) n k) (found_last (suc more) n rest k)
    split false e less =
        let k : 128 ≤ n = ltb-false n 128 e in
        let l : n / 128 < capacity more = omega arith in
        let z : n / 128 ≡ 0 → ⊥ = λ (q : n / 128 ≡ 0). omega arith in
        let v : 128 + n % 128 - 128 + 128 * (n / 128) ≡ n = omega arith in
        rw (group_more more n k)
        (found_more more (128 + n % 128) (groups more (n / 128) ++ rest) (omega arith)
        ∙ ap (onto (128 + n % 128)) (less l)
        ∙ rw (ne_eqb (n / 128) 0 z) (λ i. got (v i) (add-one (length (groups more (n / 128))) i)))

-- ---- what is read is groups

abbrev pub Spelled : ℕ → List ℕ → Got ℕ → Type 0
Spelled more bs cut = Unit
Spelled more bs wrong = Unit
Spelled more bs (got n used) = (take used bs ≡ groups more n) × (used ≡ length (groups more n))

spelled_last : (more b : ℕ) (bs : List ℕ) → b < 128 → Spelled more (b ∷ bs) (got b 1)
spelled_last more b bs h = (sym (group_one more b h), sym (ap length (group_one more b h)))

spelled_onto : (more b : ℕ) (bs : List ℕ) → 128 ≤ b → b < 256 → (g : Got ℕ) → Spelled more bs g
    → Spelled (suc more) (b ∷ bs) (onto b g)
spelled_onto more b bs h k cut s = tt
spelled_onto more b bs h k wrong s = tt
spelled_onto more b bs h k (got n used) s =
    by_eq (Spelled (suc more) (b ∷ bs)) n 0 wrong (got (b - 128 + 128 * n) (used + 1)) (λ e. tt) λ ne.
    let v : 128 ≤ b - 128 + 128 * n = omega arith in
    let low : 128 + (b - 128 + 128 * n) % 128 ≡ b = omega arith in
    let high : (b - 128 + 128 * n) / 128 ≡ n = omega arith in
    let e : groups (suc more) (b - 128 + 128 * n) ≡ b ∷ groups more n =
    group_more more (b - 128 + 128 * n) v ∙ (λ i. low i ∷ groups more (high i)) in (
      rw (add-one used, s.0) (sym e),
      rw (add-one used, s.1) (sym (ap length e)),
    )

pub found_spelled : (more : ℕ) (bs : List ℕ) → Bytes bs → Spelled more bs (found more bs)
unfolding found
found_spelled zero [] h = tt
found_spelled (suc more) [] h = tt
found_spelled zero (b ∷ bs) h =
    by_lt (Spelled zero (b ∷ bs)) b 128 (got b 1) wrong (λ k. spelled_last zero b bs k) (λ k. tt)
found_spelled (suc more) (b ∷ bs) h =
    by_lt (Spelled (suc more) (b ∷ bs)) b 128 (got b 1) (onto b (found more bs)) (λ k. spelled_last (suc more) b bs k)
    (λ k. spelled_onto more b bs k h.0 (found more bs) (found_spelled more bs h.1))

-- ---- groups are bytes

pub groups_bytes : (more n : ℕ) → n < capacity more → Bytes (groups more n)
unfolding groups capacity
groups_bytes zero n h = (omega arith, tt)
groups_bytes (suc more) n h =
    by_lt Bytes n 128 (n ∷ []) ((128 + n % 128) ∷ groups more (n / 128)) (λ l. (omega arith, tt))
    (λ l. (omega arith, groups_bytes more (n / 128) (omega arith)))

-- ---- how many groups there are

pub groups_some : (more n : ℕ) → 1 ≤ length (groups more n)
unfolding groups
groups_some zero n = omega arith
groups_some (suc more) n =
    by_lt (λ (l : List ℕ). 1 ≤ length l) n 128 (n ∷ []) ((128 + n % 128) ∷ groups more (n / 128)) (λ h. omega arith)
    (λ h. omega arith)

pub groups_most : (k more n : ℕ) → n < capacity k → length (groups more n) ≤ suc k
unfolding groups capacity
groups_most zero more n h = rw (group_one more n h) (omega arith)
groups_most (suc k) zero n h = omega arith
groups_most (suc k) (suc more) n h =
    by_lt (λ (l : List ℕ). length l ≤ suc (suc k)) n 128 (n ∷ []) ((128 + n % 128) ∷ groups more (n / 128))
    (λ l. omega arith) (λ l. omega (arith, groups_most k more (n / 128) (omega arith)))
