-- How long parts and texts are: each part of a row that the checker computes, and a joined text by its parts. Assumes
-- nothing.
use Prim.Native.Nat.{ℕ, zero, suc, ◌+◌, ◌-◌, ◌≤◌}
use native.Mathlib.Omega.{arith}
use mathlib.Core.Bool.{Bool, true, false, cond, false≢true}
use mathlib.Core.List.{List, [], ◌∷◌, ◌++◌}
use mathlib.Core.Path.{◌≡◌, refl}
use lib.Dec.{eqb}
use lib.ListN.{length, length-append}
use borrow.Author.Tests.{eqb-false}
use Rattle.receiver.specs.Receiver.{before}
use Rattle.text.specs.Parts.{behind, part}

-- Whether each part has at most n bytes, the first of them at most `left`: a test that the checker computes.
unfoldable pub within : ℕ → ℕ → ℕ → List ℕ → Bool
within mark n left [] = true
within mark n left (c ∷ cs) =
    cond (eqb c mark) (within mark n n cs)
    (cond (eqb left 0) false (within mark n (left - 1) cs))

first_within : (mark n left : ℕ) (l : List ℕ) → within mark n left l ≡ true
    → length (before (λ c. eqb c mark) l) ≤ left
unfolding within before
first_within mark n left [] e = omega arith
first_within mark n left (c ∷ cs) e = when (eqb c mark) (λ r. first_within mark n (left - 1) cs r) e
  where
    Less : Type 0
    Less = within mark n (left - 1) cs ≡ true → length (before (λ c. eqb c mark) cs) ≤ left - 1

    some : (t : Bool) → Less → eqb left 0 ≡ t → cond t false (within mark n (left - 1) cs) ≡ true
        → suc (length (before (λ c. eqb c mark) cs)) ≤ left
    some true f q r = absurd (false≢true r)
    some false f q r =
        let z : left ≡ 0 → ⊥ = eqb-false left 0 q in
        omega (arith, f r, z)

    when : (t : Bool) → Less
        → cond t (within mark n n cs) (cond (eqb left 0) false (within mark n (left - 1) cs)) ≡ true
        → length (cond t [] (c ∷ before (λ c. eqb c mark) cs)) ≤ left
    when true f r = omega arith
    when false f r = some (eqb left 0) f refl r

-- Then each part has at most n.
pub part_within : (mark n left k : ℕ) (l : List ℕ) → left ≤ n → within mark n left l ≡ true
    → length (part mark k l) ≤ n
unfolding within behind before
part_within mark n left zero l h e = omega (arith, first_within mark n left l e)
part_within mark n left (suc k) [] h e = omega arith
part_within mark n left (suc k) (c ∷ cs) h e =
    when (eqb c mark) (λ r. part_within mark n n k cs (omega arith) r)
    (λ r. part_within mark n (left - 1) (suc k) cs (omega arith) r) e
  where
    when : (t : Bool)
        → (within mark n n cs ≡ true → length (part mark k cs) ≤ n)
        → (within mark n (left - 1) cs ≡ true → length (part mark (suc k) cs) ≤ n)
        → cond t (within mark n n cs) (cond (eqb left 0) false (within mark n (left - 1) cs)) ≡ true
        → length (before (λ c. eqb c mark) (cond t (behind mark k cs) (behind mark (suc k) cs))) ≤ n
    when true f g r = f r
    when false f g r = g (when_left (eqb left 0) r)
      where
        when_left : (t : Bool) → cond t false (within mark n (left - 1) cs) ≡ true
            → within mark n (left - 1) cs ≡ true
        when_left true q = absurd (false≢true q)
        when_left false q = q

-- A part is no longer than the row.
pub first_short : (mark : ℕ) (l : List ℕ) → length (part mark 0 l) ≤ length l
unfolding behind before
first_short mark [] = omega arith
first_short mark (c ∷ cs) = when (eqb c mark) (first_short mark cs)
  where
    when : (t : Bool) → length (part mark 0 cs) ≤ length cs
        → length (cond t [] (c ∷ before (λ c. eqb c mark) cs)) ≤ suc (length cs)
    when true f = omega arith
    when false f = omega (arith, f)

-- Two parts one behind the other.
pub joined_length : (a b : List ℕ) (m n : ℕ) → length a ≤ m → length b ≤ n → length (a ++ b) ≤ m + n
joined_length a b m n h k = omega (arith, length-append a b)
