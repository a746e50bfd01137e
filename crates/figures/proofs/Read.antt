-- What `units_of` is: an x that is exactly a * n / c for an n in range is read as n (`reads`), what is read as n is
-- exactly that (`only`), and where there is no such n it is 21 (`refuses`). Assumes nothing.
use Rattle.std.proofs.Common.{◌≡◌, ℕ, ◌+◌, ◌*◌, ◌/◌, ◌%◌, ◌<◌, ◌≤◌, Bool, true, false, ◌&&◌, T, eqb, leb, length, get_or, ℤ, sym, refl, ap, ◌∙◌, subst, true≢false, mul_assoc, mul_comm, mul-pos, div-add-mod', mul-div_cancel, arith, le→leb, eqb→eq, leb→le}
use native.Mathlib.Nat.{mul-mod_left}
use lib.Ieee.{Float, nan, inf, fin, up, down}
use lib.Ieee.Bits.{is_true}
use lib.Ieee.Fits.{down_pos, and_l, and_r, and_i}
use lib.Ieee.Exact.{HasValue}
use Rattle.figures.specs.Figures.{Answer, given, turned, units_of, pick_units}

-- the test of `units_of`, and the number that it tests
abbrev test : ℕ → ℕ → ℕ → Bool
test most r q = eqb r 0 && leb 1 q && leb q most

abbrev tested : ℕ → ℕ → ℕ → ℤ → ℕ
tested a c m e = m * up e * c / (a * down e)

abbrev passes : ℕ → ℕ → ℕ → ℕ → ℤ → Bool
passes a c most m e = test most (m * up e * c % (a * down e)) (tested a c m e)

-- n is in range and x is that many units
abbrev pub Is : ℕ → ℕ → ℕ → Float → ℕ → Type 0
Is a c most x n = (1 ≤ n) × (n ≤ most) × HasValue x false (a * n) c

pub reads : (a c most n : ℕ) (x : Float) → 0 < a → 1 ≤ n → n ≤ most → HasValue x false (a * n) c
    → units_of a c most x ≡ given n
unfolding units_of
reads a c most n nan A L U h = absurd h
reads a c most n (inf s) A L U h = absurd h
reads a c most n (fin true m e) A L U h = absurd (true≢false h.0)
reads a c most n (fin false m e) A L U h =
    let D = a * down e in
    let N : m * up e * c ≡ n * D = h.1 ∙ ap (λ (z : ℕ). z * down e) (mul_comm a n) ∙ mul_assoc n a (down e) in
    let q : m * up e * c / D ≡ n = ap (λ (z : ℕ). z / D) N ∙ mul-div_cancel n (mul-pos A (down_pos e)) in
    let r : m * up e * c % D ≡ 0 = ap (λ (z : ℕ). z % D) N ∙ mul-mod_left n D in
    let t : T (test most 0 n) = and_i (eqb 0 0 && leb 1 n) (leb n most) (le→leb 1 n L) (le→leb n most U) in
    ap (λ (z : ℕ). pick_units (test most (m * up e * c % D) z) z) q
    ∙ ap (λ (z : ℕ). pick_units (test most z n) n) r
    ∙ ap (λ (b : Bool). pick_units b n) (is_true (test most 0 n) t)

-- what a passed test says
passed : (a c most m : ℕ) (e : ℤ) → T (passes a c most m e) → Is a c most (fin false m e) (tested a c m e)
passed a c most m e t =
    let N = m * up e * c in
    let D = a * down e in
    let q = N / D in
    let t2 = and_l (eqb (N % D) 0 && leb 1 q) (leb q most) t in
    let r : N % D ≡ 0 = eqb→eq (N % D) 0 (and_l (eqb (N % D) 0) (leb 1 q) t2) in (
      leb→le 1 q (and_r (eqb (N % D) 0) (leb 1 q) t2),
      leb→le q most (and_r (eqb (N % D) 0 && leb 1 q) (leb q most) t),
      (refl, sym (div-add-mod' N D) ∙ ap (λ (z : ℕ). q * D + z) r ∙ turn q a (down e)),
    )
  where
    turn : (q a d : ℕ) → q * (a * d) + 0 ≡ a * q * d
    turn q a d = omega arith

pub refuses : (a c most : ℕ) (x : Float) → ((n : ℕ) → 1 ≤ n → n ≤ most → HasValue x false (a * n) c → ⊥)
    → units_of a c most x ≡ turned 21
unfolding units_of
refuses a c most nan h = refl
refuses a c most (inf s) h = refl
refuses a c most (fin true m e) h = refl
refuses a c most (fin false m e) h = go (passes a c most m e) (passed a c most m e)
  where
    go : (b : Bool) → (T b → Is a c most (fin false m e) (tested a c m e))
        → pick_units b (tested a c m e) ≡ turned 21
    go true k = absurd (h (tested a c m e) (k tt).0 (k tt).1 (k tt).2)
    go false k = refl

-- The value of an answer, and whether it has none.
abbrev value_of : Answer ℕ → ℕ
value_of r = get_or r.values 0 0

abbrev is_turned : Answer ℕ → Bool
is_turned r = eqb (length r.values) 0

pub only : (a c most n : ℕ) (x : Float) → units_of a c most x ≡ given n
    → (1 ≤ n) × (n ≤ most) × HasValue x false (a * n) c
unfolding units_of
only a c most n nan h = absurd (true≢false (ap is_turned h))
only a c most n (inf s) h = absurd (true≢false (ap is_turned h))
only a c most n (fin true m e) h = absurd (true≢false (ap is_turned h))
only a c most n (fin false m e) h = go (passes a c most m e) (passed a c most m e) h
  where
    go : (b : Bool) → (T b → Is a c most (fin false m e) (tested a c m e))
        → pick_units b (tested a c m e) ≡ given n → Is a c most (fin false m e) n
    go true k p = subst (λ (z : ℕ). Is a c most (fin false m e) z) (ap value_of p) (k tt)
    go false k p = absurd (true≢false (ap is_turned p))
