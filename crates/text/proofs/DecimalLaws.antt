-- Laws of decimal digits, one by one, and of their number. Assumes nothing.
use Prim.Native.Nat.{ℕ, zero, suc, ◌+◌, ◌*◌, ◌/◌, ◌%◌, ◌≤◌, ◌<◌}
use native.Mathlib.Numerals.{add-one}
use native.Mathlib.Omega.{arith}
use mathlib.Core.Bool.{cond}
use mathlib.Core.List.{[], ◌∷◌, ◌++◌}
use mathlib.Core.Path.{◌≡◌, ap, ◌∙◌}
use borrow.Author.Tests.{lt-ltb, le-ltb}
use lib.Dec.{ltb}
use lib.ListN.{length, length-append}
use Rattle.laws.proofs.Pick.{by_lt}
use Rattle.text.specs.Decimal.{spell, decimal_of}

-- ---- one by one

spell_enough : (f g n : ℕ) → n < f → n < g → spell f n ≡ spell g n
unfolding spell
spell_enough zero g n h k = absurd (omega arith)
spell_enough (suc f) zero n h k = absurd (omega arith)
spell_enough (suc f) (suc g) n h k =
    by_lt {A = ℕ}
    (λ (x : ℕ). cond (ltb n 10) ((48 + n) ∷ []) (spell f (n / 10) ++ ((48 + n % 10) ∷ []))
    ≡ cond (ltb n 10) ((48 + n) ∷ []) (spell g (n / 10) ++ ((48 + n % 10) ∷ []))) n 10 0 0
    (λ l. rw (lt-ltb n 10 l))
    (λ l. let a : n / 10 < f = omega arith in let b : n / 10 < g = omega arith in
    rw (spell_enough f g (n / 10) a b))

pub decimal_one : (n : ℕ) → n < 10 → decimal_of n ≡ (48 + n) ∷ []
unfolding decimal_of spell
decimal_one n h = rw (add-one n, lt-ltb n 10 h)

pub decimal_more : (n : ℕ) → 10 ≤ n → decimal_of n ≡ decimal_of (n / 10) ++ ((48 + n % 10) ∷ [])
unfolding decimal_of spell
decimal_more n h =
    let a : n / 10 < n = omega arith in
    let b : n / 10 < n / 10 + 1 = omega arith in
    rw (add-one n, le-ltb n 10 h) (ap (λ x. x ++ ((48 + n % 10) ∷ [])) (spell_enough n (n / 10 + 1) (n / 10) a b))

-- ---- their number

pub more_length : (n : ℕ) → 10 ≤ n → length (decimal_of n) ≡ length (decimal_of (n / 10)) + 1
more_length n h = ap length (decimal_more n h) ∙ length-append (decimal_of (n / 10)) ((48 + n % 10) ∷ [])

unfoldable tens : ℕ → ℕ
tens zero = 1
tens (suc k) = 10 * tens k

decimal_most : (k n : ℕ) → n < tens (suc k) → length (decimal_of n) ≤ suc k
unfolding tens
decimal_most zero n h = rw (decimal_one n (omega arith)) (omega arith)
decimal_most (suc k) n h =
    by_lt {A = ℕ} (λ (x : ℕ). length (decimal_of n) ≤ suc (suc k)) n 10 0 0
    (λ l. rw (decimal_one n l) (omega arith))
    (λ l. let a : n / 10 < 10 * tens k = omega arith in
    rw (decimal_more n l, length-append) (omega (arith, decimal_most k (n / 10) a)))

pub decimal_ten : (n : ℕ) → n < 4294967296 → length (decimal_of n) ≤ 10
unfolding tens
decimal_ten n h = decimal_most 9 n (omega arith)
