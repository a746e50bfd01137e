-- Laws of the inputs: the lowest bits of words shifted down are the axis's own; with no limit set no axis is blocked.
-- Assumes nothing.
use Prim.Native.Nat.{ℕ, ◌+◌, ◌*◌, ◌/◌, ◌%◌, ◌^◌, ◌<◌}
use mathlib.Core.Bool.{Bool, true, false, not, cond, ◌&&◌, ◌||◌}
use mathlib.Core.Path.{◌≡◌, refl, sym, ◌∙◌}
use native.Mathlib.Omega.{arith}
use borrow.Author.Tests.{ne_eqb}
use lib.Dec.{ltb}
use Rattle.laws.specs.Bits.{bit}
use Rattle.laws.proofs.BitLaws.{bit_down, bit_even}
use Rattle.laws.proofs.Five.{five}
use Rattle.laws.proofs.Some.{some_4}
use Rattle.inputs.specs.Inputs.{low_at, high_at, active_at, blocked_at, some_blocked}

-- ---- tests in a row

pub or_left : (t x : Bool) → true ≡ t → true ≡ t || x
or_left t x e = rw (← e)

pub or_right : (t x r : Bool) → false ≡ t → r ≡ x → r ≡ t || x
or_right t x r e p = rw (← e) p

pub and_left : (t x : Bool) → t ≡ false → false ≡ t && x
and_left t x e = rw e

pub and_right : (t x r : Bool) → t ≡ true → r ≡ x → r ≡ t && x
and_right t x r e p = rw e p

-- ---- words shifted down

pub low_down : (setting inputs a j : ℕ) → low_at (setting / 2 ^ a) (inputs / 2 ^ a) j ≡ low_at setting inputs (a + j)
low_down setting inputs a j = λ i. bit_down setting a j i && not (bit_down inputs a j i)

pub high_down : (setting inputs a j : ℕ) → high_at (setting / 2 ^ a) (inputs / 2 ^ a) j ≡ high_at setting inputs (a + j)
high_down setting inputs a j = λ i. bit_down setting a j i && bit_down inputs a j i

pub active_down : (low high inputs a : ℕ)
    → active_at (low / 2 ^ a) (high / 2 ^ a) (inputs / 2 ^ a) 0 ≡ active_at low high inputs (a + 0)
active_down low high inputs a = λ i. low_down low inputs a 0 i || high_down high inputs a 0 i

-- Axis k, in words shifted down to it.
pub axis_down : (low high inputs distance : ℕ) (minus : Bool) (k : ℕ)
    → blocked_at (low / 2 ^ (2 * k)) (high / 2 ^ (2 * k)) (inputs / 2 ^ (2 * k)) distance minus 0
    ≡ blocked_at low high inputs distance minus k
axis_down low high inputs distance minus k =
    let z : 2 * k + 0 ≡ 2 * k = omega arith in
    (λ i. ltb 0 distance && cond minus (low_down low inputs (2 * k) 0 i || high_down high inputs (2 * k) 1 i)
    (low_down low inputs (2 * k) 1 i || high_down high inputs (2 * k) 0 i))
    ∙ (λ i. ltb 0 distance && cond minus (low_at low inputs (z i) || high_at high inputs (2 * k + 1))
    (low_at low inputs (2 * k + 1) || high_at high inputs (z i)))

-- ---- no axis blocked

-- Neither side has a limit that is met.
pub still : (t m a b c d : Bool) → a ≡ false → b ≡ false → c ≡ false → d ≡ false
    → false ≡ t && cond m (a || d) (b || c)
still true true a b c d p q r s = rw (p, s)
still true false a b c d p q r s = rw (q, r)
still false m a b c d p q r s = refl

-- None is blocked where none is in words shifted down to it.
pub all_free : (low high inputs : ℕ) (distance : ℕ → ℕ) (minus : ℕ → Bool)
    → ((k : ℕ) → k < 5 → false ≡ blocked_at (low / 2 ^ (2 * k)) (high / 2 ^ (2 * k)) (inputs / 2 ^ (2 * k))
    (distance k) (minus k) 0)
    → false ≡ some_blocked low high inputs distance minus
all_free low high inputs distance minus free =
    some_4 (λ (k : ℕ). blocked_at low high inputs (distance k) (minus k) k) (sym (at 0 (omega arith)))
    (sym (at 1 (omega arith))) (sym (at 2 (omega arith))) (sym (at 3 (omega arith))) (at 4 (omega arith))
  where
    at : (k : ℕ) → k < 5 → false ≡ blocked_at low high inputs (distance k) (minus k) k
    at k h = free k h ∙ axis_down low high inputs (distance k) (minus k) k

-- The bits of axis k in a word whose bits 0 to 9 are clear.
pub clear_at : (w : ℕ) → w % 1024 ≡ 0 → (k : ℕ) → k < 5 → w / 2 ^ (2 * k) % 4 ≡ 0
clear_at w e =
    five (λ (k : ℕ). w / 2 ^ (2 * k) % 4 ≡ 0) (omega arith) (omega arith) (omega arith) (omega arith) (omega arith)

free : (low high inputs distance : ℕ) (minus : Bool) → low % 4 ≡ 0 → high % 4 ≡ 0
    → false ≡ blocked_at low high inputs distance minus 0
free low high inputs distance minus p q =
    still (ltb 0 distance) minus _ _ _ _ (sym (and_left _ _ (bit_even low (omega arith))))
    (sym (and_left _ _ (second low p))) (sym (and_left _ _ (bit_even high (omega arith))))
    (sym (and_left _ _ (second high q)))
  where
    second : (w : ℕ) → w % 4 ≡ 0 → bit w 1 ≡ false
    second w h = ne_eqb (w / 2 % 2) 1 (λ e. omega arith)

-- With bits 0 to 9 clear in both settings no axis is blocked.
pub none_blocked : (low high inputs : ℕ) (distance : ℕ → ℕ) (minus : ℕ → Bool) → low % 1024 ≡ 0 → high % 1024 ≡ 0
    → false ≡ some_blocked low high inputs distance minus
none_blocked low high inputs distance minus p q =
    all_free low high inputs distance minus (λ k h. free (low / 2 ^ (2 * k)) (high / 2 ^ (2 * k))
    (inputs / 2 ^ (2 * k)) (distance k) (minus k) (clear_at low p k h) (clear_at high q k h))
