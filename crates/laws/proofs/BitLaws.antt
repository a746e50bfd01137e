-- Laws of the bits of a word: a bit of a word shifted down, the lowest bit by its remainder, a word from its bits, and
-- a word with the lower bits of one and the higher bits of another. Assumes nothing.
use Prim.Native.Nat.{ℕ, zero, suc, ◌+◌, ◌*◌, ◌/◌, ◌%◌, ◌^◌, ◌≤◌, ◌<◌}
use mathlib.Core.Bool.{Bool, true, false, not, cond}
use mathlib.Core.Path.{◌≡◌, refl, sym, ap}
use native.Mathlib.Nat.{div-one, two-pow-succ, pow-succ', mod-one, mod-lt}
use native.Mathlib.Omega.{arith}
use borrow.Author.Tests.{eq-eqb, ne_eqb, eqb-true, eqb-false, lt-ltb, ltb-true, ltb-false}
use lib.Arith.{mod-mul}
use lib.Dec.{eqb, ltb}
use lib.Pow.{shr-shr, pow_pos}
use Rattle.laws.specs.Bits.{bit, weight, weigh}

-- ---- one bit

pub bit_down : (w a i : ℕ) → bit (w / 2 ^ a) i ≡ bit w (a + i)
bit_down w a i = ap (λ (x : ℕ). eqb (x % 2) 1) (shr-shr w a i)

pub bit_even : (w : ℕ) → w % 2 ≡ 0 → bit w 0 ≡ false
bit_even w h = ne_eqb (w / 1 % 2) 1 (λ e. omega arith)

pub bit_odd : (w : ℕ) → (w % 2 ≡ 0 → ⊥) → bit w 0 ≡ true
bit_odd w h = eq-eqb (w / 1 % 2) 1 (omega arith)

pub test_odd : (w : ℕ) → eqb (w % 2) 1 ≡ bit w 0
test_odd w = ap (λ (x : ℕ). eqb (x % 2) 1) (sym (div-one w))

pub test_even : (w : ℕ) → eqb (w % 2) 0 ≡ not (bit w 0)
test_even w = known (eqb (w % 2) 0) refl
  where
    known : (b : Bool) → eqb (w % 2) 0 ≡ b → b ≡ not (bit w 0)
    known true e = let h : w % 2 ≡ 0 = eqb-true (w % 2) 0 e in ap not (sym (bit_even w h))
    known false e = ap not (sym (bit_odd w (eqb-false (w % 2) 0 e)))

-- ---- a word from its bits

-- A bit that counts n, as a product.
weight_bit : (x n : ℕ) → x < 2 → weight (eqb x 1) n ≡ x * n
weight_bit zero n h = omega arith
weight_bit (suc zero) n h = omega arith
weight_bit (suc (suc x)) n h = absurd (omega arith)

pub weight_le : (b : Bool) (n : ℕ) → weight b n ≤ n
weight_le true n = omega arith
weight_le false n = omega arith

-- The number made of the lowest n bits of w.
pub weigh_bits : (n w : ℕ) → weigh n (bit w) ≡ w % 2 ^ n
unfolding weigh
weigh_bits zero w = sym (mod-one w)
weigh_bits (suc n) w =
    rw (
      weigh_bits n w,
      pow-succ',
      mod-mul w {m = 2} {c = 2 ^ n} (omega arith) (pow_pos n),
      weight_bit (w / 2 ^ n % 2) (2 ^ n) (mod-lt (w / 2 ^ n) (omega arith)),
    )
    (omega arith)

pub weigh_lt : (n : ℕ) (f : ℕ → Bool) → weigh n f < 2 ^ n
unfolding weigh
weigh_lt zero f = omega arith
weigh_lt (suc n) f = omega (arith, weigh_lt n f, weight_le (f n) (2 ^ n), two-pow-succ n)

-- Bits of f below m, and of g from there on.
abbrev pub mixed : ℕ → (ℕ → Bool) → (ℕ → Bool) → ℕ → Bool
mixed m f g i = cond (ltb i m) (f i) (g i)

weigh_below : (n m : ℕ) (f g : ℕ → Bool) → n ≤ m → weigh n (mixed m f g) ≡ weigh n f
unfolding weigh
weigh_below zero m f g h = refl
weigh_below (suc n) m f g h =
    let k : n < m = omega arith in
    rw (weigh_below n m f g (omega arith), lt-ltb n m k)

-- What the higher bits of g add to the lower bits of f.
pub weigh_mixed : (n m : ℕ) (f g : ℕ → Bool) → m ≤ n → weigh n (mixed m f g) + weigh m g ≡ weigh m f + weigh n g
unfolding weigh
weigh_mixed zero m f g h = let e : m ≡ 0 = omega arith in rw e
weigh_mixed (suc n) m f g h = split (λ k. weigh_mixed n m f g k) (ltb n m) refl
  where
    split : (m ≤ n → weigh n (mixed m f g) + weigh m g ≡ weigh m f + weigh n g) → (b : Bool) → ltb n m ≡ b
        → weigh (suc n) (mixed m f g) + weigh m g ≡ weigh m f + weigh (suc n) g
    split less true e =
        let k : n < m = ltb-true n m e in
        let s : m ≡ suc n = omega arith in
        rw (s, weigh_below (suc n) (suc n) f g (omega arith))
    split less false e =
        let k : m ≤ n = ltb-false n m e in
        rw e (omega (arith, less k))
