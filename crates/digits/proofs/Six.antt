-- Laws of six digits: six capitals and their number undo each other, for all 2^24 numbers, and six digits make a number
-- of 24 bits. Assumes nothing.
use Prim.Native.Nat.{ℕ, zero, suc, ◌+◌, ◌*◌, ◌/◌, ◌%◌, ◌<◌}
use mathlib.Core.Bool.{false}
use mathlib.Core.List.{List, [], ◌∷◌}
use mathlib.Core.Path.{◌≡◌, refl, ap, ◌∙◌}
use native.Mathlib.Omega.{arith}
use lib.ListN.{length, get_or}
use lib.Seq.{ext_get_or}
use Rattle.digits.specs.Digits.{capital_of, six_of, join_of, number_of, Under, numbered}
use Rattle.digits.proofs.Laws.{digit_capital, under_join, value_in, joined}

-- The number of six digits, read back digit by digit.
pub six_number : (n : ℕ) → n < 16777216 → number_of (six_of n) ≡ numbered n false
unfolding number_of six_of
six_number n h =
    rw (
      digit_capital (n / 1048576 % 16) (omega arith),
      digit_capital (n / 65536 % 16) (omega arith),
      digit_capital (n / 4096 % 16) (omega arith),
      digit_capital (n / 256 % 16) (omega arith),
      digit_capital (n / 16 % 16) (omega arith),
      digit_capital (n % 16) (omega arith),
    )
    (ap (λ (k : ℕ). numbered k false) all)
  where
    a : (0 * 16 + n / 1048576 % 16) ≡ n / 1048576
    a = omega arith

    b : n / 1048576 * 16 + n / 65536 % 16 ≡ n / 65536
    b = omega arith

    d : n / 65536 * 16 + n / 4096 % 16 ≡ n / 4096
    d = omega arith

    e : n / 4096 * 16 + n / 256 % 16 ≡ n / 256
    e = omega arith

    f : n / 256 * 16 + n / 16 % 16 ≡ n / 16
    f = omega arith

    g : n / 16 * 16 + n % 16 ≡ n
    g = omega arith

    all : (((((0 * 16 + n / 1048576 % 16) * 16 + n / 65536 % 16) * 16 + n / 4096 % 16) * 16 + n / 256 % 16) * 16
        + n / 16 % 16) * 16 + n % 16 ≡ n
    all = rw (a, b, d, e, f) g

-- The six capitals of a number given by its digits' values.
six_values : (a b d e f g : ℕ) → a < 16 → b < 16 → d < 16 → e < 16 → f < 16 → g < 16
    → six_of (((((a * 16 + b) * 16 + d) * 16 + e) * 16 + f) * 16 + g)
    ≡ capital_of a ∷ capital_of b ∷ capital_of d ∷ capital_of e ∷ capital_of f ∷ capital_of g ∷ []
unfolding six_of
six_values a b d e f g ha hb hd he hf hg =
    λ i. capital_of (p1 i) ∷ capital_of (p2 i) ∷ capital_of (p3 i) ∷ capital_of (p4 i) ∷ capital_of (p5 i) ∷ capital_of
    (p6 i) ∷ []
  where
    p6 : (((((a * 16 + b) * 16 + d) * 16 + e) * 16 + f) * 16 + g) % 16 ≡ g
    p6 = omega arith

    p5 : (((((a * 16 + b) * 16 + d) * 16 + e) * 16 + f) * 16 + g) / 16 % 16 ≡ f
    p5 = omega arith

    p4 : (((((a * 16 + b) * 16 + d) * 16 + e) * 16 + f) * 16 + g) / 256 % 16 ≡ e
    p4 = omega arith

    p3 : (((((a * 16 + b) * 16 + d) * 16 + e) * 16 + f) * 16 + g) / 4096 % 16 ≡ d
    p3 = omega arith

    p2 : (((((a * 16 + b) * 16 + d) * 16 + e) * 16 + f) * 16 + g) / 65536 % 16 ≡ b
    p2 = omega arith

    p1 : (((((a * 16 + b) * 16 + d) * 16 + e) * 16 + f) * 16 + g) / 1048576 % 16 ≡ a
    p1 = omega arith

value_of : {a b : ℕ} → numbered a false ≡ numbered b false → a ≡ b
value_of q = ap value_in q

-- The six capitals of the number that six digits with no small letter have are those digits.
pub number_six : (c1 c2 c3 c4 c5 c6 n : ℕ) → number_of (c1 ∷ c2 ∷ c3 ∷ c4 ∷ c5 ∷ c6 ∷ []) ≡ numbered n false
    → six_of n ≡ c1 ∷ c2 ∷ c3 ∷ c4 ∷ c5 ∷ c6 ∷ []
unfolding number_of
number_six c1 c2 c3 c4 c5 c6 n e =
    let j6 = joined _ c6 n e in
    let j5 = joined _ c5 j6.front j6.read in
    let j4 = joined _ c4 j5.front j5.read in
    let j3 = joined _ c3 j4.front j4.read in
    let j2 = joined _ c2 j3.front j3.read in
    let j1 = joined (numbered 0 false) c1 j2.front j2.read in
    let z : 0 ≡ j1.front = value_of j1.read in
    let n2 : j2.front ≡ j1.value = omega (arith, j1.whole) in
    ap six_of (j6.whole ∙ ap (λ (k : ℕ). k * 16 + j6.value) (j5.whole ∙ ap (λ (k : ℕ). k * 16 + j5.value)
    (j4.whole ∙ ap (λ (k : ℕ). k * 16 + j4.value) (j3.whole ∙ ap (λ (k : ℕ). k * 16 + j3.value)
    (j2.whole ∙ ap (λ (k : ℕ). k * 16 + j2.value) n2)))))
    ∙ six_values j1.value j2.value j3.value j4.value j5.value j6.value
    j1.low j2.low j3.low j4.low j5.low j6.low
    ∙ (λ i. j1.char i ∷ j2.char i ∷ j3.char i ∷ j4.char i ∷ j5.char i ∷ j6.char i ∷ [])

pub six_listed : (l : List ℕ) → length l ≡ 6
    → l ≡ get_or l 0 0 ∷ get_or l 1 0 ∷ get_or l 2 0 ∷ get_or l 3 0 ∷ get_or l 4 0 ∷ get_or l 5 0 ∷ []
six_listed l h = ext_get_or 0 l _ h same
  where
    same : (i : ℕ) → i < length l
        → get_or l i 0 ≡ get_or (get_or l 0 0 ∷ get_or l 1 0 ∷ get_or l 2 0 ∷ get_or l 3 0 ∷ get_or l 4 0 ∷ get_or l 5 0 ∷ []) i 0
    same zero k = refl
    same (suc zero) k = refl
    same (suc (suc zero)) k = refl
    same (suc (suc (suc zero))) k = refl
    same (suc (suc (suc (suc zero)))) k = refl
    same (suc (suc (suc (suc (suc zero))))) k = refl
    same (suc (suc (suc (suc (suc (suc i)))))) k = absurd (omega arith)

-- Six digits make a number of 24 bits.
pub under_six : (c1 c2 c3 c4 c5 c6 : ℕ) → Under 16777216 (number_of (c1 ∷ c2 ∷ c3 ∷ c4 ∷ c5 ∷ c6 ∷ []))
unfolding number_of
under_six c1 c2 c3 c4 c5 c6 =
    let n1 = join_of (numbered 0 false) c1 in
    let n2 = join_of n1 c2 in
    let n3 = join_of n2 c3 in
    let n4 = join_of n3 c4 in
    let n5 = join_of n4 c5 in
    under_join 1048576 n5 c6 (under_join 65536 n4 c5
    (under_join 4096 n3 c4 (under_join 256 n2 c3
    (under_join 16 n1 c2 (under_join 1 (numbered 0 false) c1 (omega arith))))))
