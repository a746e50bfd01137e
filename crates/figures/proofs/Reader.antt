-- The ways out of `read_units`: where x is n units, the quotient is n without rounding; so where the quotient is out of
-- range, or its whole part does not give x, x is no number of units. Assumes nothing.
use Rattle.std.proofs.Common.{◌≡◌, ℕ, ◌+◌, ◌*◌, ◌/◌, ◌^◌, ◌<◌, ◌≤◌, min, Bool, true, false, T, pos, sym, refl, ap, ◌∙◌, subst, true≢false, lt_of_le_of_lt, mul-le-mul_right, zero-lt-suc, mul_comm, mul-lt-mul_of_pos_right, mul-pos, le-div_iff_mul-le, mul-one, arith, lit<, le→leb, lt→ltb}
use native.Mathlib.Nat.{div-le_of_le-mul}
use lib.Ieee.{Float, nan, inf, fin, binary64, up, down, mul, div, eq, le, lt, of_int, of_bits, to_unsigned, in_float}
use lib.Ieee.Fits.{down_pos}
use lib.Ieee.Exact.{HasValue}
use lib.Ieee.Back.{round_whole, unsigned_back}
use lib.Ieee.Order.{le_of_values}
use lib.Ieee.Positive.{num, den, positive, own_value, positive_of_value, between, values_of_le}
use lib.Ieee.Scale.{round_same}
use Rattle.figures.specs.Figures.{UnitIs, given, turned, units_of}
use Rattle.figures.proofs.Values.{div_of, eq_value, eq_same, units_are}
use Rattle.figures.proofs.Read.{reads, refuses}

-- ---- the two bounds of the quotient, 1 and the largest u32

abbrev pub one : Float
one = of_bits binary64 0x3ff0_0000_0000_0000

abbrev pub largest : Float
largest = of_bits binary64 0x41ef_ffff_ffe0_0000

one_is : HasValue one false 1 1
unfolding of_bits
one_is = (refl, refl)

largest_is : HasValue largest false 4294967295 1
unfolding of_bits
largest_is = (refl, refl)

-- what the whole part's call and its cast ask of a quotient between them
pub record Between (y : Float) : Type 0 where
  pub above : T (lt (fin true 1 (pos 0)) y)
  pub below : T (lt y (fin false 1 (pos 64)))
  pub low : 1 ≤ to_unsigned 64 y
  pub high : to_unsigned 64 y < 4294967296

pub in_range_lem : (y : Float) → le one y ≡ true → le y largest ≡ true → Between y
unfolding lt to_unsigned
in_range_lem y l h =
    let L : T (le one y) = subst T (sym l) tt in
    let H : T (le y largest) = subst T (sym h) tt in
    let pl = positive_of_value one 1 1 one_is (lit< tt) in
    let ph = positive_of_value largest 4294967295 1 largest_is (lit< tt) in
    let p : T (positive y) = between one y largest pl ph L H in
    go y p (values_of_le one y 1 1 (num y) (den y) pl p one_is (own_value y p) L)
    (values_of_le y largest (num y) (den y) 4294967295 1 p ph (own_value y p) largest_is H)
  where
    over : (d n : ℕ) → 0 < d → 0 < 1 * d + n * 1
    over d n h = omega arith

    capped : (q : ℕ) → 1 ≤ q → q ≤ 4294967295
        → (1 ≤ min q 18446744073709551615) × (min q 18446744073709551615 < 4294967296)
    capped q a b = (omega arith, omega arith)

    go : (y : Float) → T (positive y) → 1 * den y ≤ num y * 1 → num y * 1 ≤ 4294967295 * den y → Between y
    go nan p a b = absurd p
    go (inf s) p a b = absurd p
    go (fin true m e) p a b = absurd p
    go (fin false m e) p a b =
        let n = m * up e in
        let d = down e in
        let D : 0 < d = down_pos e in
        let A : 1 * d ≤ n = subst (λ (z : ℕ). 1 * d ≤ z) (mul-one n) a in
        let B : n ≤ d * 4294967295 =
        subst (λ (z : ℕ). z ≤ d * 4294967295) (mul-one n)
        (subst (λ (z : ℕ). n * 1 ≤ z) (mul_comm 4294967295 d) b) in
        let q = capped (n / d) ((le-div_iff_mul-le D).1 A) (div-le_of_le-mul d B) in
        record {
          above = lt→ltb 0 (1 * d + n * 1) (over d n D);
          below = lt→ltb (n * 1) (18446744073709551616 * d) (lt_of_le_of_lt b (mul-lt-mul_of_pos_right (lit< tt) D));
          low = q.0;
          high = q.1;
        }

-- ---- the quotient of a figure

wide : (k : ℕ) → k < 4294967296 → k ≤ 2 ^ 53
wide k h = omega arith

whole_value : (k : ℕ) → k < 4294967296 → HasValue (of_int binary64 (pos k)) false k 1
unfolding of_int
whole_value k h = round_whole binary64 false k (wide k h)

whole_back : (k : ℕ) → k < 4294967296 → to_unsigned 64 (of_int binary64 (pos k)) ≡ k
unfolding in_float
whole_back k h = (unsigned_back binary64 64 k (le→leb k (2 ^ 53) (wide k h)) (small k h)).1
  where
    small : (k : ℕ) → k < 4294967296 → k < 2 ^ 64
    small k h = omega arith

-- if x is k units of a / 4, then x / u is k
exact : (a k : ℕ) (x u : Float) → UnitIs u a → HasValue x false (a * k) 4 → div binary64 x u ≡ of_int binary64 (pos k)
unfolding of_int
exact a k x u h v =
    div_of binary64 x u (a * k) 4 a 4 (lit< tt) h.some v h.value
    ∙ round_same binary64 false (a * k * 4) (4 * a) k 1 (mul-pos (zero-lt-suc 3) h.some) (zero-lt-suc 0) (turn a k)
  where
    turn : (a k : ℕ) → a * k * 4 * 1 ≡ k * (4 * a)
    turn a k = omega arith

-- ---- the ways out

clash : (b : Bool) → b ≡ false → T b → ⊥
clash b e t = subst T e t

module _ (x u : Float) (most : ℕ) (M : most < 4294967296) (a : ℕ) (h : UnitIs u a) where
  quotient : (k : ℕ) → k ≤ most → HasValue x false (a * k) 4 → HasValue (div binary64 x u) false k 1
  quotient k K v =
      subst (λ (y : Float). HasValue y false k 1) (sym (exact a k x u h v)) (whole_value k (lt_of_le_of_lt K M))

  pub too_low : le one (div binary64 x u) ≡ false → units_of a 4 most x ≡ turned 21
  too_low e =
      refuses a 4 most x
      (λ k L U v. clash (le one (div binary64 x u)) e
      (le_of_values one (div binary64 x u) 1 1 k 1 (lit< tt) (lit< tt) one_is (quotient k U v)
      (subst (λ (z : ℕ). 1 ≤ z) (sym (mul-one k)) L)))

  pub too_high : le (div binary64 x u) largest ≡ false → units_of a 4 most x ≡ turned 21
  too_high e =
      refuses a 4 most x
      (λ k L U v. clash (le (div binary64 x u) largest) e
      (le_of_values (div binary64 x u) largest k 1 4294967295 1 (lit< tt) (lit< tt) (quotient k U v) largest_is
      (mul-le-mul_right 1 (top k (lt_of_le_of_lt U M)))))
    where
      top : (k : ℕ) → k < 4294967296 → k ≤ 4294967295
      top k h = omega arith

  -- n is the whole part of the quotient; where x is k units, n is k
  module _ (n : ℕ) (w : n ≡ to_unsigned 64 (div binary64 x u)) where
    whole : (k : ℕ) → k ≤ most → HasValue x false (a * k) 4 → n ≡ k
    whole k K v = w ∙ ap (to_unsigned 64) (exact a k x u h v) ∙ whole_back k (lt_of_le_of_lt K M)

    pub too_many : most < n → units_of a 4 most x ≡ turned 21
    too_many l = refuses a 4 most x (λ k L U v. no k n most (whole k U v) U l)
      where
        no : (k n most : ℕ) → n ≡ k → k ≤ most → most < n → ⊥
        no k n most e a b = omega arith

    pub same : n < 4294967296 → 1 ≤ n → n ≤ most → eq (mul binary64 (of_int binary64 (pos n)) u) x ≡ true
        → units_of a 4 most x ≡ given n
    same N L U e =
        reads a 4 most n x h.some L U
        (eq_value (mul binary64 (of_int binary64 (pos n)) u) x (a * n) 4 (mul-pos h.some L) (lit< tt)
        (units_are a n u N h).value (subst T (sym e) tt))

    pub other : n < 4294967296 → eq (mul binary64 (of_int binary64 (pos n)) u) x ≡ false
        → units_of a 4 most x ≡ turned 21
    other N e =
        refuses a 4 most x
        (λ k L U v. true≢false
        (sym (eq_same (mul binary64 (of_int binary64 (pos n)) u) x (a * n) 4 (lit< tt) (units_are a n u N h).value
        (subst (λ (z : ℕ). HasValue x false (a * z) 4) (sym (whole k U v)) v)) ∙ e))
