-- Product, quotient and `==` of f64 values that are known as fractions (`HasValue x false a c`: x is a / c exactly); a
-- quarter of a whole number below 2^53 is an f64. Assumes nothing.
use Rattle.std.proofs.Common.{◌≡◌, ℕ, ◌*◌, ◌^◌, ◌<◌, ◌≤◌, true, false, ◌&&◌, T, eqb, pos, sym, refl, ap, ◌∙◌, subst, true≢false, lt_trans, lt_of_lt_of_le, lt_of_le_of_lt, le_of_lt, mul_assoc, mul_comm, mul-le-mul_left, mul-lt-mul_of_pos_right, mul-pos, arith, lit<, lit≤, eqb→eq, shl_lt}
use native.Mathlib.Nat.{mul-mul-mul_comm, eq_of_mul-eq-mul_right}
use lib.Dec.{eqb_refl, not_T}
use lib.Ieee.{Float, nan, inf, fin, Format, binary64, up, down, round, mul, div, eq, of_int, of_bits}
use lib.Ieee.Bits.{cond_no, is_true}
use lib.Ieee.Fits.{up_pos, down_pos, and_l, and_r, and_i}
use lib.Ieee.Exact.{HasValue, round_exact}
use lib.Ieee.Positive.{first_pos}
use lib.Ieee.Scale.{round_same}
use lib.Ieee.Back.{round_whole}
use Rattle.figures.specs.Figures.{Exactly, UnitIs}

-- ---- a product and a quotient are the rounded product and quotient of the fractions

pub mul_of : (f : Format) (x y : Float) (a c b d : ℕ) → 0 < c → 0 < d → HasValue x false a c → HasValue y false b d
    → mul f x y ≡ round f false (a * b) (c * d)
unfolding mul
mul_of f nan y a c b d C D h k = absurd h
mul_of f (inf s) y a c b d C D h k = absurd h
mul_of f (fin true m e) y a c b d C D h k = absurd (true≢false h.0)
mul_of f (fin false m e) nan a c b d C D h k = absurd k
mul_of f (fin false m e) (inf s) a c b d C D h k = absurd k
mul_of f (fin false m e) (fin true n g) a c b d C D h k = absurd (true≢false k.0)
mul_of f (fin false m e) (fin false n g) a c b d C D h k =
    round_same f false (m * up e * (n * up g)) (down e * down g) (a * b) (c * d)
    (mul-pos (down_pos e) (down_pos g)) (mul-pos C D)
    (mul-mul-mul_comm (m * up e) (n * up g) c d
    ∙ ap (λ (z : ℕ). z * (n * up g * d)) h.1
    ∙ ap (λ (z : ℕ). a * down e * z) k.1
    ∙ mul-mul-mul_comm a (down e) b (down g))

-- from m / e ≡ a / c and n / g ≡ b / d: (m / e) / (n / g) ≡ (a / c) / (b / d)
quotients : (m e n g a c b d : ℕ) → m * c ≡ a * e → n * d ≡ b * g → m * g * (c * b) ≡ a * d * (n * e)
quotients m e n g a c b d p q =
    let l : m * c * (b * g) ≡ a * e * (b * g) = ap (λ (z : ℕ). z * (b * g)) p in
    let r : a * e * (n * d) ≡ a * e * (b * g) = ap (λ (z : ℕ). a * e * z) q in
    omega arith

apart : (n : ℕ) → 0 < n → n ≡ 0 → ⊥
apart n h e = omega arith

pub div_of : (f : Format) (x y : Float) (a c b d : ℕ) → 0 < c → 0 < b → HasValue x false a c → HasValue y false b d
    → div f x y ≡ round f false (a * d) (c * b)
unfolding div
div_of f nan y a c b d C B h k = absurd h
div_of f (inf s) y a c b d C B h k = absurd h
div_of f (fin true m e) y a c b d C B h k = absurd (true≢false h.0)
div_of f (fin false m e) nan a c b d C B h k = absurd k
div_of f (fin false m e) (inf s) a c b d C B h k = absurd k
div_of f (fin false m e) (fin true n g) a c b d C B h k = absurd (true≢false k.0)
div_of f (fin false m e) (fin false n g) a c b d C B h k =
    let above : 0 < n * up g * d = subst (λ (z : ℕ). 0 < z) (sym k.1) (mul-pos B (down_pos g)) in
    let N : 0 < n = first_pos n (up g) (first_pos (n * up g) d above) in
    cond_no (eqb n 0) _ (round f false (m * up e * down g) (n * up g * down e))
    (not_T (eqb n 0) (λ t. apart n N (eqb→eq n 0 t)))
    ∙ round_same f false (m * up e * down g) (n * up g * down e) (a * d) (c * b)
    (mul-pos (mul-pos N (up_pos g)) (down_pos e)) (mul-pos C B)
    (quotients (m * up e) (down e) (n * up g) (down g) a c b d h.1 k.1)

-- ---- quarters

pub quarter : (a : ℕ) → a < 2 ^ 53 → HasValue (round binary64 false a 4) false a 4
quarter a h =
    round_exact binary64 false a 4 a 1072 (lit< tt) h
    (lt_of_lt_of_le (shl_lt 53 1072 h) (lit≤ tt))
    (sym (mul_assoc a (2 ^ 1072) 4))

-- the units of the two scales, 0.25 and 1.25
abbrev pub speed_unit : Float
speed_unit = of_bits binary64 0x3fd0_0000_0000_0000

abbrev pub slope_unit : Float
slope_unit = of_bits binary64 0x3ff4_0000_0000_0000

pub speed_unit_is : UnitIs speed_unit 1
unfolding of_bits
speed_unit_is = record { some = lit< tt; small = lit< tt; value = (refl, refl) }

pub slope_unit_is : UnitIs slope_unit 5
unfolding of_bits
slope_unit_is = record { some = lit< tt; small = lit< tt; value = (refl, refl) }

-- n units of a / 4, for an n of 32 bits
pub units_are : (a n : ℕ) (u : Float) → n < 2 ^ 32 → UnitIs u a
    → Exactly (mul binary64 (of_int binary64 (pos n)) u) (a * n) 4
unfolding of_int
units_are a n u N h =
    let e : mul binary64 (round binary64 false n 1) u ≡ round binary64 false (a * n) 4 =
    mul_of binary64 (round binary64 false n 1) u n 1 a 4 (lit< tt) (lit< tt)
    (round_whole binary64 false n (wide n N)) h.value
    ∙ ap (λ (z : ℕ). round binary64 false z 4) (mul_comm n a) in
    record {
      is = e;
      value =
          subst (λ (r : Float). HasValue r false (a * n) 4) (sym e)
          (quarter (a * n) (lt_trans (below a n h.small N) (lit< tt)));
    }
  where
    wide : (n : ℕ) → n < 2 ^ 32 → n ≤ 2 ^ 53
    wide n h = omega arith

    below : (a n : ℕ) → a < 65536 → n < 2 ^ 32 → a * n < 2 ^ 48
    below a n A N = lt_of_le_of_lt (mul-le-mul_left a (le_of_lt N)) (mul-lt-mul_of_pos_right A (lit< tt))

-- ---- `==`

-- what equals a fraction above 0 is that fraction
pub eq_value : (x y : Float) (a c : ℕ) → 0 < a → 0 < c → HasValue x false a c → T (eq x y) → HasValue y false a c
unfolding eq
eq_value nan y a c A C h t = absurd h
eq_value (inf s) y a c A C h t = absurd h
eq_value (fin true m e) y a c A C h t = absurd (true≢false h.0)
eq_value (fin false m e) nan a c A C h t = absurd t
eq_value (fin false m e) (inf s) a c A C h t = absurd t
eq_value (fin false m e) (fin true n g) a c A C h t =
    let above : 0 < m * up e * c = subst (λ (z : ℕ). 0 < z) (sym h.1) (mul-pos A (down_pos e)) in
    let same = eqb (m * up e * down g) (n * up g * down e) in
    let none = eqb (m * up e * down g) 0 in
    absurd (apart (m * up e * down g) (mul-pos (first_pos (m * up e) c above) (down_pos g))
    (eqb→eq (m * up e * down g) 0 (and_r same none t)))
eq_value (fin false m e) (fin false n g) a c A C h t =
    let same = and_l (eqb (m * up e * down g) (n * up g * down e)) true t in (
      refl,
      eq_of_mul-eq-mul_right (down e) (down_pos e) (n * up g * c) (a * down g)
          (cross (m * up e) (down e) (n * up g) (down g) a c h.1
          (eqb→eq (m * up e * down g) (n * up g * down e) same)),
    )
  where
    cross : (x e y g a c : ℕ) → x * c ≡ a * e → x * g ≡ y * e → y * c * e ≡ a * g * e
    cross x e y g a c p q =
        let l : x * c * g ≡ a * e * g = ap (λ (z : ℕ). z * g) p in
        let r : x * g * c ≡ y * e * c = ap (λ (z : ℕ). z * c) q in
        omega arith

-- and two values of one fraction are equal
pub eq_same : (x y : Float) (a c : ℕ) → 0 < c → HasValue x false a c → HasValue y false a c → eq x y ≡ true
unfolding eq
eq_same nan y a c C h k = absurd h
eq_same (inf s) y a c C h k = absurd h
eq_same (fin true m e) y a c C h k = absurd (true≢false h.0)
eq_same (fin false m e) nan a c C h k = absurd k
eq_same (fin false m e) (inf s) a c C h k = absurd k
eq_same (fin false m e) (fin true n g) a c C h k = absurd (true≢false k.0)
eq_same (fin false m e) (fin false n g) a c C h k =
    let l = m * up e * down g in
    let r = n * up g * down e in
    let same : l ≡ r =
    eq_of_mul-eq-mul_right c C l r (cross (m * up e) (down e) (n * up g) (down g) a c h.1 k.1) in
    is_true (eqb l r && true) (and_i (eqb l r) true (subst (λ (z : ℕ). T (eqb l z)) same (eqb_refl l)) tt)
  where
    cross : (x e y g a c : ℕ) → x * c ≡ a * e → y * c ≡ a * g → x * g * c ≡ y * e * c
    cross x e y g a c p q =
        let l : x * c * g ≡ a * e * g = ap (λ (z : ℕ). z * g) p in
        let r : y * c * e ≡ a * g * e = ap (λ (z : ℕ). z * e) q in
        omega arith
