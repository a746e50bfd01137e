-- Two f64 values that are the same fraction above 0, with the same sign, are the same value. Assumes nothing.
use Rattle.std.proofs.Common.{◌≡◌, ℕ, zero, suc, ◌+◌, ◌*◌, ◌%◌, ◌^◌, ◌<◌, Bool, ◌&&◌, T, eqb, ltb, leb, ℤ, pos, negsuc, sym, refl, ap, ◌∙◌, subst, lt_irrefl, zero-lt-suc, mul_assoc, mul-pos, pow-suc, zero-mul, mul-one, mul_left_comm, arith, eqb→eq, pow-add}
use native.Mathlib.Nat.{eq_of_mul-eq-mul_right, pow-succ'}
use lib.Ieee.{Float, nan, inf, fin, Format, prec, low, emax, up, down, fits}
use lib.Ieee.Fits.{down_pos, and_l}
use lib.Ieee.Exact.{HasValue}

-- ---- an odd number times a power of two is so in one way

odd_even : (m n b : ℕ) → m % 2 ≡ 1 → m * 1 ≡ n * 2 ^ suc b → ⊥
odd_even m n b o h =
    no m (n * 2 ^ b) o
    (sym (mul-one m) ∙ h ∙ ap (λ (x : ℕ). n * x) (pow-succ' 2 b) ∙ mul_left_comm n 2 (2 ^ b))
  where
    no : (m t : ℕ) → m % 2 ≡ 1 → m ≡ 2 * t → ⊥
    no m t o h = omega arith

odd_pow : (m n a b : ℕ) → m % 2 ≡ 1 → n % 2 ≡ 1 → m * 2 ^ a ≡ n * 2 ^ b → (m ≡ n) × (a ≡ b)
odd_pow m n zero zero o p h = (sym (mul-one m) ∙ h ∙ mul-one n, refl)
odd_pow m n zero (suc b) o p h = absurd (odd_even m n b o h)
odd_pow m n (suc a) zero o p h = absurd (odd_even n m a p (sym h))
odd_pow m n (suc a) (suc b) o p h =
    let halved : m * 2 ^ a ≡ n * 2 ^ b =
    eq_of_mul-eq-mul_right 2 (zero-lt-suc 1) (m * 2 ^ a) (n * 2 ^ b)
    (mul_assoc m (2 ^ a) 2 ∙ ap (λ (x : ℕ). m * x) (sym (pow-suc 2 a)) ∙ h
    ∙ ap (λ (x : ℕ). n * x) (pow-suc 2 b) ∙ sym (mul_assoc n (2 ^ b) 2)) in
    let r = odd_pow m n a b o p halved in
    (r.0, ap suc r.1)

mixed : (m n a b : ℕ) → m % 2 ≡ 1 → n % 2 ≡ 1 → m * 2 ^ a * 2 ^ suc b ≡ n * 1 → ⊥
mixed m n a b o p h =
    no a b
    (odd_pow m n (a + suc b) 0 o p
    (ap (λ (z : ℕ). m * z) (pow-add 2 a (suc b)) ∙ sym (mul_assoc m (2 ^ a) (2 ^ suc b)) ∙ h)).1
  where
    no : (a b : ℕ) → a + suc b ≡ 0 → ⊥
    no a b h = omega arith

-- m * 2 ^ e and n * 2 ^ d, both odd, cross-multiplied
same_odd : (m n : ℕ) (e d : ℤ) → m % 2 ≡ 1 → n % 2 ≡ 1 → m * up e * down d ≡ n * up d * down e → (m ≡ n) × (e ≡ d)
same_odd m n (pos a) (pos b) o p h =
    let r = odd_pow m n a b o p (sym (mul-one (m * 2 ^ a)) ∙ h ∙ mul-one (n * 2 ^ b)) in
    (r.0, ap pos r.1)
same_odd m n (negsuc a) (negsuc b) o p h =
    let r = odd_pow m n (suc b) (suc a) o p
    (ap (λ (z : ℕ). z * 2 ^ suc b) (sym (mul-one m)) ∙ h ∙ ap (λ (z : ℕ). z * 2 ^ suc a) (mul-one n)) in
    (r.0, ap negsuc (pred_eq (sym r.1)))
  where
    pred_eq : {i j : ℕ} → suc i ≡ suc j → i ≡ j
    pred_eq h = omega arith
same_odd m n (pos a) (negsuc b) o p h = absurd (mixed m n a b o p (h ∙ mul-one (n * 1)))
same_odd m n (negsuc a) (pos b) o p h = absurd (mixed n m b a p o (sym h ∙ mul-one (m * 1)))

-- ---- a float that is not 0 has an odd m

is_odd : (f : Format) (s : Bool) (m : ℕ) (e : ℤ) → T (fits f (fin s (suc m) e)) → suc m % 2 ≡ 1
unfolding fits
is_odd f s m e t =
    let odd = eqb (suc m % 2) 1 in
    let short = ltb (suc m) (2 ^ prec f) in
    let fine = leb (down e) (2 ^ low f) in
    let near = ltb (suc m * up e) (2 ^ suc (emax f) * down e) in
    eqb→eq (suc m % 2) 1 (and_l odd short (and_l (odd && short) fine (and_l (odd && short && fine) near t)))

cross : (x e y g a c : ℕ) → 0 < c → x * c ≡ a * e → y * c ≡ a * g → x * g ≡ y * e
cross x e y g a c C p q =
    eq_of_mul-eq-mul_right c C (x * g) (y * e)
    (let l : x * c * g ≡ a * e * g = ap (λ (z : ℕ). z * g) p in
    let r : y * c * e ≡ a * g * e = ap (λ (z : ℕ). z * e) q in
    omega arith)

no_zero : (e : ℤ) (a c : ℕ) → 0 < a → 0 * up e * c ≡ a * down e → ⊥
no_zero e a c A h =
    lt_irrefl 0
    (subst (λ (k : ℕ). 0 < k) (sym h ∙ ap (λ (k : ℕ). k * c) (zero-mul (up e)) ∙ zero-mul c) (mul-pos A (down_pos e)))

pub value_unique : (f : Format) (x y : Float) (s : Bool) (a c : ℕ) → 0 < a → 0 < c → T (fits f x) → T (fits f y)
    → HasValue x s a c → HasValue y s a c → x ≡ y
value_unique f nan y s a c A C p q v w = absurd v
value_unique f (inf t) y s a c A C p q v w = absurd v
value_unique f (fin t zero e) y s a c A C p q v w = absurd (no_zero e a c A v.1)
value_unique f (fin t (suc m) e) nan s a c A C p q v w = absurd w
value_unique f (fin t (suc m) e) (inf u) s a c A C p q v w = absurd w
value_unique f (fin t (suc m) e) (fin u zero g) s a c A C p q v w = absurd (no_zero g a c A w.1)
value_unique f (fin t (suc m) e) (fin u (suc n) g) s a c A C p q v w =
    let r = same_odd (suc m) (suc n) e g (is_odd f t m e p) (is_odd f u n g q)
    (cross (suc m * up e) (down e) (suc n * up g) (down g) a c C v.1 w.1) in
    λ i. fin ((v.0 ∙ sym w.0) i) (r.0 i) (r.1 i)
