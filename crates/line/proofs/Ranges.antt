-- What a command in range has: the facts that `fits` tells, case by case. Assumes nothing.
use Prim.Native.Nat.{ℕ, ◌/◌, ◌%◌, ◌≤◌, ◌<◌}
use native.Mathlib.Omega.{arith}
use mathlib.Core.Bool.{Bool, true, false, false≢true}
use mathlib.Core.Path.{◌≡◌}
use lib.Dec.{ltb, leb, eqb}
use borrow.Author.Tests.{ltb-true, leb-true, le-leb, eqb-true, ne_eqb}
use Rattle.digits.specs.Digits.{six_digits, top_bit}
use Rattle.laws.proofs.Pick.{by_eq}
use Rattle.laws.proofs.Tests.{both}
use Rattle.line.specs.declared.command.Command.TheVariants as C
use Rattle.line.specs.Ranges.{is_within, is_axis, top_speed, top_slope, input_bits, fits}

-- ---- tests taken apart

pub within : (n low high : ℕ) → is_within n low high ≡ true → (low ≤ n) × (n ≤ high)
within n low high e =
    let t = both (leb low n) (leb n high) e in
    (leb-true low n t.0, leb-true n high t.1)

pub is_within_lem : (n low high : ℕ) → low ≤ n → n ≤ high → is_within n low high ≡ true
is_within_lem n low high h k = rw (le-leb low n h, le-leb n high k)

-- An input setting has 14 bits.
pub bits_low : (v : ℕ) → input_bits v ≡ true → v < 16384
bits_low v e = omega (arith, eqb-true (v / 16384) 0 (both (eqb (v / 16384) 0) (eqb (v / 1024 % 4) 0) e).0)

-- ---- commands

-- The axis of a distance, a start or a reading.
pub axis : (k : ℕ) → is_axis k ≡ true → k < 5
axis k e = ltb-true k 5 e

pub distance : (k : ℕ) (minus : Bool) (d : ℕ) → fits (C.Distance k minus d) ≡ true → (k < 5) × (d < top_bit)
distance k minus d e =
    let t = both (is_axis k) (ltb d top_bit) e in
    (axis k t.0, ltb-true d top_bit t.1)

pub outputs : (v : ℕ) → fits (C.Outputs v) ≡ true → v < six_digits
outputs v e = ltb-true v six_digits e

-- What holds or not of a number that is n, or is another.
cases : {P : Type 0} (k n : ℕ) → (k ≡ n → P) → ((k ≡ n → ⊥) → P) → P
cases {P} k n p q = by_eq (λ (_ : Bool). P) k n true false p q

-- A fact about any number, by whether it is the code of an order that names nothing else.
pub by_code : (P : ℕ → Type 0) → P 9 → P 10 → P 11 → P 12
    → ((k : ℕ) → eqb k 9 ≡ false → eqb k 10 ≡ false → eqb k 11 ≡ false → eqb k 12 ≡ false → P k) → (k : ℕ) → P k
by_code P p9 p10 p11 p12 p k =
    cases k 9 (λ q. rw q p9)
    λ a. cases k 10 (λ q. rw q p10)
    λ b. cases k 11 (λ q. rw q p11)
    λ c. cases k 12 (λ q. rw q p12)
    λ d. p k (ne_eqb k 9 a) (ne_eqb k 10 b) (ne_eqb k 11 c) (ne_eqb k 12 d)

-- A fact about an order that names nothing else, by its code.
pub by_order : (P : ℕ → Type 0) → P 9 → P 10 → P 11 → P 12 → (k : ℕ) → fits (C.Order k) ≡ true → P k
by_order P p9 p10 p11 p12 k e =
    let t = within k 9 12 e in
    cases k 9 (λ q. rw q p9)
    λ n. cases k 10 (λ q. rw q p10)
    λ m. cases k 11 (λ q. rw q p11)
    λ l. let q : k ≡ 12 = omega (arith, t.0, t.1, n, m, l) in rw q p12

-- A fact about a setting in range, by its code.
pub by_setting : (P : ℕ → ℕ → Type 0) (code v : ℕ)
    → (1 ≤ v → v ≤ top_speed → P 8 v)
    → (1 ≤ v → v ≤ top_slope → P 9 v)
    → (v ≤ 16383 → P 10 v)
    → (v ≤ 3 → P 11 v)
    → (v ≤ 4095 → P 12 v)
    → (input_bits v ≡ true → P 13 v)
    → (input_bits v ≡ true → P 14 v)
    → fits (C.Set code v) ≡ true → P code v
by_setting P code v p8 p9 p10 p11 p12 p13 p14 =
    by_eq If code 8 _ _ (λ q e. let t = within v 1 top_speed e in rw q (p8 t.0 t.1))
    λ _. by_eq If code 9 _ _ (λ q e. let t = within v 1 top_slope e in rw q (p9 t.0 t.1))
    λ _. by_eq If code 10 _ _ (λ q e. rw q (p10 (leb-true v 16383 e)))
    λ _. by_eq If code 11 _ _ (λ q e. rw q (p11 (leb-true v 3 e)))
    λ _. by_eq If code 12 _ _ (λ q e. rw q (p12 (leb-true v 4095 e)))
    λ _. by_eq If code 13 _ _ (λ q e. rw q (p13 e))
    λ _. by_eq If code 14 _ _ (λ q e. rw q (p14 e))
    λ _ e. absurd (false≢true e)
  where
    If : Bool → Type 0
    If t = t ≡ true → P code v
