-- Positions in range, held with 524,288 added: what steps in a direction do to them. Assumes nothing.
use Prim.Native.Nat.{ℕ, zero, suc, ◌+◌, ◌-◌, ◌≤◌, ◌<◌}
use mathlib.Core.Bool.{Bool, true, false, cond}
use mathlib.Core.Path.{◌≡◌, refl, sym, ap, subst, ◌∙◌}
use native.Mathlib.Omega.{arith}
use borrow.Author.Tests.{lt-ltb, le-ltb, ltb-true, ltb-false}
use lib.Dec.{ltb}
use lib.IntN.{ℤ, pos, negsuc, neg_ℤ, ◌+ℤ◌, +ℤ_idr}
use Rattle.laws.specs.Axes.{directed}
use Rattle.laws.proofs.Pick.{by_lt}
use Rattle.reply.specs.Reply.{bias}
use Rattle.machine.specs.Starts.{outside}

-- In range, and held as b.
pub record Lies (z : ℤ) (b : ℕ) : Type 0 where
  pub inside : outside z ≡ false
  pub held : bias z ≡ b

pub bias_small : (z : ℤ) → outside z ≡ false → bias z ≤ 1048575
bias_small (pos n) h = let k = ltb-false 524287 n h in omega (arith, k)
bias_small (negsuc n) h = omega arith

up : (z : ℤ) (d : ℕ) → outside z ≡ false → bias z + d ≤ 1048575 → Lies (z +ℤ pos d) (bias z + d)
up (pos n) d h k = record { inside = le-ltb 524287 (n + d) (omega arith); held = omega arith }
up (negsuc n) d h k =
    let q = ltb-false 524287 n h in
    by_lt (λ (x : ℤ). Lies x (524287 - n + d)) d (suc n) _ _
    (λ l. record { inside = le-ltb 524287 (suc n - suc d) (omega (arith, q)); held = omega (arith, q) })
    (λ l. record { inside = le-ltb 524287 (d - suc n) (omega (arith, q)); held = omega (arith, q) })

down : (z : ℤ) (d : ℕ) → outside z ≡ false → d ≤ bias z → Lies (z +ℤ neg_ℤ (pos d)) (bias z - d)
down (pos n) zero h k = record
    { inside = le-ltb 524287 (n + 0) (let q = ltb-false 524287 n h in omega (arith, q)); held = omega arith }
down (pos n) (suc d) h k =
    let q = ltb-false 524287 n h in
    by_lt (λ (x : ℤ). Lies x (n + 524288 - suc d)) n (suc d) _ _
    (λ l. record { inside = le-ltb 524287 (suc d - suc n) (omega (arith, q)); held = omega (arith, q) })
    (λ l. record { inside = le-ltb 524287 (n - suc d) (omega (arith, q)); held = omega (arith, q) })
down (negsuc n) zero h k =
    let q = ltb-false 524287 n h in
    by_lt (λ (x : ℤ). Lies x (524287 - n - 0)) 0 (suc n) _ _
    (λ l. record { inside = le-ltb 524287 (suc n - 1) (omega (arith, q)); held = omega (arith, q) })
    (λ l. absurd (omega arith))
down (negsuc n) (suc d) h k =
    let q = ltb-false 524287 n h in
    record { inside = le-ltb 524287 (suc (n + d)) (omega (arith, q)); held = omega (arith, q) }

up_out : (z : ℤ) (d : ℕ) → outside z ≡ false → 1048575 < bias z + d → outside (z +ℤ pos d) ≡ true
up_out (pos n) d h k = lt-ltb 524287 (n + d) (omega arith)
up_out (negsuc n) d h k =
    let q = ltb-false 524287 n h in
    by_lt (λ (x : ℤ). outside x ≡ true) d (suc n) _ _
    (λ l. absurd (omega (arith, q))) (λ l. lt-ltb 524287 (d - suc n) (omega (arith, q)))

down_out : (z : ℤ) (d : ℕ) → outside z ≡ false → bias z < d → outside (z +ℤ neg_ℤ (pos d)) ≡ true
down_out z zero h k = absurd (omega arith)
down_out (pos n) (suc d) h k =
    by_lt (λ (x : ℤ). outside x ≡ true) n (suc d) _ _
    (λ l. lt-ltb 524287 (suc d - suc n) (omega arith)) (λ l. absurd (omega arith))
down_out (negsuc n) (suc d) h k =
    let q = ltb-false 524287 n h in lt-ltb 524287 (suc (n + d)) (omega (arith, q))

-- ---- In either direction

-- Room for so many steps in a direction, of a position held as b.
abbrev pub Room : Bool → ℕ → ℕ → Type 0
Room true b d = d ≤ b
Room false b d = b + d ≤ 1048575

abbrev pub stepped : Bool → ℕ → ℕ → ℕ
stepped true b d = b - d
stepped false b d = b + d

pub lies : (s : Bool) (z : ℤ) (d : ℕ) → outside z ≡ false → Room s (bias z) d
    → Lies (z +ℤ directed s d) (stepped s (bias z) d)
lies true z d h k = down z d h k
lies false z d h k = up z d h k

-- Whether so many steps lead out of the range, on the held value.
abbrev pub leaves : Bool → ℕ → ℕ → Bool
leaves true b d = ltb b d
leaves false b d = ltb 1048575 (b + d)

pub leaves_is : (s : Bool) (z : ℤ) (d : ℕ) → outside z ≡ false → leaves s (bias z) d ≡ outside (z +ℤ directed s d)
leaves_is true z d h = when (ltb (bias z) d) refl
  where
    when : (t : Bool) → ltb (bias z) d ≡ t → t ≡ outside (z +ℤ neg_ℤ (pos d))
    when true e = sym (down_out z d h (ltb-true (bias z) d e))
    when false e = sym (down z d h (ltb-false (bias z) d e)).inside
leaves_is false z d h = when (ltb 1048575 (bias z + d)) refl
  where
    when : (t : Bool) → ltb 1048575 (bias z + d) ≡ t → t ≡ outside (z +ℤ pos d)
    when true e = sym (up_out z d h (ltb-true 1048575 (bias z + d) e))
    when false e = sym (up z d h (ltb-false 1048575 (bias z + d) e)).inside

pub room_of : (s : Bool) (b d : ℕ) → leaves s b d ≡ false → Room s b d
room_of true b d h = ltb-false b d h
room_of false b d h = ltb-false 1048575 (b + d) h

-- One axis at a master pulse: t its travel, n its share.
pub place_step : (s : Bool) (z : ℤ) (d t n : ℕ) → outside z ≡ false → Room s (bias z) (d - t) → t ≤ n → n ≤ t + 1
    → n ≤ d
    → (outside (z +ℤ cond (ltb t n) (directed s 1) (pos 0)) ≡ false)
    × Room s (bias (z +ℤ cond (ltb t n) (directed s 1) (pos 0))) (d - n)
place_step s z d t n h r l k b =
    by_lt (λ (y : ℤ). (outside (z +ℤ y) ≡ false) × Room s (bias (z +ℤ y)) (d - n)) t n _ _
    (λ q. let w = lies s z 1 h (one s r q) in
    (w.inside, subst (λ (x : ℕ). Room s x (d - n)) (sym w.held) (rest s r q)))
    (λ q. (
      ap outside (+ℤ_idr z) ∙ h,
      subst (λ (x : ℤ). Room s (bias x) (d - n)) (sym (+ℤ_idr z)) (same s r q),
    ))
  where
    one : (b : Bool) → Room b (bias z) (d - t) → t < n → Room b (bias z) 1
    one true r q = omega arith
    one false r q = omega arith

    rest : (b : Bool) → Room b (bias z) (d - t) → t < n → Room b (stepped b (bias z) 1) (d - n)
    rest true r q = omega arith
    rest false r q = omega arith

    same : (b : Bool) → Room b (bias z) (d - t) → n ≤ t → Room b (bias z) (d - n)
    same true r q = omega arith
    same false r q = omega arith
