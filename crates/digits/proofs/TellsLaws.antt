-- What is read of a character tells what it is: its value is below 16, and the character is that value's in its case.
-- A file of its own, so that an edit of the reading is refused by this fact alone. Assumes nothing.
use Rattle.std.proofs.Common.{Option, Some, None}
use Prim.Native.Nat.{ℕ, ◌+◌, ◌-◌, ◌%◌, ◌<◌, ◌≤◌}
use mathlib.Core.Path.{◌≡◌}
use native.Mathlib.Omega.{arith}
use borrow.Author.Tests.{lt-ltb, le-ltb}
use Rattle.laws.proofs.Pick.{by_lt}
use Rattle.digits.specs.declared.Digit.{Digit}
use Rattle.digits.specs.declared.Digit.TheVariants.{Capital, Small}
use Rattle.digits.specs.Digits.{digit_of, capital_of}

-- What a digit tells of its character: a value below 16, from 10 on for a small letter, and that the character is that
-- value's in its case.
abbrev pub Tells : ℕ → Option Digit → Type 0
Tells c None = 0 < 1
Tells c (Some (Capital v)) = (v < 16) × (capital_of v ≡ c)
Tells c (Some (Small v)) = (v < 16) × ((10 ≤ v) × (87 + v ≡ c))

pub digit_tells : (c : ℕ) → Tells c (digit_of c)
digit_tells c =
    by_lt (Tells c) c 48 _ _ (λ h. omega arith)
    λ h1. by_lt (Tells c) c 58 _ _ (λ h. (omega arith, number h1 h))
    λ h2. by_lt (Tells c) c 65 _ _ (λ h. omega arith)
    λ h3. by_lt (Tells c) c 71 _ _ (λ h. (omega arith, letter h3 h))
    λ h4. by_lt (Tells c) c 97 _ _ (λ h. omega arith)
    λ h5. by_lt (Tells c) c 103 _ _ (λ h. (omega arith, (omega arith, omega arith)))
    λ h6. omega arith
  where
    number : 48 ≤ c → c < 58 → capital_of (c - 48) ≡ c
    number h k =
        let e : (c - 48) % 16 < 10 = omega arith in
        rw (lt-ltb _ _ e) (omega arith)

    letter : 65 ≤ c → c < 71 → capital_of (c - 55) ≡ c
    letter h k =
        let e : 10 ≤ (c - 55) % 16 = omega arith in
        rw (le-ltb _ _ e) (omega arith)
