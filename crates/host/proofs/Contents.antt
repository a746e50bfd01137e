-- Laws of what a command's line holds: six digits taken apart, and their bounds. Assumes nothing.
use Prim.Native.Nat.{ℕ, ◌+◌, ◌%◌, ◌≤◌, ◌<◌}
use native.Mathlib.Omega.{arith}
use mathlib.Core.Bool.{Bool, true, false}
use mathlib.Core.Path.{◌≡◌}
use borrow.Author.Tests.{le-leb, lt-leb}
use lib.Dec.{leb}
use Rattle.laws.specs.Bits.{weight}
use Rattle.digits.specs.Digits.{five_digits, top_bit}
use Rattle.line.specs.declared.command.Command.TheVariants as C
use Rattle.line.specs.Codes.{code, five}
use Rattle.line.specs.Fits.{CommandFits}
use Rattle.line.proofs.Ranges.{bits_low, by_setting}
use Rattle.reply.specs.Reply.{coded}

-- A code and five digits, taken apart.
pub code_back : (k v : ℕ) → v < five_digits → code (coded k v) ≡ k
code_back k v h = omega arith

pub five_back : (k v : ℕ) → v < five_digits → five (coded k v) ≡ v
five_back k v h = omega arith

-- A distance's or a travel's five digits, of which the top bit is minus, taken apart.
pub minus_low : (minus : Bool) (d : ℕ) → d < top_bit → weight minus top_bit + d < five_digits
minus_low true d h = omega arith
minus_low false d h = omega arith

pub minus_back : (minus : Bool) (d : ℕ) → d < top_bit → leb top_bit (weight minus top_bit + d) ≡ minus
minus_back true d h = le-leb top_bit (top_bit + d) (omega arith)
minus_back false d h = lt-leb top_bit (0 + d) (omega arith)

pub length_back : (minus : Bool) (d : ℕ) → d < top_bit → (weight minus top_bit + d) % top_bit ≡ d
length_back true d h = omega arith
length_back false d h = omega arith

-- A setting has five digits at most, the watch one.
pub setting_low : (k v : ℕ) → CommandFits (C.Set k v) → v < five_digits
setting_low k v =
    by_setting (λ (_ w : ℕ). w < five_digits) k v (λ _ h. omega arith) (λ _ h. omega arith) (λ h. omega arith)
    (λ h. omega arith) (λ h. omega arith) (λ h. omega (arith, bits_low v h)) (λ h. omega (arith, bits_low v h))

pub watch_low : (k v : ℕ) → CommandFits (C.Set k v) → k ≡ 11 → v ≤ 3
watch_low k v =
    by_setting (λ (c w : ℕ). c ≡ 11 → w ≤ 3) k v (λ _ _ e. omega arith) (λ _ _ e. omega arith) (λ _ e. omega arith)
    (λ h e. h) (λ _ e. omega arith) (λ _ e. omega arith) (λ _ e. omega arith)
