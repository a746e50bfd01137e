-- The decimal digits of a number laid into a buffer at a place. Assumes nothing.
use Prim.Native.Nat.{ℕ, ◌+◌, ◌/◌, ◌%◌, ◌≤◌, ◌<◌}
use native.Mathlib.Omega.{arith}
use mathlib.Core.List.{List}
use mathlib.Core.Path.{◌≡◌, sym, ap, ◌∙◌}
use lib.ListN.{length, set}
use Rattle.block.specs.Block.{put}
use Rattle.block.proofs.Places.{put_one, put_snoc}
use Rattle.text.specs.Decimal.{decimal_of}
use Rattle.text.proofs.DecimalLaws.{decimal_one, decimal_more, more_length}

pub one_written : (at n : ℕ) (d : List ℕ) → n < 10 → at + length (decimal_of n) ≤ length d
    → (at + 1 ≡ at + length (decimal_of n)) × (set d at (48 + n) ≡ put at (decimal_of n) d)
one_written at n d h k =
    let e : length (decimal_of n) ≡ 1 = ap length (decimal_one n h) in
    (omega arith, put_one at d (48 + n) (omega arith) ∙ ap (λ (s : List ℕ). put at s d) (sym (decimal_one n h)))

pub more_written : (at n : ℕ) (d : List ℕ) (r : ℕ) (x : List ℕ) → 10 ≤ n → at + length (decimal_of n) ≤ length d
    → r ≡ at + length (decimal_of (n / 10)) → x ≡ put at (decimal_of (n / 10)) d
    → (r + 1 ≡ at + length (decimal_of n)) × (set x r (48 + n % 10) ≡ put at (decimal_of n) d)
more_written at n d r x h k p q = (
  omega (arith, more_length n h),
  (λ i. set (q i) (p i) (48 + n % 10))
      ∙ put_snoc at (decimal_of (n / 10)) d (48 + n % 10) (omega (arith, more_length n h))
      ∙ ap (λ (s : List ℕ). put at s d) (sym (decimal_more n h)),
)
