-- The five axes looked at in their order: the first that has it decides, and where none has it, each has it not.
-- Assumes nothing.
use Prim.Native.Nat.{ℕ, ◌<◌}
use mathlib.Core.Bool.{Bool, true, false, ◌||◌}
use mathlib.Core.Path.{◌≡◌}
use native.Mathlib.Omega.{arith}
use Rattle.laws.specs.Axes.{some}
use Rattle.laws.proofs.Five.{five}
use Rattle.laws.proofs.Tests.{neither}

module _ (f : ℕ → Bool) where
  pub some_0 : f 0 ≡ true → true ≡ some f
  some_0 a = rw a

  pub some_1 : f 0 ≡ false → f 1 ≡ true → true ≡ some f
  some_1 a b = rw (a, b)

  pub some_2 : f 0 ≡ false → f 1 ≡ false → f 2 ≡ true → true ≡ some f
  some_2 a b c = rw (a, b, c)

  pub some_3 : f 0 ≡ false → f 1 ≡ false → f 2 ≡ false → f 3 ≡ true → true ≡ some f
  some_3 a b c d = rw (a, b, c, d)

  pub some_4 : {r : Bool} → f 0 ≡ false → f 1 ≡ false → f 2 ≡ false → f 3 ≡ false → r ≡ f 4 → r ≡ some f
  some_4 a b c d e = rw (a, b, c, d) e

  pub none_of : some f ≡ false → (k : ℕ) → k < 5 → f k ≡ false
  none_of e =
      let a = neither (f 0 || f 1 || f 2 || f 3) (f 4) e in
      let b = neither (f 0 || f 1 || f 2) (f 3) a.0 in
      let c = neither (f 0 || f 1) (f 2) b.0 in
      let d = neither (f 0) (f 1) c.0 in
      five (λ (k : ℕ). f k ≡ false) d.0 d.1 c.1 b.1 a.1

-- What holds of one of them, by what holds of each.
pub some_same : (f g : ℕ → Bool) → ((k : ℕ) → k < 5 → f k ≡ g k) → some f ≡ some g
some_same f g e i =
    e 0 (omega arith) i || e 1 (omega arith) i || e 2 (omega arith) i || e 3 (omega arith) i || e 4 (omega arith) i

pub some_none : (f : ℕ → Bool) → ((k : ℕ) → k < 5 → f k ≡ false) → some f ≡ false
some_none f e = some_same f (λ k. false) e
