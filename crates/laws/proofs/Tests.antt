-- Tests of two operands taken apart, and a test that would be both true and false. Assumes nothing.
use mathlib.Core.Bool.{Bool, true, false, ◌&&◌, ◌||◌, false≢true}
use mathlib.Core.Path.{◌≡◌, refl, sym}

pub true_false : {A : Type 0} (b : Bool) → b ≡ true → b ≡ false → A
true_false true p q = absurd (false≢true (sym q))
true_false false p q = absurd (false≢true p)

pub both : (a b : Bool) → a && b ≡ true → (a ≡ true) × (b ≡ true)
both true b e = (refl, e)
both false b e = absurd (false≢true e)

pub neither : (a b : Bool) → a || b ≡ false → (a ≡ false) × (b ≡ false)
neither true b e = absurd (false≢true (sym e))
neither false b e = (refl, e)

pub either : {A : Type 0} (a b : Bool) → a || b ≡ true → (a ≡ true → A) → (a ≡ false → b ≡ true → A) → A
either true b e f g = f refl
either false b e f g = g refl e

pub and_true : (b : Bool) → b && true ≡ false → b ≡ false
and_true true e = e
and_true false e = e

-- The second operand, where the first is false.
pub second : (a b : Bool) → a || b ≡ true → a ≡ false → b ≡ true
second a b e n = either a b e (λ p. true_false a p n) (λ _ q. q)
