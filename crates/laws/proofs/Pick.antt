-- A definition picks by a test, `cond (ltb a b) x y`; the code took a branch and so knows the fact. These laws
-- join the two, and `search picks` closes what a branch returns. Assumes nothing.
use Prim.Native.Nat.{ℕ, ◌≤◌, ◌<◌}
use mathlib.Core.Bool.{Bool, true, false, cond}
use mathlib.Core.Path.{◌≡◌, refl, sym, ◌∙◌}
use lib.Dec.{ltb, leb, eqb}
use borrow.Author.Tests.{
  lt-ltb,
  le-ltb,
  le-leb,
  lt-leb,
  eq-eqb,
  ne_eqb,
  ltb-true,
  ltb-false,
  leb-true,
  leb-false,
  eqb-true,
  eqb-false,
}

pub on_true : {A : Type 0} (t : Bool) (r x y : A) → t ≡ true → r ≡ x → r ≡ cond t x y
on_true t r x y e p = rw e p

pub on_false : {A : Type 0} (t : Bool) (r x y : A) → t ≡ false → r ≡ y → r ≡ cond t x y
on_false t r x y e p = rw e p

pub on_le : {A : Type 0} (a b : ℕ) (r x y : A) → a ≤ b → r ≡ x → r ≡ cond (leb a b) x y
on_le a b r x y h p = on_true (leb a b) r x y (le-leb a b h) p

pub on_gt : {A : Type 0} (a b : ℕ) (r x y : A) → b < a → r ≡ y → r ≡ cond (leb a b) x y
on_gt a b r x y h p = on_false (leb a b) r x y (lt-leb a b h) p

pub on_lt : {A : Type 0} (a b : ℕ) (r x y : A) → a < b → r ≡ x → r ≡ cond (ltb a b) x y
on_lt a b r x y h p = on_true (ltb a b) r x y (lt-ltb a b h) p

pub on_ge : {A : Type 0} (a b : ℕ) (r x y : A) → b ≤ a → r ≡ y → r ≡ cond (ltb a b) x y
on_ge a b r x y h p = on_false (ltb a b) r x y (le-ltb a b h) p

pub on_eq : {A : Type 0} (a b : ℕ) (r x y : A) → a ≡ b → r ≡ x → r ≡ cond (eqb a b) x y
on_eq a b r x y h p = on_true (eqb a b) r x y (eq-eqb a b h) p

pub on_ne : {A : Type 0} (a b : ℕ) (r x y : A) → (a ≡ b → ⊥) → r ≡ y → r ≡ cond (eqb a b) x y
on_ne a b r x y h p = on_false (eqb a b) r x y (ne_eqb a b h) p

-- A test that a callee answered: b is its answer, t the test that the answer is said to be.
pub told_true : {A : Type 0} (b t : Bool) (r x y : A) → b ≡ t → b ≡ true → r ≡ x → r ≡ cond t x y
told_true b t r x y e h p = on_true t r x y (sym e ∙ h) p

pub told_false : {A : Type 0} (b t : Bool) (r x y : A) → b ≡ t → b ≡ false → r ≡ y → r ≡ cond t x y
told_false b t r x y e h p = on_false t r x y (sym e ∙ h) p

pub ruleset picks = (on_le, on_gt, on_lt, on_ge, on_eq, on_ne, on_true, on_false)

pub ruleset tolds = (told_true, told_false)

-- A fact about a choice, by the two cases of its test.
pub by_bool : {A : Type 0} (P : A → Type 0) (t : Bool) (x y : A)
    → (t ≡ true → P x) → (t ≡ false → P y) → P (cond t x y)
by_bool P true x y p q = p refl
by_bool P false x y p q = q refl

pub by_lt : {A : Type 0} (P : A → Type 0) (a b : ℕ) (x y : A)
    → (a < b → P x) → (b ≤ a → P y) → P (cond (ltb a b) x y)
by_lt P a b x y p q = by_bool P (ltb a b) x y (λ e. p (ltb-true a b e)) (λ e. q (ltb-false a b e))

pub by_le : {A : Type 0} (P : A → Type 0) (a b : ℕ) (x y : A)
    → (a ≤ b → P x) → (b < a → P y) → P (cond (leb a b) x y)
by_le P a b x y p q = by_bool P (leb a b) x y (λ e. p (leb-true a b e)) (λ e. q (leb-false a b e))

pub by_eq : {A : Type 0} (P : A → Type 0) (a b : ℕ) (x y : A)
    → (a ≡ b → P x) → ((a ≡ b → ⊥) → P y) → P (cond (eqb a b) x y)
by_eq P a b x y p q = by_bool P (eqb a b) x y (λ e. p (eqb-true a b e)) (λ e. q (eqb-false a b e))
