-- Paper 02, 7/14: a character and what is read of it as a digit, its value and its case, are one to one. `read_digit`
-- promises `OneToOne`.
use Rattle.std.specs.Prelude.{ℕ, zero, suc, ◌+◌, Bool, true, false, cond, ◌&&◌, ◌||◌, List, [], ◌∷◌, ◌++◌, ◌≡◌, ltb, leb, eqb, Option, Some, None}
use Rattle.digits.specs.declared.Digit.{Digit}
use Rattle.digits.specs.declared.Digit.TheVariants.{Capital, Small}
use Rattle.digits.specs.Digits.{digit_of, capital_of}

-- ---- The characters that are digits

-- So many characters, one after the other.
abbrev pub up_from : ℕ → ℕ → List ℕ
up_from c zero = []
up_from c (suc n) = c ∷ up_from (suc c) n

-- The 22: 0-9, A-F and a-f.
abbrev pub digit_characters : List ℕ
digit_characters = up_from 48 10 ++ (up_from 65 6 ++ up_from 97 6)

-- Whether c is one of them.
abbrev pub is_one : ℕ → List ℕ → Bool
is_one c [] = false
is_one c (x ∷ xs) = eqb c x || is_one c xs

-- Whether a digit was read.
abbrev pub is_digit : Option Digit → Bool
is_digit None = false
is_digit (Some (Capital v)) = true
is_digit (Some (Small v)) = true

-- ---- A value and a case

-- Their character, if they have one. 0 to 9 have no case: they are told as capitals, and no small letter has their
-- values.
abbrev pub spelt : Option Digit → List ℕ
spelt None = []
spelt (Some (Capital v)) = cond (ltb v 16) (capital_of v ∷ []) []
spelt (Some (Small v)) = cond (leb 10 v && ltb v 16) ((87 + v) ∷ []) []

pub record OneToOne : Type 0 where
  -- the 22 characters are digits, and no other is
  pub digits : (c : ℕ) → is_digit (digit_of c) ≡ is_one c digit_characters
  -- what is read of one stands for that very character
  pub own : (c : ℕ) → is_digit (digit_of c) ≡ true → spelt (digit_of c) ≡ c ∷ []
  -- a value and a case that stand for a character are what is read of it, and so no others stand for it
  pub one : (d : Option Digit) (c : ℕ) → spelt d ≡ c ∷ [] → digit_of c ≡ d
  -- two characters that are read alike are the same: those that differ in case alone are two
  pub apart : (c e : ℕ) → is_digit (digit_of c) ≡ true → digit_of c ≡ digit_of e → c ≡ e
