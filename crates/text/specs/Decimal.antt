-- Numbers in decimal, as programs print them.
use Rattle.std.specs.Prelude.{ℕ, zero, suc, ◌+◌, ◌/◌, ◌%◌, Bool, cond, List, [], ◌∷◌, ◌++◌, ltb}

-- The decimal digits of n, the highest first, up to so many of them.
unfoldable pub spell : ℕ → ℕ → List ℕ
spell zero n = []
spell (suc most) n = cond (ltb n 10) ((48 + n) ∷ []) (spell most (n / 10) ++ ((48 + n % 10) ∷ []))

-- All of them: n has no more than n + 1.
unfoldable pub decimal_of : ℕ → List ℕ
decimal_of n = spell (n + 1) n

-- A minus sign (45) stands before the digits of a number below 0.
abbrev pub sign_text : Bool → ℕ → List ℕ
sign_text minus n = cond minus (45 ∷ decimal_of n) (decimal_of n)
