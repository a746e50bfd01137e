-- Five sums as the bench program prints them: in decimal, a space between two of them, a line feed after the last.
use Rattle.std.specs.Prelude.{ℕ, zero, suc, Bool, cond, List, [], ◌∷◌, ◌++◌, eqb, ℤ, pos, nat_abs, get_or}
use Rattle.laws.specs.Axes.{is_minus}
use Rattle.text.specs.Decimal.{sign_text}

-- What stands after the sum of axis k.
abbrev pub mark_of : ℕ → ℕ
mark_of k = cond (eqb k 4) 10 32

-- A number with its sign and the mark of axis k.
abbrev pub item_text : Bool → ℕ → ℕ → List ℕ
item_text minus n k = sign_text minus n ++ (mark_of k ∷ [])

abbrev pub sum_item : List ℤ → ℕ → List ℕ
sum_item zs k = item_text (is_minus (get_or zs k (pos 0))) (nat_abs (get_or zs k (pos 0))) k

-- The sums of the axes below n.
unfoldable pub sums_text : ℕ → List ℤ → List ℕ
sums_text zero zs = []
sums_text (suc n) zs = sums_text n zs ++ sum_item zs n
