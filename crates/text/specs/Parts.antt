-- Rows of bytes taken apart at a mark, as a line of words at its spaces, and compared.
use Rattle.std.specs.Prelude.{ℕ, zero, suc, ◌+◌, Bool, true, false, cond, List, [], ◌∷◌, ltb, eqb}
use Rattle.receiver.specs.Receiver.{before}

-- The bytes behind the k-th mark; none where there are fewer marks.
unfoldable pub behind : ℕ → ℕ → List ℕ → List ℕ
behind mark zero l = l
behind mark (suc k) [] = []
behind mark (suc k) (c ∷ cs) = cond (eqb c mark) (behind mark k cs) (behind mark (suc k) cs)

-- The part at place k, from 0 on: what stands between two marks, before the first or behind the last.
abbrev pub part : ℕ → ℕ → List ℕ → List ℕ
part mark k l = before (λ c. eqb c mark) (behind mark k l)

-- How many marks there are, and so how many parts.
unfoldable pub marks : ℕ → List ℕ → ℕ
marks mark [] = 0
marks mark (c ∷ cs) = cond (eqb c mark) 1 0 + marks mark cs

abbrev pub parts : ℕ → List ℕ → ℕ
parts mark l = marks mark l + 1

-- Whether two rows of bytes are the same.
unfoldable pub same : List ℕ → List ℕ → Bool
same [] [] = true
same [] (y ∷ ys) = false
same (x ∷ xs) [] = false
same (x ∷ xs) (y ∷ ys) = cond (eqb x y) (same xs ys) false

-- The small letter of a capital (65 to 90); any other byte is as it is.
abbrev pub small : ℕ → ℕ
small c =
    cond (ltb c 65) c
    (cond (ltb 90 c) c
    (c + 32))

-- How many first letters two rows have in common, capitals and small letters alike.
unfoldable pub common : List ℕ → List ℕ → ℕ
common [] ys = 0
common (x ∷ xs) [] = 0
common (x ∷ xs) (y ∷ ys) = cond (eqb (small x) (small y)) (suc (common xs ys)) 0
