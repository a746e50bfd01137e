-- A text of LNI is made of its parts: what stands before the comma, a space behind it or none, and the rest. Assumes
-- nothing.
use Prim.Native.Nat.{ℕ}
use mathlib.Core.Bool.{Bool, true, false, cond}
use mathlib.Core.List.{List, [], ◌∷◌, ◌++◌, append_assoc}
use mathlib.Core.Path.{◌≡◌, refl, sym, ap, ◌∙◌}
use borrow.Author.Tests.{eqb-true}
use lib.Dec.{eqb}
use lib.ListN.{get_or, drop}
use Rattle.text.specs.Parts.{behind, part, parts, same}
use Rattle.machine.specs.Calls.{chars}
use Rattle.station.specs.Forms.{words, word, front, back}
use Rattle.station.specs.Spelled.{gap}
use Rattle.station.proofs.MarkLaws.{same_equal, before_joined, before_none, of_two, of_three}

-- What stands behind the comma: a space or none, and the rest.
unspaced : (b : List ℕ) → b ≡ gap (eqb (get_or b 0 0) 32) ++ cond (eqb (get_or b 0 0) 32) (drop 1 b) b
unspaced [] = refl
unspaced (c ∷ cs) = when (eqb c 32) (eqb-true c 32)
  where
    when : (t : Bool) → (t ≡ true → c ≡ 32) → c ∷ cs ≡ gap t ++ cond t cs (c ∷ cs)
    when true f = ap (λ (x : ℕ). x ∷ cs) (f refl)
    when false f = refl

module _ (t : List ℕ) where
  abbrev rest : List ℕ
  rest = part 44 1 t

  abbrev pub is_spaced : Bool
  is_spaced = eqb (get_or rest 0 0) 32

  -- The two distances.
  abbrev v : List ℕ
  v = word 2 (front t)

  abbrev w : List ℕ
  w = word 1 (back t)

  module _ (n : word 0 t ≡ chars "LNI") (c : parts 44 t ≡ 2) (d : words (front t) ≡ 3) where
    -- The name stands before the comma.
    name_front : word 0 (front t) ≡ chars "LNI"
    unfolding behind
    name_front =
        sym (ap (word 0) (of_two 44 t c
        ∙ ap (λ (x : List ℕ). x ++ (44 ∷ rest)) (of_three 32 (front t) d)
        ∙ append_assoc (word 0 (front t)) (32 ∷ (word 1 (front t) ++ (32 ∷ v))) (44 ∷ rest))
        ∙ before_joined 32 ((word 1 (front t) ++ (32 ∷ v)) ++ (44 ∷ rest)) (word 0 (front t))
        (before_none 32 (front t))) ∙ n

    pub of_pair : same (word 1 (front t)) (chars "X") ≡ true → words (back t) ≡ 2
        → same (word 0 (back t)) (chars "Y") ≡ true
        → t ≡ chars "LNI X " ++ (v ++ (chars "," ++ (gap is_spaced ++ (chars "Y " ++ w))))
    of_pair x b y =
        of_two 44 t c
        ∙ ap (λ (z : List ℕ). z ++ (44 ∷ rest)) (of_three 32 (front t) d
        ∙ (λ i. name_front i ++ (32 ∷ (same_equal (word 1 (front t)) (chars "X") x i ++ (32 ∷ v)))))
        ∙ ap (λ (z : List ℕ). chars "LNI X " ++ (v ++ (44 ∷ z)))
        (unspaced rest ∙ ap (λ (z : List ℕ). gap is_spaced ++ z)
        (of_two 32 (back t) b ∙ ap (λ (z : List ℕ). z ++ (32 ∷ w)) (same_equal (word 0 (back t)) (chars "Y") y)))
