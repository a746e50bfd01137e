-- Parts, marks and rows compared, in the words of the library's lists: what `split`, `filter`, `==` and `zip` give.
-- Assumes nothing.
use Rattle.std.specs.Char.{to_ascii_lowercase, eq_ignore_ascii_case}
use Rattle.std.specs.Cmp.Lexicographic.{pointwise}
use Rattle.std.specs.List.{list_all, count_by, onto_first, prefix_len, slice_split, zip}
use Rattle.std.proofs.lemmas.Bool.Decides.{nat_tests}
use Rattle.std.proofs.lemmas.List.Recursion.{is_count_by}
use Prim.Native.Nat.{ℕ, zero, suc, ◌+◌, ◌<◌}
use native.Mathlib.Omega.{arith}
use mathlib.Core.Bool.{Bool, true, false, cond, ◌&&◌}
use mathlib.Core.List.{List, [], ◌∷◌}
use mathlib.Core.Path.{◌≡◌, refl, sym, ap, ◌∙◌}
use lib.Dec.{eqb, eqb-zero-suc, eqb-suc-zero, eqb-suc-suc}
use lib.ListN.{length, get_or}
use Rattle.receiver.specs.Receiver.{before}
use Rattle.text.specs.Parts.{behind, part, marks, same, small, common}

pub behind_here : (mark k : ℕ) (bs : List ℕ) → k ≡ 0 → behind mark k bs ≡ bs
unfolding behind
behind_here mark k bs e = rw e

-- ---- the parts between marks

onto_here : (c : ℕ) (ps : List (List ℕ)) → 0 < length ps → get_or (onto_first c ps) 0 [] ≡ c ∷ get_or ps 0 []
onto_here c [] h = absurd (omega arith)
onto_here c (p ∷ ps) h = refl

onto_later : (c k : ℕ) (ps : List (List ℕ)) → get_or (onto_first c ps) (suc k) [] ≡ get_or ps (suc k) []
onto_later c k [] = refl
onto_later c k (p ∷ ps) = refl

some_parts : (p : ℕ → Bool) (l : List ℕ) → 0 < length (slice_split p l)
some_parts p [] = omega arith
some_parts p (c ∷ cs) = when (p c) (slice_split p cs)
  where
    when : (t : Bool) (ps : List (List ℕ)) → 0 < length (cond t ([] ∷ ps) (onto_first c ps))
    when true ps = omega arith
    when false [] = omega arith
    when false (q ∷ qs) = omega arith

-- The part at a place is what `split` gives there.
pub split_part : (mark k : ℕ) (l : List ℕ) → get_or (slice_split (λ c. eqb c mark) l) k [] ≡ part mark k l
unfolding behind before
split_part mark zero [] = refl
split_part mark (suc k) [] = refl
split_part mark zero (c ∷ cs) = when (eqb c mark) (split_part mark 0 cs) (some_parts (λ d. eqb d mark) cs)
  where
    when : (t : Bool) → get_or (slice_split (λ d. eqb d mark) cs) 0 [] ≡ before (λ d. eqb d mark) cs
        → 0 < length (slice_split (λ d. eqb d mark) cs)
        → get_or (cond t ([] ∷ slice_split (λ d. eqb d mark) cs) (onto_first c (slice_split (λ d. eqb d mark) cs))) 0 []
        ≡ cond t [] (c ∷ before (λ d. eqb d mark) cs)
    when true e h = refl
    when false e h = onto_here c (slice_split (λ d. eqb d mark) cs) h ∙ ap (λ l. c ∷ l) e
split_part mark (suc k) (c ∷ cs) = when (eqb c mark) (split_part mark k cs) (split_part mark (suc k) cs)
  where
    when : (t : Bool) → get_or (slice_split (λ d. eqb d mark) cs) k [] ≡ part mark k cs
        → get_or (slice_split (λ d. eqb d mark) cs) (suc k) [] ≡ part mark (suc k) cs
        → get_or (cond t ([] ∷ slice_split (λ d. eqb d mark) cs) (onto_first c (slice_split (λ d. eqb d mark) cs))) (suc k)
        []
        ≡ before (λ d. eqb d mark) (cond t (behind mark k cs) (behind mark (suc k) cs))
    when true e f = e
    when false e f = onto_later c k (slice_split (λ d. eqb d mark) cs) ∙ f

-- How many marks there are.
pub count_marks : (mark : ℕ) (l : List ℕ) → count_by (λ c. eqb c mark) l ≡ marks mark l
unfolding marks
count_marks mark l =
    sym (is_count_by (marks mark) (λ c. eqb c mark) refl (λ c cs. when (eqb c mark) (marks mark cs)) l)
  where
    when : (t : Bool) (n : ℕ) → cond t 1 0 + n ≡ cond t (1 + n) n
    when true n = refl
    when false n = omega arith

-- ---- two rows compared

-- What `==` says of two slices.
pub equal_same : (a b : List ℕ) → pointwise eqb a b ≡ same a b
unfolding same
equal_same [] [] = refl
equal_same [] (y ∷ ys) = refl
equal_same (x ∷ xs) [] = refl
equal_same (x ∷ xs) (y ∷ ys) = when (eqb x y) (equal_same xs ys)
  where
    when : (t : Bool) → pointwise eqb xs ys ≡ same xs ys → (t && pointwise eqb xs ys) ≡ cond t (same xs ys) false
    when true e = e
    when false e = refl

-- What pairs say of two rows, beside their lengths: the edit `compares_with_the_first_byte_alone` cites it.
pub zipped_same : (a b : List ℕ) → (eqb (length a) (length b) && list_all (λ (p : ℕ × ℕ). eqb p.0 p.1) (zip a b)) ≡ same a b
unfolding same
zipped_same [] [] = refl
zipped_same [] (y ∷ ys) = ap (λ (t : Bool). t && true) (eqb-zero-suc (length ys))
zipped_same (x ∷ xs) [] = ap (λ (t : Bool). t && true) (eqb-suc-zero (length xs))
zipped_same (x ∷ xs) (y ∷ ys) =
    ap (λ (t : Bool). t && (eqb x y && pairs)) (eqb-suc-suc (length xs) (length ys))
    ∙ when (eqb x y) (eqb (length xs) (length ys)) pairs (same xs ys) (zipped_same xs ys)
  where
    pairs : Bool
    pairs = list_all (λ (p : ℕ × ℕ). eqb p.0 p.1) (zip xs ys)

    when : (t u r s : Bool) → (u && r) ≡ s → (u && (t && r)) ≡ cond t s false
    when true u r s e = e
    when false true r s e = refl
    when false false r s e = refl

-- Letters that are alike are those of which `eq_ignore_ascii_case` says so.
lower : (c : ℕ) → to_ascii_lowercase c ≡ small c
lower c = grind (arith, nat_tests)

pub zipped_common : (a b : List ℕ) → prefix_len (λ p. eq_ignore_ascii_case p.0 p.1) (zip a b) ≡ common a b
unfolding common
zipped_common [] b = refl
zipped_common (x ∷ xs) [] = refl
zipped_common (x ∷ xs) (y ∷ ys) =
    rw (lower x, lower y) (when (eqb (small x) (small y)) (zipped_common xs ys))
  where
    when : (t : Bool) {m n : ℕ} → m ≡ n → cond t (1 + m) 0 ≡ cond t (suc n) 0
    when true e = omega (arith, e)
    when false e = refl
