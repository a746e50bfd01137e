-- The first word of a line and that of its form are one, but for `silent`, which is no word of the table. Assumes
-- nothing.
use Rattle.std.proofs.Common.{None, Some}
use Prim.Native.Nat.{ℕ, zero, suc, ◌-◌, ◌≤◌, ◌<◌}
use native.Mathlib.Omega.{arith}
use mathlib.Core.Bool.{Bool, true, false, cond, false≢true}
use mathlib.Core.List.{List, [], ◌∷◌}
use mathlib.Core.Path.{◌≡◌, refl, sym, ap, ◌∙◌}
use borrow.Author.Tests.{le-leb, leb-true, ltb-false, eqb-true, eq-eqb}
use lib.Dec.{ltb, leb, eqb}
use lib.ListN.{length, get_or, take, drop}
use lib.Seq.{take_all, take-take, get_or-take, drop-cons}
use Rattle.block.specs.Block.{front_of}
use Rattle.machine.specs.Calls.{chars}
use Rattle.receiver.specs.Receiver.{before}
use Rattle.text.specs.Parts.{behind, same}
use Rattle.sentences.specs.Sentences.{keywords, word_count, place_in, place_of}
use Rattle.phrases.specs.declared.Named.{Named}
use Rattle.phrases.specs.Meanings.{word}
use Rattle.phrases.specs.Phrases.{is_silent, has_ident, named_of}

-- ---- A list that is cut at a mark has the same bytes before its first mark

before_cut : (p : ℕ → Bool) (l : List ℕ) (m : ℕ) → m < length l → p (get_or l m 0) ≡ true
    → before p (take m l) ≡ before p l
unfolding before
before_cut p [] m h e = absurd (omega arith)
before_cut p (c ∷ cs) zero h e = rw e
before_cut p (c ∷ cs) (suc m) h e =
    ap (λ (x : List ℕ). cond (p c) [] (c ∷ x)) (before_cut p cs m (omega arith) e)

word_cut : (l : List ℕ) (m : ℕ) → m < length l → eqb (get_or l m 0) 32 ≡ true → word 0 (take m l) ≡ word 0 l
unfolding behind
word_cut l m h e = before_cut (λ c. eqb c 32) l m h e

-- ---- An identification is cut off at a space

ident_space : (x : ℕ) (xs : List ℕ) → same (x ∷ xs) (chars " as ") ≡ true → eqb x 32 ≡ true
unfolding same
ident_space x xs h = when (eqb x 32) (same xs (chars "as ")) h
  where
    when : (t u : Bool) → cond t u false ≡ true → t ≡ true
    when true u e = refl
    when false u e = absurd (false≢true e)

module _ (u : List ℕ) where
  -- Where it begins.
  abbrev at : ℕ
  at = length u - 5

  abbrev given : Named
  given = record { ident = Some (get_or u (length u - 1) 0); length = at }

  abbrev absent : Named
  absent = record { ident = None; length = length u }

  cut : (t : Bool) → ltb (length u) 5 ≡ t → cond t false (same (take 4 (drop at u)) (chars " as ")) ≡ true
      → word 0 (front_of u at) ≡ word 0 u
  cut true e h = absurd (false≢true h)
  cut false e h =
      let g : 5 ≤ length u = ltb-false (length u) 5 e in
      let k : at < length u = omega arith in
      let a : same (take 4 (get_or u at 0 ∷ drop (suc at) u)) (chars " as ") ≡ true =
      ap (λ (x : List ℕ). same (take 4 x) (chars " as ")) (sym (drop-cons u at 0 k)) ∙ h in
      rw (le-leb at (length u) (omega arith)) (word_cut u at k (ident_space (get_or u at 0) (take 3 (drop (suc at) u)) a))

  kept : (t : Bool) → has_ident u ≡ t → word 0 (front_of u (cond t given absent).length) ≡ word 0 u
  kept true e = cut (ltb (length u) 5) refl e
  kept false e = rw (le-leb (length u) (length u) (omega arith)) (ap (word 0) (take_all (length u) u (omega arith)))

  pub named_first : word 0 (front_of u (named_of u).length) ≡ word 0 u
  named_first = kept (has_ident u) refl

-- ---- `silent`

pub same_equal : (a b : List ℕ) → same a b ≡ true → a ≡ b
unfolding same
same_equal [] [] e = refl
same_equal [] (y ∷ ys) e = absurd (false≢true e)
same_equal (x ∷ xs) [] e = absurd (false≢true e)
same_equal (x ∷ xs) (y ∷ ys) e = when (eqb x y) refl (same_equal xs ys) e
  where
    when : (t : Bool) → eqb x y ≡ t → (same xs ys ≡ true → xs ≡ ys) → cond t (same xs ys) false ≡ true
        → x ∷ xs ≡ y ∷ ys
    when true p f q = λ i. eqb-true x y p i ∷ f q i
    when false p f q = absurd (false≢true q)

pub silent_first : (l : List ℕ) → is_silent l ≡ true → word 0 l ≡ chars "silent"
unfolding same before behind
silent_first l h = when (leb 7 (length l)) refl h
  where
    when : (t : Bool) → leb 7 (length l) ≡ t → same (cond t (take 7 l) []) (chars "silent ") ≡ true
        → word 0 l ≡ chars "silent"
    when true e q =
        let k : 7 ≤ length l = leb-true 7 (length l) e in
        let s : take 7 l ≡ chars "silent " = same_equal (take 7 l) (chars "silent ") q in
        let g : get_or l 6 0 ≡ 32 =
        sym (get_or-take 7 l 6 0 (omega arith)) ∙ ap (λ (x : List ℕ). get_or x 6 0) s in
        sym (word_cut l 6 (omega arith) (eq-eqb (get_or l 6 0) 32 g))
        ∙ ap (word 0) (sym (take-take 6 7 l (omega arith)) ∙ ap (take 6) s)
    when false e q = absurd (false≢true q)

pub silent_place : place_of (chars "silent") ≡ word_count
unfolding before behind same keywords place_in
silent_place = refl
