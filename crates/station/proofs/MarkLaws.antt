-- A row of bytes taken apart at a mark: rows without the mark, joined by it, are its parts; and every row is its parts
-- so joined. Assumes nothing.
use Rattle.std.specs.Str.{bytes_eq}
use Prim.Native.Nat.{ℕ, suc, ◌+◌}
use native.Mathlib.Omega.{arith}
use mathlib.Core.Bool.{Bool, true, false, cond, ◌&&◌, false≢true}
use mathlib.Core.List.{List, [], ◌∷◌, ◌++◌}
use mathlib.Core.Path.{◌≡◌, refl, sym, ap, ◌∙◌}
use borrow.Author.Tests.{eq-eqb, ne_eqb, eqb-true, eqb-false}
use lib.Dec.{eqb}
use Rattle.receiver.specs.Receiver.{before}
use Rattle.text.specs.Parts.{behind, part, marks, parts, same}

-- What the library's search compares: the row that is looked for comes second.
swapped : (x y : ℕ) → eqb x y ≡ eqb y x
swapped x y = when (eqb x y) refl
  where
    when : (t : Bool) → eqb x y ≡ t → t ≡ eqb y x
    when true e = sym (eq-eqb y x (sym (eqb-true x y e)))
    when false e = sym (ne_eqb y x (λ (q : y ≡ x). eqb-false x y e (sym q)))

pub equal_back : (a b : List ℕ) → bytes_eq a b ≡ same b a
unfolding same
equal_back [] [] = refl
equal_back [] (y ∷ ys) = refl
equal_back (x ∷ xs) [] = refl
equal_back (x ∷ xs) (y ∷ ys) = when _ _ _ _ (swapped x y) (equal_back xs ys)
  where
    when : (t u a b : Bool) → t ≡ u → a ≡ b → t && a ≡ cond u b false
    when true u a b e f = rw (sym e) f
    when false u a b e f = rw (sym e)

-- Rows that are the same are equal.
pub same_equal : (a b : List ℕ) → same a b ≡ true → a ≡ b
unfolding same
same_equal [] [] h = refl
same_equal [] (y ∷ ys) h = absurd (false≢true h)
same_equal (x ∷ xs) [] h = absurd (false≢true h)
same_equal (x ∷ xs) (y ∷ ys) h = when (eqb x y) (eqb-true x y) h (same_equal xs ys)
  where
    when : (t : Bool) → (t ≡ true → x ≡ y) → cond t (same xs ys) false ≡ true → (same xs ys ≡ true → xs ≡ ys)
        → ◌≡◌ {A = List ℕ} (x ∷ xs) (y ∷ ys)
    when true f e g = λ i. f refl i ∷ g e i
    when false f e g = absurd (false≢true e)

module _ (m : ℕ) where
  -- Up to the first mark.
  abbrev up_to : List ℕ → List ℕ
  up_to l = before (λ c. eqb c m) l

  -- ---- Rows without a mark

  -- The first byte of a row without a mark is none, and the rest has none.
  first_none : (c : ℕ) (cs : List ℕ) → marks m (c ∷ cs) ≡ 0 → (eqb c m ≡ false) × (marks m cs ≡ 0)
  unfolding marks
  first_none c cs h = when (eqb c m) h
    where
      when : (t : Bool) → cond t 1 0 + marks m cs ≡ 0 → (t ≡ false) × (marks m cs ≡ 0)
      when true e = absurd (omega arith)
      when false e = (refl, omega arith)

  pub marks_join : (a b : List ℕ) → marks m (a ++ b) ≡ marks m a + marks m b
  unfolding marks
  marks_join [] b = omega arith
  marks_join (c ∷ cs) b = omega (arith, marks_join cs b)

  module _ (b : List ℕ) where
    pub before_joined : (a : List ℕ) → marks m a ≡ 0 → up_to (a ++ (m ∷ b)) ≡ a
    unfolding before
    before_joined [] h = rw (eq-eqb m m refl)
    before_joined (c ∷ cs) h =
        rw (first_none c cs h).0 (ap (λ (x : List ℕ). c ∷ x) (before_joined cs (first_none c cs h).1))

    pub behind_joined : (k : ℕ) (a : List ℕ) → marks m a ≡ 0 → behind m (suc k) (a ++ (m ∷ b)) ≡ behind m k b
    unfolding behind
    behind_joined k [] h = rw (eq-eqb m m refl)
    behind_joined k (c ∷ cs) h = rw (first_none c cs h).0 (behind_joined k cs (first_none c cs h).1)

  before_alone : (a : List ℕ) → marks m a ≡ 0 → up_to a ≡ a
  unfolding before
  before_alone [] h = refl
  before_alone (c ∷ cs) h =
      rw (first_none c cs h).0 (ap (λ (x : List ℕ). c ∷ x) (before_alone cs (first_none c cs h).1))

  -- ---- Two and three of them, joined

  pub record Two (l a b : List ℕ) : Type 0 where
    pub count : parts m l ≡ 2
    pub first : part m 0 l ≡ a
    pub second : part m 1 l ≡ b

  pub record Three (l a b c : List ℕ) : Type 0 where
    pub count : parts m l ≡ 3
    pub first : part m 0 l ≡ a
    pub second : part m 1 l ≡ b
    pub third : part m 2 l ≡ c

  marks_next : (a b : List ℕ) → marks m a ≡ 0 → marks m (a ++ (m ∷ b)) ≡ 1 + marks m b
  unfolding marks
  marks_next a b h = rw (marks_join a (m ∷ b), h, eq-eqb m m refl) (omega arith)

  pub two : (a b : List ℕ) → marks m a ≡ 0 → marks m b ≡ 0 → Two (a ++ (m ∷ b)) a b
  unfolding behind
  two a b g h = record {
    count = omega (arith, marks_next a b g);
    first = before_joined b a g;
    second = ap up_to (behind_joined b 0 a g) ∙ before_alone b h;
  }

  pub three : (a b c : List ℕ) → marks m a ≡ 0 → marks m b ≡ 0 → marks m c ≡ 0
      → Three (a ++ (m ∷ (b ++ (m ∷ c)))) a b c
  unfolding behind
  three a b c g h k = record {
    count = omega (arith, marks_next a (b ++ (m ∷ c)) g, marks_next b c h);
    first = before_joined (b ++ (m ∷ c)) a g;
    second = ap up_to (behind_joined (b ++ (m ∷ c)) 0 a g) ∙ before_joined c b h;
    third = ap up_to (behind_joined (b ++ (m ∷ c)) 1 a g ∙ behind_joined c 0 b h) ∙ before_alone c k;
  }

  -- ---- Every row is its parts, joined

  pub before_none : (l : List ℕ) → marks m (up_to l) ≡ 0
  unfolding before marks
  before_none [] = refl
  before_none (c ∷ cs) = when (eqb c m) refl (before_none cs)
    where
      when : (t : Bool) → eqb c m ≡ t → marks m (up_to cs) ≡ 0 → marks m (cond t [] (c ∷ up_to cs)) ≡ 0
      when true e h = refl
      when false e h = rw e (omega arith)

  -- A mark, what stands before the first and what behind it.
  split : (l : List ℕ) (n : ℕ) → marks m l ≡ suc n → l ≡ up_to l ++ (m ∷ behind m 1 l)
  unfolding before behind marks
  split [] n h = absurd (omega arith)
  split (c ∷ cs) n h = when (eqb c m) (eqb-true c m) h (split cs n)
    where
      when : (t : Bool) → (t ≡ true → c ≡ m) → cond t 1 0 + marks m cs ≡ suc n
          → (marks m cs ≡ suc n → cs ≡ up_to cs ++ (m ∷ behind m 1 cs))
          → c ∷ cs ≡ cond t [] (c ∷ up_to cs) ++ (m ∷ cond t cs (behind m 1 cs))
      when true f e g = ap (λ (x : ℕ). x ∷ cs) (f refl)
      when false f e g = ap (λ (x : List ℕ). c ∷ x) (g (omega arith))

  module _ (l : List ℕ) (n : ℕ) (h : marks m l ≡ suc n) where
    -- What stands behind it has the other marks, and the parts from the second on.
    rest_marks : marks m (behind m 1 l) ≡ n
    rest_marks =
        omega (arith, ap (marks m) (split l n h), marks_next (up_to l) (behind m 1 l) (before_none l))

    rest_behind : (k : ℕ) → behind m (suc k) l ≡ behind m k (behind m 1 l)
    rest_behind k = ap (behind m (suc k)) (split l n h) ∙ behind_joined (behind m 1 l) k (up_to l) (before_none l)

  pub of_two : (l : List ℕ) → parts m l ≡ 2 → l ≡ part m 0 l ++ (m ∷ part m 1 l)
  unfolding behind
  of_two l e =
      let h : marks m l ≡ 1 = omega arith in
      split l 0 h
      ∙ ap (λ (x : List ℕ). up_to l ++ (m ∷ x)) (sym (before_alone (behind m 1 l) (rest_marks l 0 h)))

  pub of_three : (l : List ℕ) → parts m l ≡ 3 → l ≡ part m 0 l ++ (m ∷ (part m 1 l ++ (m ∷ part m 2 l)))
  unfolding behind
  of_three l e =
      let h : marks m l ≡ 2 = omega arith in
      let r = rest_marks l 1 h in
      split l 1 h
      ∙ ap (λ (x : List ℕ). up_to l ++ (m ∷ x))
      (of_two (behind m 1 l) (omega arith)
      ∙ ap (λ (x : List ℕ). up_to (behind m 1 l) ++ (m ∷ up_to x)) (sym (rest_behind l 1 h 1)))
