-- The lines of command values, a line feed between two of them: one value more, as the bench program takes them, how
-- many they are, and how long. Assumes nothing.
use Rattle.std.proofs.lemmas.List.{take_all}
use Prim.Native.Nat.{ℕ, ◌+◌, ◌*◌, ◌≤◌, ◌<◌}
use native.Mathlib.Numerals.{add-one}
use native.Mathlib.Omega.{arith}
use mathlib.Core.Bool.{Bool, true, false, cond, false≢true}
use mathlib.Core.List.{List, [], ◌∷◌, ◌++◌, append-nil, append_assoc}
use mathlib.Core.Path.{◌≡◌, refl, sym, ap, ◌∙◌}
use lib.Dec.{eqb}
use lib.ListN.{length, get_or, take, length-append}
use lib.Seq.{take-suc, append_snoc}
use Rattle.laws.proofs.Tests.{both}
use Rattle.digits.specs.Digits.{end_byte}
use Rattle.host.specs.Writer.{has_line, line_of}
use Rattle.host.specs.declared.Request.{Request}
use Rattle.station.specs.Executed.{written}
use Rattle.station.specs.Writable.{are_lined}
use Rattle.text.specs.Parts.{marks, parts}
use Rattle.text.specs.Text.{push_of, writes}
use Rattle.text.specs.declared.Text.{Text}
use Rattle.text.proofs.LengthLaws.{first_short}
use Rattle.text.proofs.TextLaws.{joined, writes_last, writes_none}
use Rattle.phrases.specs.Phrases.{line_text}
use Rattle.phrases.proofs.PhraseLaws.{line_most}
use Rattle.phrases.proofs.SameLineLaws.{same_line}
use Rattle.wording.specs.Promises.{entered}
use Rattle.wording.specs.Stations.{more_text, lines_text}
use Rattle.wording.proofs.OneLineLaws.{is_line, Clean}
use Rattle.wording.proofs.WordLineLaws.{line}

-- ---- one value more

more_last : (rs : List Request) (r : Request) → more_text (rs ++ (r ∷ [])) ≡ more_text rs ++ (10 ∷ line_text r)
unfolding more_text
more_last [] r = ap (λ (x : List ℕ). 10 ∷ x) (append-nil (line_text r))
more_last (q ∷ rs) r =
    ap (λ (x : List ℕ). 10 ∷ x)
    (ap (λ (x : List ℕ). line_text q ++ x) (more_last rs r)
    ∙ sym (append_assoc (line_text q) (more_text rs) (10 ∷ line_text r)))

-- ---- written one by one

module _ {t : Text} (s : Text) where
  -- A line feed, and the line of the next.
  pub next_written : {u v : Text} (rs : List Request) (d : Request) (k : ℕ) → k < length rs
      → t ≡ writes s (more_text (take k rs)) → u ≡ push_of t 10 → v ≡ writes u (line_text (get_or rs k d))
      → v ≡ writes s (more_text (take (k + 1) rs))
  next_written rs d k b e p q =
      let r = get_or rs k d in
      let l = more_text (take k rs) in
      joined s (l ++ (10 ∷ [])) (line_text r) (writes_last s l 10 e p) q
      ∙ ap (writes s)
      (append_snoc l 10 (line_text r)
      ∙ sym (ap more_text (ap (λ (m : ℕ). take m rs) (add-one k) ∙ take-suc rs k d b) ∙ more_last (take k rs) r))

-- None, and all of them.
pub none_written : (t : Text) (rs : List Request) → length rs ≡ 0 → t ≡ writes t (lines_text rs)
unfolding lines_text
none_written t [] h = writes_none t
none_written t (r ∷ rs) h = absurd (omega (arith, h))

pub all_written : {t u : Text} (s : Text) (r : Request) (rs vs : List Request) (k : ℕ) → vs ≡ r ∷ rs → length rs ≤ k
    → t ≡ writes s (line_text r) → u ≡ writes t (more_text (take k rs)) → u ≡ writes s (lines_text vs)
unfolding lines_text
all_written s r rs vs k e h p q =
    joined s (line_text r) (more_text (take k rs)) p q
    ∙ ap (writes s)
    (ap (λ (x : List Request). line_text r ++ more_text x) (take_all k rs h) ∙ sym (ap lines_text e))

-- ---- as the bench program takes them

entered_clean : (x y : List ℕ) → Clean x → entered (x ++ y) ≡ x ++ entered y
unfolding entered is_line
entered_clean [] y h = refl
entered_clean (c ∷ x) y h = when (eqb c 10) (λ e. entered_clean x y e) h
  where
    when : (t : Bool) → (is_line x ≡ true → entered (x ++ y) ≡ x ++ entered y) → cond t false (is_line x) ≡ true
        → cond t end_byte c ∷ entered (x ++ y) ≡ c ∷ (x ++ entered y)
    when true f e = absurd (false≢true e)
    when false f e = ap (λ (z : List ℕ). c ∷ z) (f e)

module _ (r : Request) (h : has_line r ≡ true) where
  -- A line, and what stands behind its end.
  ended : (y : List ℕ) → line_text r ++ (end_byte ∷ y) ≡ line_of r ++ y
  ended y =
      sym (append_snoc (line_text r) end_byte y) ∙ ap (λ (x : List ℕ). x ++ y) (same_line.line r h)

  first_entered : (x y : List ℕ) → entered (x ++ (10 ∷ [])) ≡ end_byte ∷ y
      → entered ((line_text r ++ x) ++ (10 ∷ [])) ≡ line_of r ++ y
  first_entered x y e =
      ap entered (append_assoc (line_text r) x (10 ∷ []))
      ∙ (entered_clean (line_text r) (x ++ (10 ∷ [])) (line r)
      ∙ (ap (λ (z : List ℕ). line_text r ++ z) e ∙ ended y))

more_entered : (rs : List Request) → are_lined rs ≡ true
    → entered (more_text rs ++ (10 ∷ [])) ≡ end_byte ∷ written rs
unfolding more_text written are_lined entered
more_entered [] e = refl
more_entered (r ∷ rs) e =
    let t = both (has_line r) (are_lined rs) e in
    ap (λ (z : List ℕ). end_byte ∷ z)
    (first_entered r t.0 (more_text rs) (written rs) (more_entered rs t.1))

pub lines_entered : (rs : List Request) → 1 ≤ length rs → are_lined rs ≡ true
    → entered (lines_text rs ++ (10 ∷ [])) ≡ written rs
unfolding lines_text written are_lined
lines_entered [] h e = absurd (omega arith)
lines_entered (r ∷ rs) h e =
    let t = both (has_line r) (are_lined rs) e in
    first_entered r t.0 (more_text rs) (written rs) (more_entered rs t.1)

-- ---- how many they are

marks_joined : (x y : List ℕ) → marks 10 (x ++ y) ≡ marks 10 x + marks 10 y
unfolding marks
marks_joined [] y = omega arith
marks_joined (c ∷ x) y = omega (arith, marks_joined x y)

pub clean_marks : (x : List ℕ) → Clean x → marks 10 x ≡ 0
unfolding marks is_line
clean_marks [] h = refl
clean_marks (c ∷ x) h = when (eqb c 10) (λ e. clean_marks x e) h
  where
    when : (t : Bool) → (is_line x ≡ true → marks 10 x ≡ 0) → cond t false (is_line x) ≡ true
        → cond t 1 0 + marks 10 x ≡ 0
    when true f e = absurd (false≢true e)
    when false f e = omega (arith, f e)

pub marks_clean : (x : List ℕ) → marks 10 x ≡ 0 → Clean x
unfolding marks is_line
marks_clean [] h = refl
marks_clean (c ∷ x) h = when (eqb c 10) (λ e. marks_clean x e) h
  where
    when : (t : Bool) → (marks 10 x ≡ 0 → is_line x ≡ true) → cond t 1 0 + marks 10 x ≡ 0
        → cond t false (is_line x) ≡ true
    when true f e = absurd (omega (arith, e))
    when false f e = f (omega (arith, e))

more_marks : (rs : List Request) → marks 10 (more_text rs) ≡ length rs
unfolding more_text marks
more_marks [] = refl
more_marks (r ∷ rs) =
    omega (
      arith,
      marks_joined (line_text r) (more_text rs),
      clean_marks (line_text r) (line r),
      more_marks rs,
    )

pub lines_parts : (rs : List Request) → 1 ≤ length rs → parts 10 (lines_text rs) ≡ length rs
unfolding lines_text
lines_parts [] h = absurd (omega arith)
lines_parts (r ∷ rs) h =
    omega (
      arith,
      marks_joined (line_text r) (more_text rs),
      clean_marks (line_text r) (line r),
      more_marks rs,
    )

-- ---- how long

line_ten : (r : Request) → has_line r ≡ true → length (line_text r) ≤ 10
line_ten r e = rw e (omega (arith, first_short end_byte (line_of r), line_most r))

more_most : (rs : List Request) → are_lined rs ≡ true → length (more_text rs) ≤ 11 * length rs
unfolding more_text are_lined
more_most [] e = omega arith
more_most (r ∷ rs) e =
    let t = both (has_line r) (are_lined rs) e in
    omega (arith, length-append (line_text r) (more_text rs), line_ten r t.0, more_most rs t.1)

pub lines_most : (rs : List Request) → are_lined rs ≡ true → length (lines_text rs) ≤ 11 * length rs
unfolding lines_text are_lined
lines_most [] e = omega arith
lines_most (r ∷ rs) e =
    let t = both (has_line r) (are_lined rs) e in
    omega (arith, length-append (line_text r) (more_text rs), line_ten r t.0, more_most rs t.1)
