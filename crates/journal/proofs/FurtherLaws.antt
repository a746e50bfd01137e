-- What is read of bytes is read of them too where further bytes follow. Assumes nothing.
use Prim.Native.Nat.{ℕ, zero, suc, ◌+◌, ◌-◌, ◌*◌, ◌≤◌, ◌<◌}
use mathlib.Core.Bool.{Bool, true, false, cond, false≢true}
use mathlib.Core.List.{List, [], ◌∷◌, ◌++◌}
use mathlib.Core.Path.{◌≡◌, refl, sym, ap, ◌∙◌}
use native.Mathlib.Omega.{arith}
use borrow.Author.Tests.{leb-true, leb-false}
use lib.Dec.{ltb, leb, eqb}
use lib.ListN.{length, drop, length-append, length-drop}
use lib.Seq.{drop-append-le}
use Rattle.journal.specs.declared.EntryAt.{EntryAt}
use Rattle.journal.specs.Numbers.{Got, onto, found}
use Rattle.journal.specs.Numbers.Got.{cut, wrong, got}
use Rattle.journal.specs.Entries.{Range, ranges, within, ranged, before, behind, read_all, as_entry}
use Rattle.journal.specs.Journal.{answer_at, read_at}
use Rattle.journal.proofs.AnswerLaws.{at_end, inside}

-- What was got of so many bytes is got again.
abbrev Again : {A : Type 0} → List ℕ → Got A → Got A → Type 0
Again bs cut h = Unit
Again bs wrong h = Unit
Again bs (got x used) h = (h ≡ got x used) × (used ≤ length bs)

-- ---- a number

again_onto : (b : ℕ) (bs : List ℕ) (g h : Got ℕ) → Again bs g h → Again (b ∷ bs) (onto b g) (onto b h)
again_onto b bs cut h a = tt
again_onto b bs wrong h a = tt
again_onto b bs (got n used) h a = rw a.0 (each (eqb n 0))
  where
    each : (t : Bool)
        → Again (b ∷ bs) (cond t wrong (got (b - 128 + 128 * n) (used + 1)))
        (cond t wrong (got (b - 128 + 128 * n) (used + 1)))
    each true = tt
    each false = (refl, omega (arith, a.1))

again_found : (more : ℕ) (bs rest : List ℕ) → Again bs (found more bs) (found more (bs ++ rest))
unfolding found
again_found zero [] rest = tt
again_found (suc more) [] rest = tt
again_found zero (b ∷ bs) rest = each (ltb b 128)
  where
    each : (t : Bool) → Again (b ∷ bs) (cond t (got b 1) wrong) (cond t (got b 1) wrong)
    each true = (refl, omega arith)
    each false = tt
again_found (suc more) (b ∷ bs) rest = each (ltb b 128) (again_found more bs rest)
  where
    each : (t : Bool) → Again bs (found more bs) (found more (bs ++ rest))
        → Again (b ∷ bs) (cond t (got b 1) (onto b (found more bs)))
        (cond t (got b 1) (onto b (found more (bs ++ rest))))
    each true a = (refl, omega arith)
    each false a = again_onto b bs (found more bs) (found more (bs ++ rest)) a

-- ---- numbers one behind the other

again_before : (bs : List ℕ) (n used : ℕ) (g h : Got (List ℕ)) → used ≤ length bs → Again (drop used bs) g h
    → Again bs (before n used g) (before n used h)
again_before bs n used cut h l a = tt
again_before bs n used wrong h l a = tt
again_before bs n used (got ns more) h l a =
    (ap (before n used) a.0, omega (arith, l, a.1, length-drop used bs))

again_read : (rs : List Range) (bs rest : List ℕ) → Again bs (read_all rs bs) (read_all rs (bs ++ rest))
unfolding read_all
again_read [] bs rest = (refl, omega arith)
again_read (r ∷ rs) bs rest =
    step (found 6 bs) (found 6 (bs ++ rest)) (again_found 6 bs rest) (λ used. again_read rs (drop used bs) rest)
  where
    step : (g h : Got ℕ) → Again bs g h
        → ((used : ℕ) → Again (drop used bs) (read_all rs (drop used bs)) (read_all rs (drop used bs ++ rest)))
        → Again bs (behind (ranged r g) (λ used. read_all rs (drop used bs)))
        (behind (ranged r h) (λ used. read_all rs (drop used (bs ++ rest))))
    step cut h a f = tt
    step wrong h a f = tt
    step (got n used) h a f = rw a.0 (each (within r n))
      where
        each : (t : Bool)
            → Again bs (behind (cond t (got n used) wrong) (λ used. read_all rs (drop used bs)))
            (behind (cond t (got n used) wrong) (λ used. read_all rs (drop used (bs ++ rest))))
        each true =
            rw (drop-append-le used bs rest a.1)
            (again_before bs n used (read_all rs (drop used bs)) (read_all rs (drop used bs ++ rest)) a.1 (f used))
        each false = tt

-- ---- an entry at a place

module _ (bytes rest : List ℕ) (at : ℕ) where
  answered : at ≤ length bytes → (g h : Got (List ℕ)) → Again (drop at bytes) g h
      → (answer_at at (as_entry g)).found ≡ true
      → (answer_at at (as_entry h) ≡ answer_at at (as_entry g)) × ((answer_at at (as_entry g)).next ≤ length bytes)
  answered l cut h a f = absurd (false≢true f)
  answered l wrong h a f = absurd (false≢true f)
  answered l (got ns used) h a f = (
    ap (λ (x : Got (List ℕ)). answer_at at (as_entry x)) a.0,
    omega (arith, l, a.1, length-drop at bytes),
  )

  pub found_inside : (read_at bytes at).found ≡ true → at < length bytes
  found_inside f = split (leb (length bytes) at) refl
    where
      split : (t : Bool) → leb (length bytes) at ≡ t → at < length bytes
      split true e =
          absurd (false≢true
          (ap (λ (x : EntryAt). x.found) (at_end bytes at (leb-true (length bytes) at e)) ∙ f))
      split false e = leb-false (length bytes) at e

  pub found_again : (read_at bytes at).found ≡ true
      → (read_at (bytes ++ rest) at ≡ read_at bytes at) × ((read_at bytes at).next ≤ length bytes)
  found_again f =
      let l : at < length bytes = found_inside f in
      let m : at < length (bytes ++ rest) = omega (arith, l, length-append bytes rest) in
      let k : at ≤ length bytes = omega arith in
      let i = inside bytes at l in
      let a =
      answered k (read_all ranges (drop at bytes)) (read_all ranges (drop at bytes ++ rest))
      (again_read ranges (drop at bytes) rest) (sym (ap (λ (x : EntryAt). x.found) i) ∙ f) in (
        inside (bytes ++ rest) at m
            ∙ ap (λ (x : List ℕ). answer_at at (as_entry (read_all ranges x))) (drop-append-le at bytes rest k)
            ∙ a.0 ∙ sym i,
        omega (arith, a.1, ap (λ (x : EntryAt). x.next) i),
      )
