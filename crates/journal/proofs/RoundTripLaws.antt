-- Writing and then reading yields the entries, behind those that were there. Assumes nothing.
use Prim.Native.Nat.{ℕ, ◌+◌, ◌≤◌, ◌<◌}
use mathlib.Core.Bool.{Bool, true, false, false≢true}
use mathlib.Core.List.{List, [], ◌∷◌, ◌++◌, append-nil}
use mathlib.Core.Path.{◌≡◌, refl, sym, ap, subst, transport, ◌∙◌}
use native.Mathlib.Omega.{arith}
use borrow.Author.Tests.{leb-true, leb-false, eqb-false}
use lib.Dec.{leb}
use lib.ListN.{length, take, drop, length-append, length-drop}
use lib.Seq.{drop-append_seam, drop-drop, drop_at, length-take-le}
use Rattle.journal.specs.declared.Entry.{Entry}
use Rattle.journal.specs.declared.EntryAt.{EntryAt}
use Rattle.journal.specs.Numbers.{Got}
use Rattle.journal.specs.Numbers.Got.{cut, wrong, got}
use Rattle.journal.specs.Entries.{spell_all, spelled, read_entry}
use Rattle.journal.specs.Journal.{
  nothing_at,
  answer_at,
  read_at,
  journal_of,
  AllFit,
  Written,
  Yields,
  RoundTrip,
}
use Rattle.journal.proofs.AnswerLaws.{at_end, inside}
use Rattle.journal.proofs.FurtherLaws.{found_again}
use Rattle.journal.proofs.GroupLaws.{groups_some}
use Rattle.journal.proofs.SpellingLaws.{reads}
use Rattle.journal.proofs.WrittenLaws.{
  written_fit,
  written_room,
  written_is,
  written_behind,
  behind_place,
  takes,
}

-- ---- what was written is read

some_byte : (e : Entry) → 1 ≤ length (spelled e)
unfolding spell_all
some_byte e = rw length-append (omega (arith, groups_some 6 e.ticks))

yields : (journal : List ℕ) (p : ℕ) (es : List Entry) → AllFit es → drop p journal ≡ journal_of es → Yields journal p es
unfolding journal_of
yields journal p [] f h = sym (at_end journal p (omega (arith, length-drop p journal, ap length h)))
yields journal p (e ∷ es) f h =
    let l : p < length journal =
    omega (arith, length-drop p journal, ap length h, length-append (spelled e) (journal_of es), some_byte e) in
    let r : read_at journal p ≡ record { entry = e; next = p + length (spelled e); found = true; number = 0 } =
    inside journal p l ∙ ap (λ (x : List ℕ). answer_at p (read_entry x)) h
    ∙ ap (answer_at p) (reads e (journal_of es) f.0) in
    let d : drop (p + length (spelled e)) journal ≡ journal_of es =
    sym (drop-drop (length (spelled e)) p journal) ∙ ap (drop (length (spelled e))) h
    ∙ drop-append_seam (spelled e) (journal_of es) in (
      ap (λ (x : EntryAt). x.found) r,
      (
        ap (λ (x : EntryAt). x.number) r,
        (
          ap (λ (x : EntryAt). x.entry) r,
          subst (λ (n : ℕ). Yields journal n es) (sym (ap (λ (x : EntryAt). x.next) r))
              (yields journal (p + length (spelled e)) es f.1 d),
        ),
      ),
    )

-- ---- behind what was there

-- The end is told nowhere before it.
ended : (journal : List ℕ) (p : ℕ) → read_at journal p ≡ nothing_at p 0 → length journal ≤ p
ended journal p h = split (leb (length journal) p) refl
  where
    no_end : (g : Got Entry) → answer_at p g ≡ nothing_at p 0 → ⊥
    no_end cut e = eqb-false 23 0 refl (ap (λ (x : EntryAt). x.number) e)
    no_end wrong e = eqb-false 24 0 refl (ap (λ (x : EntryAt). x.number) e)
    no_end (got x used) e = false≢true (sym (ap (λ (x : EntryAt). x.found) e))

    split : (t : Bool) → leb (length journal) p ≡ t → length journal ≤ p
    split true e = leb-true (length journal) p e
    split false e =
        absurd (no_end (read_entry (drop p journal)) (sym (inside journal p (leb-false (length journal) p e)) ∙ h))

behind_old : (journal : List ℕ) (es : List Entry) (p : ℕ) (old : List Entry) → AllFit es → p ≤ length journal
    → Yields journal p old → Yields (journal ++ journal_of es) p (old ++ es)
behind_old journal es p [] f h y =
    let e : length journal ≡ p = omega (arith, h, ended journal p y) in
    yields (journal ++ journal_of es) p es f (drop_at journal (journal_of es) p e)
behind_old journal es p (e ∷ old) f h y =
    let a = found_again journal (journal_of es) p y.0 in (
      ap (λ (x : EntryAt). x.found) a.0 ∙ y.0,
      (
        ap (λ (x : EntryAt). x.number) a.0 ∙ y.1.0,
        (
          ap (λ (x : EntryAt). x.entry) a.0 ∙ y.1.1.0,
          subst (λ (n : ℕ). Yields (journal ++ journal_of es) n (old ++ es)) (sym (ap (λ (x : EntryAt). x.next) a.0))
              (behind_old journal es (read_at journal p).next old f a.1 y.1.1.1),
        ),
      ),
    )

old_first : (buffer : List ℕ) (front at : ℕ) (old es : List Entry) (last : List ℕ) (end : ℕ) → front ≤ at
    → Yields (take at buffer) front old → Written buffer at es last end → Yields (take end last) front (old ++ es)
old_first buffer front at old [] last end h y w =
    transport (λ i. Yields (take (w.1 i) (w.0 i)) front (sym (append-nil old) i)) y
old_first buffer front at old (e ∷ es) last end h y w =
    let r : at ≤ length buffer = omega (arith, written_room buffer at e es last end w) in
    let l : front ≤ length (take at buffer) = omega (arith, h, length-take-le at buffer r) in
    subst (λ (j : List ℕ). Yields j front (old ++ (e ∷ es))) (sym (written_is buffer at (e ∷ es) last end w))
    (behind_old (take at buffer) (e ∷ es) front old (written_fit buffer at (e ∷ es) last end w) l y)

pub round_trip : RoundTrip
round_trip = record {
  yields = λ buffer at es last end w.
      yields (take end last) at es (written_fit buffer at es last end w) (behind_place buffer at es last end w);
  kept = λ buffer at es last end w. (written_is buffer at es last end w, written_behind buffer at es last end w);
  old_first = old_first;
  takes = takes;
}
