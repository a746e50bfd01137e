-- Laws of entries appended one after the other: what they leave in the buffer, and that all that fit are taken where
-- they have room. Assumes nothing.
use Prim.Native.Nat.{ℕ, ◌+◌, ◌≤◌}
use mathlib.Core.List.{List, [], ◌∷◌, ◌++◌, append_assoc, append-nil}
use mathlib.Core.Path.{◌≡◌, sym, ap, transport, ◌∙◌}
use native.Mathlib.Omega.{arith}
use lib.ListN.{length, take, drop, length-append, length-take, drop_of_length-le}
use lib.Seq.{drop-drop, drop_at, length-take-le}
use Rattle.block.specs.Block.{put}
use Rattle.block.proofs.Places.{put_none, put_put, length_put, take_put, drop_put}
use Rattle.journal.specs.declared.Entry.{Entry}
use Rattle.journal.specs.declared.Appended.{Appended}
use Rattle.journal.specs.Entries.{spelled}
use Rattle.journal.specs.Journal.{append_number, appended, append_buffer, journal_of, AllFit, Written}
use Rattle.journal.proofs.AnswerLaws.{entry_with_space, entry_accepted, appended_at}

told : (b : List ℕ) (p : ℕ) (e : Entry) → (appended b p e).number ≡ 0 → append_number b p e ≡ 0
unfolding appended
told b p e h = h

-- ---- what they leave

pub written_fit : (b : List ℕ) (p : ℕ) (es : List Entry) (last : List ℕ) (end : ℕ) → Written b p es last end → AllFit es
written_fit b p [] last end w = tt
written_fit b p (e ∷ es) last end w = (
  (entry_accepted b p e (told b p e w.0)).0,
  written_fit (append_buffer b p e) (appended b p e).next es last end w.1,
)

-- The first of them had room.
pub written_room : (b : List ℕ) (p : ℕ) (e : Entry) (es : List Entry) (last : List ℕ) (end : ℕ)
    → Written b p (e ∷ es) last end → p + length (spelled e) ≤ length b
written_room b p e es last end w = (entry_accepted b p e (told b p e w.0)).1

pub written_is : (b : List ℕ) (p : ℕ) (es : List Entry) (last : List ℕ) (end : ℕ) → Written b p es last end
    → take end last ≡ take p b ++ journal_of es
unfolding journal_of
written_is b p [] last end w = (λ i. take (sym w.1 i) (sym w.0 i)) ∙ sym (append-nil (take p b))
written_is b p (e ∷ es) last end w =
    let s = appended_at b p e (told b p e w.0) in
    let h : p ≤ length b = omega (arith, written_room b p e es last end w) in
    written_is (append_buffer b p e) (appended b p e).next es last end w.1
    ∙ (λ i. take (sym s.0 i).next (sym s.1 i) ++ journal_of es)
    ∙ ap (λ (l : List ℕ). l ++ journal_of es) (take_put p (spelled e) b h)
    ∙ append_assoc (take p b) (spelled e) (journal_of es)

written_end : (b : List ℕ) (p : ℕ) (es : List Entry) (last : List ℕ) (end : ℕ) → Written b p es last end
    → end ≡ p + length (journal_of es)
unfolding journal_of
written_end b p [] last end w = omega (arith, w.1)
written_end b p (e ∷ es) last end w =
    omega (
      arith,
      written_end (append_buffer b p e) (appended b p e).next es last end w.1,
      ap (λ (x : Appended). x.next) (appended_at b p e (told b p e w.0)).0,
      length-append (spelled e) (journal_of es),
    )

behind_put : (p k : ℕ) (s d : List ℕ) → p ≤ length d → drop (p + length s + k) (put p s d) ≡ drop (p + length s + k) d
behind_put p k s d h =
    sym (drop-drop k (p + length s) (put p s d)) ∙ ap (drop k) (drop_put p s d h) ∙ drop-drop k (p + length s) d

-- What stands behind them is as it was.
pub written_behind : (b : List ℕ) (p : ℕ) (es : List Entry) (last : List ℕ) (end : ℕ) → Written b p es last end
    → drop end last ≡ drop end b
unfolding journal_of
written_behind b p [] last end w = λ i. drop end (sym w.0 i)
written_behind b p (e ∷ es) last end w =
    let s = appended_at b p e (told b p e w.0) in
    let h : p ≤ length b = omega (arith, written_room b p e es last end w) in
    let q : end ≡ p + length (spelled e) + length (journal_of es) =
    omega (arith, written_end b p (e ∷ es) last end w, length-append (spelled e) (journal_of es)) in
    written_behind (append_buffer b p e) (appended b p e).next es last end w.1
    ∙ (λ i. drop (q i) (sym s.1 i))
    ∙ behind_put p (length (journal_of es)) (spelled e) b h
    ∙ (λ i. drop (sym q i) b)

pub behind_place : (b : List ℕ) (p : ℕ) (es : List Entry) (last : List ℕ) (end : ℕ) → Written b p es last end
    → drop p (take end last) ≡ journal_of es
unfolding journal_of
behind_place b p [] last end w =
    let h : length (take p b) ≤ p = rw length-take (omega arith) in
    (λ i. drop p (take (sym w.1 i) (sym w.0 i))) ∙ drop_of_length-le (take p b) h
behind_place b p (e ∷ es) last end w =
    let h : p ≤ length b = omega (arith, written_room b p e es last end w) in
    ap (drop p) (written_is b p (e ∷ es) last end w) ∙ drop_at (take p b) (journal_of (e ∷ es)) p (length-take-le p b h)

-- ---- all that fit are taken

pub takes : (b : List ℕ) (p : ℕ) (es : List Entry) → AllFit es → p + length (journal_of es) ≤ length b
    → Written b p es (put p (journal_of es) b) (p + length (journal_of es))
unfolding journal_of
takes b p [] f h = (sym (put_none p b), omega arith)
takes b p (e ∷ es) f h =
    let l = length-append (spelled e) (journal_of es) in
    let r : p + length (spelled e) ≤ length b = omega (arith, h, l) in
    let s = appended_at b p e (entry_with_space b p e f.0 r) in
    let end : p + length (spelled e) + length (journal_of es) ≡ p + length (spelled e ++ journal_of es) =
    omega (arith, l) in
    let rest =
    takes (put p (spelled e) b) (p + length (spelled e)) es f.1
    (omega (arith, h, l, length_put p (spelled e) b r)) in (
      sym (ap (λ (x : Appended). x.number) s.0),
      transport
          (λ i. Written (s.1 i) (s.0 i).next es (put_put p (spelled e) (journal_of es) b r i) (end i))
          rest,
    )
