-- What reads as an entry is its spelling, and its spelling reads as it. Assumes nothing.
use Prim.Native.Nat.{ℕ, zero, suc, ◌+◌, ◌<◌}
use mathlib.Core.Bool.{true, false≢true}
use mathlib.Core.List.{List, [], ◌∷◌, ◌++◌, append_assoc}
use mathlib.Core.Path.{◌≡◌, refl, sym, ap, ◌∙◌}
use native.Mathlib.Omega.{arith}
use lib.ListN.{length, take, drop, length-append}
use lib.Seq.{take-add, drop-append_seam}
use Rattle.laws.proofs.Pick.{by_bool}
use Rattle.laws.proofs.Tests.{both}
use Rattle.journal.specs.declared.Entry.{Entry}
use Rattle.journal.specs.Numbers.{spelling, Got, found}
use Rattle.journal.specs.Numbers.Got.{cut, wrong, got}
use Rattle.journal.specs.Entries.{
  Range,
  ranges,
  numbers_of,
  entry_from,
  within,
  fit_all,
  fits,
  spell_all,
  spelled,
  ranged,
  before,
  behind,
  read_all,
  as_entry,
  read_entry,
}
use Rattle.journal.specs.Inner.{capacity}
use Rattle.journal.specs.Journal.{Bytes}
use Rattle.journal.proofs.GroupLaws.{Spelled, found_spelled, groups_read}
use Rattle.journal.proofs.JudgeLaws.{Fit, read_fit}
use Rattle.journal.proofs.RangeLaws.{fit_length, within_most}
use Rattle.journal.proofs.SignLaws.{signed_all, stored_all}

-- ---- an entry and its numbers

numbers_entry : (ns : List ℕ) → length ns ≡ 7 → numbers_of (entry_from ns) ≡ ns
numbers_entry [] e = absurd (omega arith)
numbers_entry (a ∷ []) e = absurd (omega arith)
numbers_entry (a ∷ b ∷ ns) e = λ i. a ∷ b ∷ stored_all ns i

entry_numbers : (e : Entry) → entry_from (numbers_of e) ≡ e
entry_numbers e = λ i. record { ticks = e.ticks; cause = e.cause; travels = signed_all e.travels i }

-- ---- what is read is a spelling

pub bytes_drop : (n : ℕ) (bs : List ℕ) → Bytes bs → Bytes (drop n bs)
bytes_drop zero bs h = h
bytes_drop (suc n) [] h = tt
bytes_drop (suc n) (b ∷ bs) h = bytes_drop n bs h.1

abbrev SpelledAll : List ℕ → Got (List ℕ) → Type 0
SpelledAll bs cut = Unit
SpelledAll bs wrong = Unit
SpelledAll bs (got ns used) = (take used bs ≡ spell_all ns) × (used ≡ length (spell_all ns))

spelled_before : (bs : List ℕ) (n used : ℕ) → take used bs ≡ spelling n → used ≡ length (spelling n)
    → (g : Got (List ℕ)) → SpelledAll (drop used bs) g → SpelledAll bs (before n used g)
unfolding spell_all
spelled_before bs n used p q cut s = tt
spelled_before bs n used p q wrong s = tt
spelled_before bs n used p q (got ns more) s = (
  take-add used more bs ∙ (λ i. p i ++ s.0 i),
  (λ i. q i + s.1 i) ∙ sym (length-append (spelling n) (spell_all ns)),
)

read_spelled : (rs : List Range) (bs : List ℕ) → Bytes bs → SpelledAll bs (read_all rs bs)
unfolding read_all spell_all
read_spelled [] bs h = (refl, refl)
read_spelled (r ∷ rs) bs h =
    step (found 6 bs) (found_spelled 6 bs h) (λ used. read_spelled rs (drop used bs) (bytes_drop used bs h))
  where
    step : (g : Got ℕ) → Spelled 6 bs g → ((used : ℕ) → SpelledAll (drop used bs) (read_all rs (drop used bs)))
        → SpelledAll bs (behind (ranged r g) (λ used. read_all rs (drop used bs)))
    step cut s f = tt
    step wrong s f = tt
    step (got n used) s f =
        by_bool (λ (g : Got ℕ). SpelledAll bs (behind g (λ used. read_all rs (drop used bs)))) (within r n) (got n used)
        wrong (λ w. spelled_before bs n used s.0 s.1 (read_all rs (drop used bs)) (f used)) (λ w. tt)

own : (bs : List ℕ) (e : Entry) (used : ℕ) (g : Got (List ℕ)) → SpelledAll bs g → Fit ranges g
    → as_entry g ≡ got e used → (take used bs ≡ spelled e) × ((used ≡ length (spelled e)) × (fits e ≡ true))
own bs e used cut s f p = let z : ◌≡◌ {A = ℕ} 0 1 = cc in absurd (omega arith)
own bs e used wrong s f p = let z : ◌≡◌ {A = ℕ} 0 1 = cc in absurd (omega arith)
own bs e used (got ns u) s f p =
    let a : entry_from ns ≡ e = cc in
    let b : u ≡ used = cc in
    let n : ns ≡ numbers_of e = sym (numbers_entry ns (fit_length ranges ns f)) ∙ ap numbers_of a in (
      ap (λ (x : ℕ). take x bs) (sym b) ∙ s.0 ∙ ap spell_all n,
      (sym b ∙ s.1 ∙ ap (λ (l : List ℕ). length (spell_all l)) n, ap (fit_all ranges) (sym n) ∙ f),
    )

pub its_own : (bs : List ℕ) (e : Entry) (used : ℕ) → Bytes bs → read_entry bs ≡ got e used
    → (take used bs ≡ spelled e) × ((used ≡ length (spelled e)) × (fits e ≡ true))
its_own bs e used h p = own bs e used (read_all ranges bs) (read_spelled ranges bs h) (read_fit ranges bs) p

-- ---- a spelling is read

-- Ranges below a bound.
abbrev pub Small : ℕ → List Range → Type 0
Small bound [] = Unit
Small bound (r ∷ rs) = (r.most < bound) × Small bound rs

pub all_small : Small 562949953421312 ranges
all_small = (omega arith, (omega arith, (omega arith, (omega arith, (omega arith, (omega arith, (omega arith, tt)))))))

spelled_read : (rs : List Range) (ns rest : List ℕ) → Small 562949953421312 rs → fit_all rs ns ≡ true
    → read_all rs (spell_all ns ++ rest) ≡ got ns (length (spell_all ns))
unfolding read_all spell_all fit_all capacity
spelled_read [] [] rest s f = refl
spelled_read [] (n ∷ ns) rest s f = absurd (false≢true f)
spelled_read (r ∷ rs) [] rest s f = absurd (false≢true f)
spelled_read (r ∷ rs) (n ∷ ns) rest s f =
    let w : within r n ≡ true = (both (within r n) (fit_all rs ns) f).0 in
    let small : n < 562949953421312 = omega (arith, within_most r n w, s.0) in
    let less = spelled_read rs ns rest s.1 (both (within r n) (fit_all rs ns) f).1 in
    rw (append_assoc (spelling n) (spell_all ns) rest)
    ((λ i. behind (ranged r (groups_read 6 n (spell_all ns ++ rest) small i))
    (λ used. read_all rs (drop used (spelling n ++ (spell_all ns ++ rest)))))
    ∙ rw (w, drop-append_seam (spelling n) (spell_all ns ++ rest), less, length-append (spelling n) (spell_all ns)))

pub reads : (e : Entry) (rest : List ℕ) → fits e ≡ true → read_entry (spelled e ++ rest) ≡ got e (length (spelled e))
reads e rest f =
    ap as_entry (spelled_read ranges (numbers_of e) rest all_small f)
    ∙ ap (λ (x : Entry). got x (length (spelled e))) (entry_numbers e)
