-- Each entry has one spelling: it is bytes, how many, and it is what `read` finds at a place. Assumes nothing.
use Prim.Native.Nat.{ℕ, ◌+◌, ◌-◌, ◌*◌, ◌≤◌}
use mathlib.Core.Bool.{true, ◌&&◌, false≢true}
use mathlib.Core.List.{List, [], ◌∷◌, ◌++◌}
use mathlib.Core.Path.{◌≡◌, refl, sym, ap, subst, ◌∙◌}
use native.Mathlib.Omega.{arith}
use lib.ListN.{length, take, drop, length-append}
use lib.Seq.{take-length}
use Rattle.laws.proofs.Tests.{both}
use Rattle.journal.specs.declared.Entry.{Entry}
use Rattle.journal.specs.declared.EntryAt.{EntryAt}
use Rattle.journal.specs.Numbers.{spelling, Got}
use Rattle.journal.specs.Numbers.Got.{cut, wrong, got}
use Rattle.journal.specs.Entries.{
  Range,
  ticks_range,
  cause_range,
  travel_range,
  ranges,
  numbers_of,
  within,
  fit_all,
  fits,
  spell_all,
  spelled,
  read_entry,
}
use Rattle.journal.specs.Inner.{capacity}
use Rattle.journal.specs.Journal.{answer_at, read_at, Bytes, OneSpelling}
use Rattle.journal.proofs.AnswerLaws.{inside}
use Rattle.journal.proofs.FurtherLaws.{found_inside}
use Rattle.journal.proofs.GroupLaws.{groups_bytes, groups_most}
use Rattle.journal.proofs.RangeLaws.{fit_length, within_most}
use Rattle.journal.proofs.SpellingLaws.{Small, all_small, bytes_drop, its_own, reads}

-- ---- how long it is

three_each : (rs : List Range) (ns : List ℕ) → Small 2097152 rs → fit_all rs ns ≡ true
    → length (spell_all ns) ≤ 3 * length rs
unfolding spell_all fit_all capacity
three_each [] [] s f = omega arith
three_each [] (n ∷ ns) s f = absurd (false≢true f)
three_each (r ∷ rs) [] s f = absurd (false≢true f)
three_each (r ∷ rs) (n ∷ ns) s f =
    let a = both (within r n) (fit_all rs ns) f in
    rw (length-append (spelling n) (spell_all ns))
    (omega (
      arith,
      groups_most 2 6 n (omega (arith, within_most r n a.0, s.0)),
      three_each rs ns s.1 a.1,
    ))

abbrev travels : List Range
travels = travel_range ∷ travel_range ∷ travel_range ∷ travel_range ∷ travel_range ∷ []

seven_one_fifteen : (ns : List ℕ) → fit_all ranges ns ≡ true → length (spell_all ns) ≤ 23
unfolding spell_all fit_all capacity
seven_one_fifteen [] f = absurd (false≢true f)
seven_one_fifteen (t ∷ []) f = absurd (omega (arith, fit_length ranges (t ∷ []) f))
seven_one_fifteen (t ∷ c ∷ ns) f =
    let a = both (within ticks_range t) (within cause_range c && fit_all travels ns) f in
    let b = both (within cause_range c) (fit_all travels ns) a.1 in
    let small : Small 2097152 travels = (omega arith, (omega arith, (omega arith, (omega arith, (omega arith, tt))))) in
    rw (length-append (spelling t) (spelling c ++ spell_all ns), length-append (spelling c) (spell_all ns))
    (omega (
      arith,
      groups_most 6 6 t (omega (arith, within_most ticks_range t a.0)),
      groups_most 0 6 c (omega (arith, within_most cause_range c b.0)),
      three_each travels ns small b.1,
    ))

-- ---- it is bytes

bytes_append : (bs ds : List ℕ) → Bytes bs → Bytes ds → Bytes (bs ++ ds)
bytes_append [] ds h k = k
bytes_append (b ∷ bs) ds h k = (h.0, bytes_append bs ds h.1 k)

bytes_all : (rs : List Range) (ns : List ℕ) → Small 562949953421312 rs → fit_all rs ns ≡ true → Bytes (spell_all ns)
unfolding spell_all fit_all capacity
bytes_all [] [] s f = tt
bytes_all [] (n ∷ ns) s f = absurd (false≢true f)
bytes_all (r ∷ rs) [] s f = absurd (false≢true f)
bytes_all (r ∷ rs) (n ∷ ns) s f =
    let a = both (within r n) (fit_all rs ns) f in
    bytes_append (spelling n) (spell_all ns)
    (groups_bytes 6 n (omega (arith, within_most r n a.0, s.0)))
    (bytes_all rs ns s.1 a.1)

-- ---- what is read at a place

at_a_place : (bytes : List ℕ) (at : ℕ) → Bytes bytes → (read_at bytes at).found ≡ true
    → (take ((read_at bytes at).next - at) (drop at bytes) ≡ spelled (read_at bytes at).entry)
    × (fits (read_at bytes at).entry ≡ true)
at_a_place bytes at h f =
    let i = inside bytes at (found_inside bytes [] at f) in
    subst
    (λ (x : EntryAt). (take (x.next - at) (drop at bytes) ≡ spelled x.entry) × (fits x.entry ≡ true))
    (sym i) (each (read_entry (drop at bytes)) refl (sym (ap (λ (x : EntryAt). x.found) i) ∙ f))
  where
    each : (g : Got Entry) → read_entry (drop at bytes) ≡ g → (answer_at at g).found ≡ true
        → (take ((answer_at at g).next - at) (drop at bytes) ≡ spelled (answer_at at g).entry)
        × (fits (answer_at at g).entry ≡ true)
    each cut p q = absurd (false≢true q)
    each wrong p q = absurd (false≢true q)
    each (got e used) p q =
        let o = its_own (drop at bytes) e used (bytes_drop at bytes h) p in
        let n : at + used - at ≡ used = omega arith in
        (ap (λ (k : ℕ). take k (drop at bytes)) n ∙ o.0, o.1.1)

pub one_spelling : OneSpelling
one_spelling = record {
  its_own = its_own;
  reads = reads;
  one = λ bs ds e h k p q.
      sym (take-length bs) ∙ (its_own bs e (length bs) h p).0 ∙ sym (its_own ds e (length ds) k q).0 ∙ take-length ds;
  at_a_place = at_a_place;
  refused_alike = λ bs e used h n p. false≢true (sym n ∙ (its_own bs e used h p).1.1);
  bytes = λ e f. bytes_all ranges (numbers_of e) all_small f;
  short = λ e f. seven_one_fifteen (numbers_of e) f;
}
