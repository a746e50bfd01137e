-- Laws of what appending and reading answer, one for each way through the code. Assumes nothing.
use Rattle.std.proofs.Common.{Result, Ok, Err}
use Prim.Native.Nat.{ℕ, ◌+◌, ◌≤◌, ◌<◌}
use mathlib.Core.Bool.{Bool, true, false, cond}
use mathlib.Core.List.{List}
use mathlib.Core.Path.{◌≡◌, refl, sym, ap, ◌∙◌}
use borrow.Author.Tests.{le-leb, lt-leb, leb-true}
use lib.Dec.{leb, eqb}
use lib.ListN.{length, drop}
use Rattle.block.specs.Block.{room, put}
use Rattle.journal.specs.declared.Entry.{Entry}
use Rattle.journal.specs.declared.Appended.{Appended}
use Rattle.journal.specs.declared.EntryAt.{EntryAt}
use Rattle.journal.specs.declared.Found.{Found}
use Rattle.journal.specs.declared.Refusal.{Refusal}
use Rattle.journal.specs.declared.Refusal.TheVariants.{NoSpace, CutShort, Wrong}
use Rattle.journal.specs.Numbers.{Got}
use Rattle.journal.specs.Numbers.Got.{cut, wrong, got}
use Rattle.journal.specs.Entries.{ranges, numbers_of, fit_all, spell_all, spelled, fits, entry_from, as_entry, read_all, read_entry}
use Rattle.journal.specs.Journal.{append_number, appended, append_buffer, nothing_at, answer_at, read_at}
use Rattle.journal.specs.Inner.{refusal_number, taken, found_at}
use Rattle.journal.proofs.JudgeLaws.{Fit, read_fit, read_is}

-- ---- appending

-- The number of what was taken or not.
abbrev number_of : Result Unit Refusal → ℕ
number_of (Ok x) = 0
number_of (Err n) = refusal_number n

module _ (size at : ℕ) (ns : List ℕ) where
  pub with_space : fit_all ranges ns ≡ true → at + length (spell_all ns) ≤ size → taken size at ns ≡ Ok tt
  with_space f h = rw (f, le-leb (at + length (spell_all ns)) size h)

  -- Numbers that nothing refuses fit and have room.
  pub accepted : taken size at ns ≡ Ok tt → (fit_all ranges ns ≡ true) × (at + length (spell_all ns) ≤ size)
  accepted h = split (fit_all ranges ns) refl (leb (at + length (spell_all ns)) size) refl
    where
      split : (f : Bool) → fit_all ranges ns ≡ f → (r : Bool) → leb (at + length (spell_all ns)) size ≡ r
          → (fit_all ranges ns ≡ true) × (at + length (spell_all ns) ≤ size)
      split true f true r = (f, leb-true (at + length (spell_all ns)) size r)
      split true f false r = let k = rw (f, r) at h in cc
      split false f t r = let k = rw f at h in cc

module _ (d : List ℕ) (at : ℕ) (e : Entry) where
  number_is : append_number d at e ≡ number_of (taken (length d) at (numbers_of e))
  number_is = told (fits e) (room at (spelled e) d)
    where
      told : (f r : Bool) → cond f (cond r 0 22) 24 ≡ number_of (cond f (cond r (Ok tt) (Err NoSpace)) (Err Wrong))
      told true true = refl
      told true false = refl
      told false r = refl

  pub taken_number : taken (length d) at (numbers_of e) ≡ Ok tt → append_number d at e ≡ 0
  taken_number p = number_is ∙ ap number_of p

  -- The entry's own numbers.
  pub entry_with_space : fits e ≡ true → at + length (spelled e) ≤ length d → append_number d at e ≡ 0
  entry_with_space f h = taken_number (with_space (length d) at (numbers_of e) f h)

  pub entry_accepted : append_number d at e ≡ 0 → (fits e ≡ true) × (at + length (spelled e) ≤ length d)
  entry_accepted h = when (taken (length d) at (numbers_of e)) refl
    where
      some : (n : Refusal) → (refusal_number n ≡ 0 → ⊥)
      some NoSpace z = cc
      some CutShort z = cc
      some Wrong z = cc

      when : (t : Result Unit Refusal) → taken (length d) at (numbers_of e) ≡ t
          → (fits e ≡ true) × (at + length (spelled e) ≤ length d)
      when (Ok tt) q = accepted (length d) at (numbers_of e) q
      when (Err n) q = absurd (some n (sym (ap number_of q) ∙ sym number_is ∙ h))

  pub appended_not : (n : Refusal) → taken (length d) at (numbers_of e) ≡ Err n
      → (◌≡◌ {A = Appended} (record { next = at; number = refusal_number n }) (appended d at e))
      × (d ≡ append_buffer d at e)
  unfolding appended append_buffer
  appended_not n p =
      let k : append_number d at e ≡ refusal_number n = number_is ∙ ap number_of p in
      let z = ap (λ (x : ℕ). eqb x 0) k ∙ some n in
      (rw (z, k), rw z)
    where
      some : (n : Refusal) → eqb (refusal_number n) 0 ≡ false
      some NoSpace = refl
      some CutShort = refl
      some Wrong = refl

  pub appended_at : append_number d at e ≡ 0
      → (◌≡◌ {A = Appended} (record { next = at + length (spelled e); number = 0 }) (appended d at e))
      × (put at (spelled e) d ≡ append_buffer d at e)
  unfolding appended append_buffer
  appended_at z = (rw z, rw z)

-- ---- reading

pub at_end : (bytes : List ℕ) (at : ℕ) → length bytes ≤ at → nothing_at at 0 ≡ read_at bytes at
unfolding read_at
at_end bytes at h = rw (le-leb (length bytes) at h)

pub inside : (bytes : List ℕ) (at : ℕ) → at < length bytes → read_at bytes at ≡ answer_at at (read_entry (drop at bytes))
unfolding read_at
inside bytes at h = rw (lt-leb (length bytes) at h)

module _ (at : ℕ) where
  refused : (g : Got (List ℕ)) (n : Refusal) → Err n ≡ found_at at g
      → nothing_at at (refusal_number n) ≡ answer_at at (as_entry g)
  refused cut n e = let q : n ≡ CutShort = cc in rw q
  refused wrong n e = let q : n ≡ Wrong = cc in rw q
  refused (got ns used) n e = cc

  taken_is : (g : Got (List ℕ)) (all : Found (List ℕ)) → Ok all ≡ found_at at g
      → ◌≡◌ {A = EntryAt} (record { entry = entry_from all.value; next = all.next; found = true; number = 0 })
      (answer_at at (as_entry g))
  taken_is cut all e = cc
  taken_is wrong all e = cc
  taken_is (got ns used) all e =
      let q = sym (read_is ns (at + used) all e) in
      λ i. record { entry = entry_from (q i).value; next = (q i).next; found = true; number = 0 }

  values_fit : (g : Got (List ℕ)) → Fit ranges g → (all : Found (List ℕ)) → Ok all ≡ found_at at g
      → fit_all ranges all.value ≡ true
  values_fit cut f all e = cc
  values_fit wrong f all e = cc
  values_fit (got ns used) f all e =
      ap (λ (x : Found (List ℕ)). fit_all ranges x.value) (sym (read_is ns (at + used) all e)) ∙ f

module _ (bytes : List ℕ) (at : ℕ) where
  pub read_refused : (n : Refusal) → Err n ≡ found_at at (read_all ranges (drop at bytes)) → at < length bytes
      → nothing_at at (refusal_number n) ≡ read_at bytes at
  read_refused n e h = refused at (read_all ranges (drop at bytes)) n e ∙ sym (inside bytes at h)

  module _ (all : Found (List ℕ)) (e : Ok all ≡ found_at at (read_all ranges (drop at bytes))) where
    pub read_taken : at < length bytes
        → ◌≡◌ {A = EntryAt} (record { entry = entry_from all.value; next = all.next; found = true; number = 0 })
        (read_at bytes at)
    read_taken h = taken_is at (read_all ranges (drop at bytes)) all e ∙ sym (inside bytes at h)

    pub read_values : fit_all ranges all.value ≡ true
    read_values = values_fit at (read_all ranges (drop at bytes)) (read_fit ranges (drop at bytes)) all e
