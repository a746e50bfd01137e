-- Paper 02, 1/14, for every list of calls: the tick that ends a move, and no other call, answers its entry, and the
-- journal takes it. Assumes nothing.
use Prim.Native.Nat.{ℕ, zero, suc, ◌+◌, ◌^◌, ◌≤◌, ◌<◌}
use mathlib.Core.Bool.{Bool, true, false, cond, ◌&&◌, ◌||◌}
use mathlib.Core.List.{List, [], ◌∷◌}
use mathlib.Core.Path.{◌≡◌, refl, sym, subst, ◌∙◌}
use native.Mathlib.Omega.{arith}
use borrow.Author.Tests.{le-leb}
use lib.Dec.{eqb}
use lib.IntN.{ℤ}
use Rattle.laws.specs.Axes.{each, directed}
use Rattle.laws.specs.Bits.{weight}
use Rattle.laws.proofs.Tests.{true_false, both}
use Rattle.journal.specs.Numbers.{stored}
use Rattle.journal.specs.Entries.{Range, ticks_range, cause_range, travel_range, within, fit_all, fits}
use Rattle.machine.specs.Calls.{Call, byte, tick, state}
use Rattle.machine.specs.Roles.{begins, is_taken}
use Rattle.machine.specs.List.{effect, master, minus, counted, goes_on, ends, whole}
use Rattle.machine.specs.Journal.{ticks_since, moved, move_entry, latest_entry, Journal}
use Rattle.machine.proofs.FitLaws.{fits as in_range_lem}
use Rattle.machine.proofs.ListLaws.{told}
use Rattle.machine.proofs.MovedLaws.{moved_is}
use Rattle.machine.proofs.JournalLaws.{entered_on, adds, ticks_run, ticks_next, ending, ending_is, answered_tick}

and_true : (a b : Bool) → a ≡ true → b ≡ true → a && b ≡ true
and_true a b p q = (λ i. p i && b) ∙ q

within_is : (r : Range) (n : ℕ) → r.least ≤ n → n ≤ r.most → within r n ≡ true
within_is r n l h = and_true _ _ (le-leb r.least n l) (le-leb n r.most h)

-- A travel as it is stored.
stored_small : (b : Bool) (n : ℕ) → n ≤ 524287 → stored (directed b n) ≤ 1048574
stored_small true zero h = omega arith
stored_small true (suc n) h = omega (arith, h)
stored_small false n h = omega (arith, h)

fits_is : (t c : ℕ) (f : ℕ → ℤ) → 1 ≤ t → t ≤ ticks_range.most → c ≤ 1 → ((k : ℕ) → k < 5 → stored (f k) ≤ 1048574)
    → fits (record { ticks = t; cause = c; travels = each f }) ≡ true
unfolding fit_all
fits_is t c f l h q z =
    and_true _ _ (within_is ticks_range t l h) (and_true _ _ (within_is cause_range c (omega arith) q)
    (and_true _ _ (one 0 (omega arith)) (and_true _ _ (one 1 (omega arith)) (and_true _ _ (one 2 (omega arith))
    (and_true _ _ (one 3 (omega arith)) (and_true _ _ (one 4 (omega arith)) refl))))))
  where
    one : (k : ℕ) → k < 5 → within travel_range (stored (f k)) ≡ true
    one k l = within_is travel_range (stored (f k)) (omega arith) (z k l)

-- ---- The ticks

-- A running move's ticks are at most 50,000,000 × m and its phase, and so under 50,000,000 × M.
running_small : (s : ℕ) (h : List Call) → (state s h).move.moving ≡ true → (state s h).move.ticks < ticks_range.most
running_small s h e =
    let f = (in_range_lem s h).move in
    let t = f.ticks e in
    let u = f.good.under e in
    let d = f.plan (state s h).move.master f.master in
    let p = f.phase in
    omega (arith, t, u, d, p)

-- One tick more, the ending one.
ticks_small : (B R : Bool) (n w : ℕ) → B || R ≡ true → w ≤ 1 → (R ≡ true → n < ticks_range.most)
    → cond B 0 n + w ≤ ticks_range.most
ticks_small true R n w q l h = omega (arith, l)
ticks_small false R n w q l h = let k = h q in omega (arith, l, k)

weight_small : (b : Bool) → weight b 1 ≤ 1
weight_small true = omega arith
weight_small false = omega arith

module _ (s : ℕ) (h : List Call) (w : ℕ) (d : List ℕ) (e : ending s h w d ≡ true) where
  runs : begins (effect s h (tick w d)) || (state s h).move.moving ≡ true
  runs = (both _ _ e).0

  -- The ticks of the list, by those of the machine before the tick.
  ticks_are : cond (begins (effect s h (tick w d))) 0 (state s h).move.ticks + weight (is_taken (tick w d)) 1
      ≡ ticks_since s (tick w d ∷ h)
  ticks_are = sym (adds s h (tick w d) runs) ∙ ticks_next s h (tick w d) runs

  ticks_least : 1 ≤ ticks_since s (tick w d ∷ h)
  ticks_least =
      subst (λ (n : ℕ). 1 ≤ n) ticks_are (let t = (entered_on s h w d).taken e in omega (arith, t))

  ticks_most : ticks_since s (tick w d ∷ h) ≤ ticks_range.most
  ticks_most =
      subst (λ (n : ℕ). n ≤ ticks_range.most) ticks_are
      (ticks_small (begins (effect s h (tick w d))) (state s h).move.moving _ _ runs
      (weight_small (is_taken (tick w d))) (running_small s h))

-- ---- The travels

travel_small : (s : ℕ) (h : List Call) (k : ℕ) → k < 5 → stored (moved s h k) ≤ 1048574
travel_small s h k l =
    subst (λ (z : ℤ). stored z ≤ 1048574) (sym (moved_is s h k l))
    (stored_small (minus s h k) (counted s h k) (subst (λ (n : ℕ). n ≤ 524287) ((told s h).counts k l)
    (let f = (in_range_lem s h).move in let t = f.within k l in let d = f.plan k l in omega (arith, t, d))))

cause_small : (b : Bool) → cond b 0 1 ≤ 1
cause_small true = omega arith
cause_small false = omega arith

taken_tick : (s : ℕ) (h : List Call) (w : ℕ) (d : List ℕ) → ends s (tick w d ∷ h) ≡ true
    → fits (move_entry s (tick w d ∷ h)) ≡ true
taken_tick s h w d e =
    let q = ending_is s h w d ∙ e in
    fits_is (ticks_since s (tick w d ∷ h)) _ (moved s (tick w d ∷ h)) (ticks_least s h w d q) (ticks_most s h w d q)
    (cause_small (eqb (counted s (tick w d ∷ h) (master s (tick w d ∷ h))) (whole s (tick w d ∷ h))))
    (travel_small s (tick w d ∷ h))

-- A move under way: its count is the list's.
counts_run : (s : ℕ) (h : List Call) → goes_on s h ≡ true
    → ((state s h).move.ticks ≡ ticks_since s h) × (ticks_since s h < 2 ^ 45)
counts_run s h g =
    let e = (told s h).goes ∙ g in
    let t = ticks_run s h e in
    (t, subst (λ (n : ℕ). n < 2 ^ 45) t (let l = running_small s h e in omega (arith, l)))

pub journal_is : Journal
unfolding latest_entry ends
journal_is s [] = record { answered = refl; taken = λ q. true_false false q refl; counts = counts_run s [] }
journal_is s (byte b buffer ∷ h) = record {
  answered = refl;
  taken = λ q. true_false false q refl;
  counts = counts_run s (byte b buffer ∷ h);
}
journal_is s (tick w d ∷ h) = record {
  answered = answered_tick s h w d;
  taken = taken_tick s h w d;
  counts = counts_run s (tick w d ∷ h);
}
