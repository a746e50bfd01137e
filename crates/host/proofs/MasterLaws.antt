-- The picked master is the longest of the five, of equals the lowest, and 0 if all are 0. Assumes nothing.
use Prim.Native.Nat.{ℕ, zero, suc, ◌+◌, ◌≤◌, ◌<◌}
use native.Mathlib.Omega.{arith}
use native.Mathlib.Nat.{lt_of_lt_of_le}
use mathlib.Core.Bool.{Bool, true, false, cond, false≢true}
use mathlib.Core.List.{List}
use mathlib.Core.Path.{◌≡◌, refl, sym, ◌∙◌}
use borrow.Author.Tests.{le-ltb, ltb-true, ltb-false, leb-true, leb-false, not-true, not-false}
use lib.Dec.{ltb, leb}
use lib.ListN.{get_or}
use Rattle.laws.specs.Axes.{some}
use Rattle.laws.proofs.Five.{five}
use Rattle.laws.proofs.Pick.{by_bool, by_eq}
use Rattle.laws.proofs.Some.{none_of}
use Rattle.host.specs.Master.{is_longest, master_of, Longest}

-- ---- tests of the five axes

record Found (f : ℕ → Bool) : Type 0 where
  axis : ℕ
  low : axis < 5
  has : f axis ≡ true

found : (f : ℕ → Bool) → some f ≡ true → Found f
found f e = first (f 0) refl
  where
    last : f 0 ≡ false → f 1 ≡ false → f 2 ≡ false → f 3 ≡ false → Found f
    last a b c d = record { axis = 4; low = omega arith; has = rw (a, b, c, d) at e }

    fourth : (t : Bool) → f 3 ≡ t → f 0 ≡ false → f 1 ≡ false → f 2 ≡ false → Found f
    fourth true p a b c = record { axis = 3; low = omega arith; has = p }
    fourth false p a b c = last a b c p

    third : (t : Bool) → f 2 ≡ t → f 0 ≡ false → f 1 ≡ false → Found f
    third true p a b = record { axis = 2; low = omega arith; has = p }
    third false p a b = fourth (f 3) refl a b p

    next : (t : Bool) → f 1 ≡ t → f 0 ≡ false → Found f
    next true p a = record { axis = 1; low = omega arith; has = p }
    next false p a = third (f 2) refl a p

    first : (t : Bool) → f 0 ≡ t → Found f
    first true p = record { axis = 0; low = omega arith; has = p }
    first false p = next (f 1) refl p

-- ---- longest, by the test and by the lengths

module _ (d : List ℕ) where
  abbrev Over : ℕ → Type 0
  Over k = (j : ℕ) → j < 5 → get_or d j 0 ≤ get_or d k 0

  over : (k : ℕ) → is_longest d k ≡ true → Over k
  over k e j h =
      ltb-false (get_or d k 0) (get_or d j 0)
      (none_of (λ (i : ℕ). ltb (get_or d k 0) (get_or d i 0))
      (not-true (some (λ i. ltb (get_or d k 0) (get_or d i 0))) e) j h)

  is_over : (k : ℕ) → Over k → is_longest d k ≡ true
  is_over k o =
      rw (
        le-ltb (get_or d k 0) (get_or d 0 0) (o 0 (omega arith)),
        le-ltb (get_or d k 0) (get_or d 1 0) (o 1 (omega arith)),
        le-ltb (get_or d k 0) (get_or d 2 0) (o 2 (omega arith)),
        le-ltb (get_or d k 0) (get_or d 3 0) (o 3 (omega arith)),
        le-ltb (get_or d k 0) (get_or d 4 0) (o 4 (omega arith)),
      )

  -- An axis that is not the longest is shorter than any that is.
  shorter : (k m : ℕ) → is_longest d k ≡ false → Over m → get_or d k 0 < get_or d m 0
  shorter k m e o =
      let f = found (λ (i : ℕ). ltb (get_or d k 0) (get_or d i 0))
      (not-false (some (λ i. ltb (get_or d k 0) (get_or d i 0))) e) in
      lt_of_lt_of_le (ltb-true (get_or d k 0) (get_or d f.axis 0) f.has) (o f.axis f.low)

  -- ---- some axis is the longest

  record Best (n : ℕ) : Type 0 where
    axis : ℕ
    low : axis ≤ n
    over_all : (j : ℕ) → j ≤ n → get_or d j 0 ≤ get_or d axis 0

  best : (n : ℕ) → Best n
  best zero = record { axis = 0; low = omega arith; over_all = λ j h. same j h }
    where
      same : (j : ℕ) → j ≤ 0 → get_or d j 0 ≤ get_or d 0 0
      same zero h = omega arith
      same (suc j) h = absurd (omega arith)
  best (suc n) = more (best n)
    where
      more : Best n → Best (suc n)
      more b = when (leb (get_or d (suc n) 0) (get_or d b.axis 0)) refl
        where
          old : get_or d (suc n) 0 ≤ get_or d b.axis 0 → (j : ℕ) → (t : Bool) → leb j n ≡ t → j ≤ suc n
              → get_or d j 0 ≤ get_or d b.axis 0
          old h j true e l = b.over_all j (leb-true j n e)
          old h j false e l =
              let k = leb-false j n e in
              let same : j ≡ suc n = omega arith in
              rw same h

          new : get_or d b.axis 0 < get_or d (suc n) 0 → (j : ℕ) → (t : Bool) → leb j n ≡ t → j ≤ suc n
              → get_or d j 0 ≤ get_or d (suc n) 0
          new h j true e l = let k = b.over_all j (leb-true j n e) in omega arith
          new h j false e l =
              let k = leb-false j n e in
              let same : j ≡ suc n = omega arith in
              rw same (omega arith)

          when : (t : Bool) → leb (get_or d (suc n) 0) (get_or d b.axis 0) ≡ t → Best (suc n)
          when true e = record {
            axis = b.axis;
            low = let h = b.low in omega arith;
            over_all = λ j. old (leb-true (get_or d (suc n) 0) (get_or d b.axis 0) e) j (leb j n) refl;
          }
          when false e = record {
            axis = suc n;
            low = omega arith;
            over_all = λ j. new (leb-false (get_or d (suc n) 0) (get_or d b.axis 0) e) j (leb j n) refl;
          }

  -- ---- the lowest axis that is

  -- No axis below k is the longest.
  abbrev pub Passed : ℕ → Type 0
  Passed k = (j : ℕ) → j < k → is_longest d j ≡ false

  none_passed : Passed 0
  none_passed j h = absurd (omega arith)

  pub passed_more : (k : ℕ) → Passed k → is_longest d k ≡ false → Passed (k + 1)
  passed_more k p e j h =
      by_eq {A = ℕ} (λ (_ : ℕ). is_longest d j ≡ false) j k 0 0 (λ q. rw q e) (λ q. p j (omega (arith, q)))

  pub first_longest : (k : ℕ) → k < 5 → is_longest d k ≡ true → Passed k → Longest d k
  first_longest k h e p =
      record { axis = h; longest = over k e; lowest = λ j l. shorter j k (p j l) (over k e) }

  pub last_is : Passed 4 → is_longest d 4 ≡ true
  last_is p =
      is_over 4 (five (λ (k : ℕ). Over k → Over 4) (other 0 (omega arith)) (other 1 (omega arith))
      (other 2 (omega arith)) (other 3 (omega arith)) (λ o. o) (best 4).axis (let h = (best 4).low in omega arith)
      (λ j h. (best 4).over_all j (omega arith)))
    where
      other : (k : ℕ) → k < 4 → Over k → Over 4
      other k h o = absurd (false≢true (sym (p k h) ∙ is_over k o))

  pub first_master : (k : ℕ) → k < 5 → is_longest d k ≡ true → Passed k → k ≡ master_of d
  unfolding master_of
  first_master =
      five (λ (k : ℕ). is_longest d k ≡ true → Passed k → k ≡ master_of d)
      (λ e p. rw e)
      (λ e p. rw (p 0 (omega arith), e))
      (λ e p. rw (p 0 (omega arith), p 1 (omega arith), e))
      (λ e p. rw (p 0 (omega arith), p 1 (omega arith), p 2 (omega arith), e))
      (λ e p. rw (p 0 (omega arith), p 1 (omega arith), p 2 (omega arith), p 3 (omega arith)))

  pub master_longest : Longest d (master_of d)
  unfolding master_of
  master_longest =
      pick 0 (omega arith) none_passed
      λ a. pick 1 (omega arith) a
      λ b. pick 2 (omega arith) b
      λ c. pick 3 (omega arith) c
      λ e. first_longest 4 (omega arith) (last_is e) e
    where
      pick : (k : ℕ) {rest : ℕ} → k < 5 → Passed k → (Passed (k + 1) → Longest d rest)
          → Longest d (cond (is_longest d k) k rest)
      pick k {rest} h p q =
          by_bool (Longest d) (is_longest d k) k rest (λ e. first_longest k h e p) (λ e. q (passed_more k p e))

  pub master_none : ((j : ℕ) → j < 5 → get_or d j 0 ≡ 0) → master_of d ≡ 0
  unfolding master_of
  master_none z =
      rw (is_over 0 (λ j h. let p = z j h in let q = z 0 (omega arith) in omega arith))
