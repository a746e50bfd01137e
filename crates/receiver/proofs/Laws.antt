-- The receiver against the characters received since the last 0D, however many: what it holds of them after one more,
-- and at the line's end. Assumes nothing.
use Rattle.std.specs.List.{fold}
use Rattle.std.specs.List.{prefix_len}
use Rattle.std.proofs.Common.{None}
use Prim.Native.Nat.{ℕ, zero, suc, min, ◌+◌, ◌-◌, ◌≤◌, ◌<◌}
use native.Mathlib.Omega.{arith}
use mathlib.Core.Bool.{Bool, true, false, cond, not}
use mathlib.Core.List.{List, [], ◌∷◌, ◌++◌, append-nil}
use mathlib.Core.Path.{◌≡◌, refl, sym, ap, ◌∙◌}
use lib.Dec.{eqb}
use lib.ListN.{length, get_or, take, drop, replicate, length-take}
use lib.Seq.{take_all, take_at, drop-cons, append_snoc, get_or-take}
use borrow.Author.Tests.{ne_eqb}
use Rattle.laws.proofs.Pick.{on_le, by_bool, by_le}
use Rattle.line.specs.Line.{silent_of, ident_of, judge_of}
use Rattle.line.proofs.Laws.{too_long}
use Rattle.receiver.specs.declared.Receiver.{Receiver}
use Rattle.receiver.specs.declared.Gathered.{Gathered}
use Rattle.receiver.specs.declared.Taken.{Taken}
use Rattle.receiver.specs.Receiver.{
  Receipt,
  heard_line,
  receive,
  before,
  before_end,
  holding,
  held_taken,
  held_gathered,
  Holding,
  kept,
  heard_of,
  push_of,
  taken_of,
  push_all,
  gathered_of,
  line_heard,
}
use Rattle.receiver.proofs.KeepLaws.{full_chars, full_count, room_chars, room_count}

-- ---- one character more

pub push_holding : (l : List ℕ) (b : ℕ) → push_of (holding l) b ≡ holding (l ++ (b ∷ []))
push_holding l b =
    by_le (λ (r : Receiver). r ≡ holding (l ++ (b ∷ []))) 10 (min 10 (length l)) _ _
    (λ h i. record { chars = full_chars 10 l (b ∷ []) h i; count = full_count 10 l (b ∷ []) h i })
    (λ h i. record { chars = room_chars 10 l b h i; count = room_count 10 l b h i })

-- ---- characters one after another

pub all_holding : (bs l : List ℕ) → push_all (holding l) bs ≡ holding (l ++ bs)
unfolding push_all
all_holding [] l = ap holding (sym (append-nil l))
all_holding (b ∷ bs) l =
    ap (λ (r : Receiver). push_all r bs) (push_holding l b)
    ∙ (all_holding bs (l ++ (b ∷ [])) ∙ ap holding (append_snoc l b bs))

-- From ten on nothing alters.
pub all_full : (bs : List ℕ) (r : Receiver) → 10 ≤ r.count → push_all r bs ≡ r
unfolding push_all
all_full [] r h = refl
all_full (b ∷ bs) r h =
    ap (λ (x : Receiver). push_all x bs) (sym (on_le 10 r.count r r _ h refl)) ∙ all_full bs r h

-- From n on, n of them that fill the line, the others alter nothing.
all_take : (n : ℕ) (cs : List ℕ) (r : Receiver) → 10 ≤ r.count + n → push_all r (take n cs) ≡ push_all r cs
unfolding push_all
all_take zero cs r h = sym (all_full cs r (omega (arith, h)))
all_take (suc n) [] r h = refl
all_take (suc n) (b ∷ bs) r h =
    by_le (λ (x : Receiver). push_all x (take n bs) ≡ push_all x bs) 10 r.count _ _
    (λ k. all_take n bs r (omega (arith, k)))
    (λ k. all_take n bs _ (omega (arith, h)))

folded : (r : Receiver) (bs : List ℕ) → fold push_of r bs ≡ push_all r bs
unfolding push_all
folded r [] = refl
folded r (b ∷ bs) = folded (push_of r b) bs

pub ten_folded : (r : Receiver) (cs : List ℕ) → fold push_of r (take 10 cs) ≡ push_all r cs
ten_folded r cs = folded r (take 10 cs) ∙ all_take 10 cs r (omega arith)

-- ---- the bytes before the first that a test marks

module _ (marks : ℕ → Bool) where
  pub before_take : (bs : List ℕ) → take (length (before marks bs)) bs ≡ before marks bs
  unfolding before
  before_take [] = refl
  before_take (b ∷ bs) =
      by_bool (λ (x : List ℕ). take (length x) (b ∷ bs) ≡ x) (marks b) [] (b ∷ before marks bs)
      (λ e. refl) (λ e. ap (λ (x : List ℕ). b ∷ x) (before_take bs))

  pub before_short : (bs : List ℕ) → length (before marks bs) ≤ length bs
  before_short bs =
      let e : length (take (length (before marks bs)) bs) ≡ length (before marks bs) = ap length (before_take bs) in
      omega (arith, e, length-take (length (before marks bs)) bs)

  -- As many as the library counts.
  pub length_before : (bs : List ℕ) → prefix_len (λ b. not (marks b)) bs ≡ length (before marks bs)
  unfolding before
  length_before [] = refl
  length_before (b ∷ bs) = when (marks b) (length_before bs)
    where
      when : (t : Bool) → prefix_len (λ b. not (marks b)) bs ≡ length (before marks bs)
          → cond (not t) (1 + prefix_len (λ b. not (marks b)) bs) 0 ≡ length (cond t [] (b ∷ before marks bs))
      when true e = refl
      when false e = rw e (omega arith)

  module _ (bs : List ℕ) (i : ℕ) where
    pub before_mark_lem : i < length bs → marks (get_or bs i 0) ≡ true → length (before marks (drop i bs)) ≡ 0
    unfolding before
    before_mark_lem h e = rw (drop-cons bs i 0 h, e)

pub length_before_end : (bs : List ℕ) → prefix_len (λ b. not (eqb b 13)) bs ≡ length (before_end bs)
length_before_end bs = length_before (λ b. eqb b 13) bs

-- Gathered on what is held, and so on every list of characters so held.
pub gathered_told : {r : Gathered} (s : Receiver) (bs : List ℕ) → r ≡ gathered_of s bs
    → (r ≡ gathered_of s bs) × Holding s (λ l. r ≡ held_gathered l bs)
gathered_told s bs e = (
  e,
  λ l h. e ∙ (ap (λ (x : Receiver). gathered_of x bs) (sym h)
      ∙ ap (λ (x : Receiver). record { next = x; count = length (before_end bs) }) (all_holding (before_end bs) l)),
)

-- ---- the line's end: ten characters tell an over-long line

pub kept_holding : (l : List ℕ) → kept (holding l) ≡ take 10 l
kept_holding l = take_at (take 10 l) (replicate (10 - length l) 0) (min 10 (length l)) (length-take 10 l)

long_line : (l : List ℕ) → 10 < length l → heard_line (take 10 l) ≡ heard_line l
long_line l h = λ i. line_heard (s i) (d i) (j i)
  where
    n : length (take 10 l) ≡ 10
    n = length-take 10 l ∙ omega arith

    s : silent_of (take 10 l) ≡ silent_of l
    s = rw (get_or-take 10 l 1 48 (omega arith))

    no : (length l ≡ 9 → ⊥)
    no e = omega arith

    d : ident_of (take 10 l) ≡ ident_of l
    d = rw (n, ne_eqb (length l) 9 no)

    j : judge_of (take 10 l) ≡ judge_of l
    j = sym (too_long (take 10 l) (omega (arith, n))) ∙ too_long l (omega arith)

pub heard_holding : (l : List ℕ) → heard_of (holding l) ≡ heard_line l
heard_holding l =
    ap heard_line (kept_holding l)
    ∙ by_le {A = ℕ} (λ (k : ℕ). heard_line (take 10 l) ≡ heard_line l) (length l) 10 0 0
    (λ h. ap heard_line (take_all 10 l h)) (long_line l)

-- ---- any byte

pub taken_holding : (l : List ℕ) (b : ℕ) → taken_of (holding l) b ≡ held_taken (receive l b)
taken_holding l b = each (eqb b 13)
  where
    each : (t : Bool)
        → cond {A = Taken} t (record { next = holding []; heard = heard_of (holding l) })
        (record { next = push_of (holding l) b; heard = None })
        ≡ held_taken (cond {A = Receipt} t (record { line = []; heard = heard_line l })
        (record { line = l ++ (b ∷ []); heard = None }))
    each true = λ i. record { next = holding []; heard = heard_holding l i }
    each false = λ i. record { next = push_holding l b i; heard = None }

-- The step on what is held is the step on every list of characters so held.
pub both_told : {r : Taken} (s : Receiver) (b : ℕ) → r ≡ taken_of s b
    → (r ≡ taken_of s b) × Holding s (λ l. r ≡ held_taken (receive l b))
both_told s b e = (e, λ l h. e ∙ ap (λ (x : Receiver). taken_of x b) (sym h) ∙ taken_holding l b)
