-- The numbers of U blocks, by the reader's test and by their ranges. Assumes nothing.
use Rattle.std.proofs.Common.{Option, None}
use Prim.Native.Nat.{ℕ, ◌≤◌, ◌<◌}
use native.Mathlib.Omega.{arith}
use mathlib.Core.Bool.{Bool, true, false, cond, false≢true}
use mathlib.Core.Path.{◌≡◌, refl, sym}
use borrow.Author.Tests.{lt-ltb, le-ltb, le-leb, lt-leb, ne_eqb, ltb-true, ltb-false, eqb-true, eqb-false}
use lib.Dec.{ltb, eqb}
use Rattle.laws.proofs.Pick.{by_bool, by_lt}
use Rattle.line.specs.Ranges.{is_within}
use Rattle.line.proofs.Ranges.{within}
use Rattle.host.specs.Writer.{is_absent}
use Rattle.host.proofs.JudgeLaws.{absent_is}
use Rattle.reader.specs.Reader.{is_verdict}
use Rattle.reader.specs.Blocks.{Turned, VerdictFits}

-- No number is over 26.
pub turned_most : (n : ℕ) → (17 < n → n ≡ 26) → n ≤ 26
turned_most n h =
    by_lt {A = ℕ} (λ (_ : ℕ). n ≤ 26) 17 n 0 0 (λ q. omega (arith, h q)) (λ (q : n ≤ 17). omega arith)

-- The numbers of U, by the reader's test and by their ranges.
pub is_verdict_lem : (n : ℕ) (ident : Option ℕ) → VerdictFits n ident → is_verdict n ident ≡ true
is_verdict_lem n ident f = when (eqb n 0) refl
  where
    early : n < 8 → 4 ≤ n → None ≡ ident → is_verdict n ident ≡ true
    early q h e =
        let z : (n ≡ 0 → ⊥) = λ (p : n ≡ 0). omega arith in
        let c : (n ≡ 26 → ⊥) = λ (p : n ≡ 26). omega arith in
        let l : n ≤ 7 = omega arith in
        rw (← e, ne_eqb n 0 z, lt-leb 8 n q, ne_eqb n 26 c, le-leb 4 n h, le-leb n 7 l)

    late : 8 ≤ n → (17 < n → n ≡ 26) → is_verdict n ident ≡ true
    late q h =
        by_lt {A = ℕ} (λ (_ : ℕ). is_verdict n ident ≡ true) 17 n 0 0 (λ l. rw (h l))
        (λ (l : n ≤ 17). let z : (n ≡ 0 → ⊥) = λ (p : n ≡ 0). omega arith in
        rw (ne_eqb n 0 z, le-leb 8 n q, le-leb))

    own : (t : Bool) → ltb n 8 ≡ t → 4 ≤ n → (17 < n → n ≡ 26) → cond t None ident ≡ ident
        → is_verdict n ident ≡ true
    own true q h l e = early (ltb-true n 8 q) h e
    own false q h l e = late (ltb-false n 8 q) l

    when : (t : Bool) → eqb n 0 ≡ t → is_verdict n ident ≡ true
    when true e = rw e
    when false e = let t = f (eqb-false n 0 e) in own (ltb n 8) refl t.low t.high t.own

pub verdict_fits : (n : ℕ) (ident : Option ℕ) → is_verdict n ident ≡ true → VerdictFits n ident
verdict_fits n ident e above =
    by_bool If (eqb n 0) true _ (λ z _. absurd (above (eqb-true n 0 z)))
    (λ _. by_bool If (is_within n 8 17) true _ (λ q _. late q)
    (λ _. by_bool If (eqb n 26) true _ (λ q _. last (eqb-true n 26 q))
    (λ _. by_bool If (is_within n 4 7) (is_absent ident) false early (λ _ f. absurd (false≢true f))))) e
  where
    If : Bool → Type 0
    If t = t ≡ true → Turned n ident

    late : is_within n 8 17 ≡ true → Turned n ident
    late q =
        let w = within n 8 17 q in
        let l = w.0 in
        let h = w.1 in
        record { low = omega arith; high = λ (p : 17 < n). absurd (omega arith); own = rw (le-ltb n 8 l) }

    last : n ≡ 26 → Turned n ident
    last q = record { low = omega arith; high = λ _. q; own = rw q }

    early : is_within n 4 7 ≡ true → is_absent ident ≡ true → Turned n ident
    early q none =
        let w = within n 4 7 q in
        let l = w.0 in
        let h = w.1 in
        let m : n < 8 = omega arith in
        record {
          low = omega arith;
          high = λ (p : 17 < n). absurd (omega arith);
          own = rw (lt-ltb n 8 m) (sym (absent_is ident none));
        }

-- A number over 26 is none.
pub number_over : (n : ℕ) (ident : Option ℕ) → 26 < n → is_verdict n ident ≡ false
number_over n ident h =
    let none : (n ≡ 0 → ⊥) = λ (p : n ≡ 0). omega arith in
    let far : (n ≡ 26 → ⊥) = λ (p : n ≡ 26). omega arith in
    let high : 17 < n = omega arith in
    let above : 7 < n = omega arith in
    rw (
      ne_eqb n 0 none,
      le-leb 8 n (omega arith),
      lt-leb n 17 high,
      ne_eqb n 26 far,
      le-leb 4 n (omega arith),
      lt-leb n 7 above,
    )
