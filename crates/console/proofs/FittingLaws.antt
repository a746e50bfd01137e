-- How many bytes are taken as long as 120 bytes of buffer are left: none without room, at least one with it, and all of
-- a line's bytes at once. Assumes nothing.
use Prim.Native.Nat.{ℕ, zero, suc, ◌+◌, ◌-◌, ◌≤◌, ◌<◌}
use native.Mathlib.Omega.{arith}
use mathlib.Core.List.{List, [], ◌∷◌, ◌++◌, append-nil}
use mathlib.Core.Path.{◌≡◌, refl, sym, ap, subst}
use lib.ListN.{length, take, drop}
use Rattle.laws.proofs.Pick.{on_lt, on_ge, by_lt}
use Rattle.session.specs.Session.{Bench, taken}
use Rattle.session.specs.Lines.{after, printed_by}
use Rattle.session.specs.Stretch.{Silent}
use Rattle.console.specs.Console.{fitting}

pub fitting_none : (room : ℕ) (x : Bench) (bs : List ℕ) → room < 120 → fitting room x bs ≡ 0
unfolding fitting
fitting_none room x [] h = refl
fitting_none room x (b ∷ bs) h = sym (on_lt room 120 0 0 _ h refl)

-- A byte that is taken.
fitting_one : (room : ℕ) (x : Bench) (b : ℕ) (bs : List ℕ) → 120 ≤ room
    → fitting room x (b ∷ bs) ≡ suc (fitting (room - length (taken x b).printed) (taken x b).bench bs)
unfolding fitting
fitting_one room x b bs h = sym (on_ge room 120 _ 0 _ h refl)

pub fitting_some : (room : ℕ) (x : Bench) (bs : List ℕ) → 120 ≤ room → 0 < length bs → 0 < fitting room x bs
fitting_some room x [] h k = absurd (omega arith)
fitting_some room x (b ∷ bs) h k = omega (arith, fitting_one room x b bs h)

pub fitting_short : (bs : List ℕ) (x : Bench) (room : ℕ) → fitting room x bs ≤ length bs
unfolding fitting
fitting_short [] x room = omega arith
fitting_short (b ∷ bs) x room =
    by_lt (λ (n : ℕ). n ≤ suc (length bs)) room 120 _ _ (λ h. omega arith)
    (λ h. omega (arith, fitting_short bs (taken x b).bench (room - length (taken x b).printed)))

-- With room before the first of n bytes, of which only the last prints, all n are taken.
pub fitting_more : (n : ℕ) (bs : List ℕ) (x : Bench) (room : ℕ) → 120 ≤ room → n ≤ length bs
    → Silent x (take (n - 1) bs)
    → fitting room x bs ≡ n + fitting (room - length (printed_by x (take n bs))) (after x (take n bs)) (drop n bs)
unfolding printed_by after
fitting_more zero bs x room r h q =
    let e : room - 0 ≡ room = omega arith in omega (arith, ap (λ (k : ℕ). fitting k x bs) e)
fitting_more (suc n) [] x room r h q = absurd (omega arith)
fitting_more (suc zero) (b ∷ bs) x room r h q =
    omega (
      arith,
      fitting_one room x b bs r,
      ap (λ (t : List ℕ). fitting (room - length t) (taken x b).bench bs) (append-nil (taken x b).printed),
    )
fitting_more (suc (suc n)) (b ∷ bs) x room r h q =
    let y : Bench = (taken x b).bench in
    let k : List ℕ = take (suc n) bs in
    let d : suc (suc n) - 1 ≡ suc n = omega arith in
    let z : Silent x (take (suc n) (b ∷ bs)) = subst (λ (j : ℕ). Silent x (take j (b ∷ bs))) d q in
    let e : room - length (taken x b).printed ≡ room = omega (arith, ap length z.0) in
    let v : suc n - 1 ≡ n = omega arith in
    omega (
      arith,
      fitting_one room x b bs r,
      ap (λ (j : ℕ). fitting j y bs) e,
      fitting_more (suc n) bs y room r (omega arith) (subst (λ (j : ℕ). Silent y (take j bs)) (sym v) z.1.1),
      ap (λ (t : List ℕ). fitting (room - length (t ++ printed_by y k)) (after y k) (drop (suc n) bs)) z.0,
    )
