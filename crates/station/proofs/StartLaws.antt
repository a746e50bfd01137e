-- A plain start of a converted move, its distances set behind power-on: no number turns it away. Assumes nothing.
use Prim.Native.Nat.{ℕ, ◌+◌, ◌≤◌, ◌<◌}
use mathlib.Core.Bool.{Bool, true, false, cond, ◌&&◌, ◌||◌}
use mathlib.Core.List.{List, [], ◌∷◌}
use mathlib.Core.Path.{◌≡◌, refl, ap, ◌∙◌}
use native.Mathlib.Omega.{arith}
use borrow.Author.Tests.{le-ltb, ne_eqb}
use lib.Dec.{ltb}
use lib.ListN.{get_or}
use lib.IntN.{ℤ, pos, negsuc, ◌+ℤ◌, +ℤ_idl, nat_abs}
use Rattle.laws.specs.Axes.{directed, is_minus}
use Rattle.laws.proofs.Five.{five}
use Rattle.machine.specs.State.{Machine}
use Rattle.machine.specs.Starts.{turned_by, outside}
use Rattle.machine.specs.Commands.{number}
use Rattle.machine.specs.Steps.{power_on}
use Rattle.line.specs.declared.command.Command.TheVariants as C
use Rattle.host.specs.Master.{Longest}
use Rattle.station.specs.Station.{asks, distance}
use Rattle.station.proofs.ExecutedLaws.{directed_back}
use Rattle.station.proofs.AcceptedLaws.{last_of}

far_not : (z : ℤ) → nat_abs z ≤ 524287 → outside (pos 0 +ℤ directed (is_minus z) (nat_abs z)) ≡ false
far_not z l = ap outside (+ℤ_idl _ ∙ directed_back z) ∙ within z l
  where
    within : (x : ℤ) → nat_abs x ≤ 524287 → outside x ≡ false
    within (pos n) h = le-ltb 524287 n h
    within (negsuc n) h = le-ltb 524287 n (omega (arith, h))

unblocked : (a b : Bool) → a && cond b false false ≡ false
unblocked true true = refl
unblocked true false = refl
unblocked false b = refl

-- The machine after the five distances.
abbrev pub five_set : ℕ → ℤ → ℤ → Machine
five_set s x y =
    last_of (power_on s)
    (distance 0 x ∷ distance 1 y ∷ asks (C.Distance 2 false 0) ∷ asks (C.Distance 3 false 0)
    ∷ asks (C.Distance 4 false 0) ∷ [])

module _ (s : ℕ) (x y : ℤ) (nx : nat_abs x ≤ 524287) (ny : nat_abs y ≤ 524287)
    (go : 0 < nat_abs x + nat_abs y) where
  abbrev pub lengths : List ℕ
  lengths = nat_abs x ∷ nat_abs y ∷ 0 ∷ 0 ∷ 0 ∷ []

  -- By the tests of 14 and 15.
  start_by : (k : ℕ) (longer none : Bool) → longer ≡ false → none ≡ false
      → turned_by 14 longer (turned_by 15 none
      (turned_by 16 (ltb 0 (nat_abs x) && cond (is_minus x) false false || ltb 0 (nat_abs y) && cond (is_minus y) false false
      || false || false || false)
      (turned_by 17 (outside (pos 0 +ℤ directed (is_minus x) (nat_abs x))
      || outside (pos 0 +ℤ directed (is_minus y) (nat_abs y)) || false || false || false) 0))) ≡ 0
  start_by k longer none p q = (λ i. turned_by 14 (p i) (turned_by 15 (q i)
      (turned_by 16 (unblocked (ltb 0 (nat_abs x)) (is_minus x) i || unblocked (ltb 0 (nat_abs y)) (is_minus y) i
      || false || false || false)
      (turned_by 17 (far_not x nx i || far_not y ny i || false || false || false) 0))))

  pub starts : (k : ℕ) → k < 5 → Longest lengths k → number (five_set s x y) (C.Start k false) ≡ 0
  unfolding last_of
  starts = five (λ (k : ℕ). Longest lengths k → number (five_set s x y) (C.Start k false) ≡ 0)
      (λ w. let a = w.longest 0 (omega arith) in let b = w.longest 1 (omega arith) in
      start_by 0 _ _
      (λ i. le-ltb (nat_abs x) (nat_abs x) (omega arith) i || le-ltb (nat_abs x) (nat_abs y) b i || none (nat_abs x) i
      || none (nat_abs x) i || none (nat_abs x) i)
      (ne_eqb (nat_abs x) 0 (λ (q : nat_abs x ≡ 0). omega (arith, q, a, b, go))))
      (λ w. let a = w.longest 0 (omega arith) in let b = w.longest 1 (omega arith) in
      start_by 1 _ _
      (λ i. le-ltb (nat_abs y) (nat_abs x) a i || le-ltb (nat_abs y) (nat_abs y) (omega arith) i || none (nat_abs y) i
      || none (nat_abs y) i || none (nat_abs y) i)
      (ne_eqb (nat_abs y) 0 (λ (q : nat_abs y ≡ 0). omega (arith, q, a, b, go))))
      (still 2 refl) (still 3 refl) (still 4 refl)
    where
      -- An axis of distance 0 is not longer than any.
      none : (n : ℕ) → ltb n 0 ≡ false
      none n = le-ltb n 0 (omega arith)

      still : {A : Type 0} (k : ℕ) → get_or lengths k 0 ≡ 0 → Longest lengths k → A
      still k z w =
          let a = w.longest 0 (omega arith) in
          let b = w.longest 1 (omega arith) in
          absurd (omega (arith, a, b, z, go))
