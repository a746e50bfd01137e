-- Laws of numbers read one behind the other: one is judged by its range, and the rest is read behind it. Assumes
-- nothing.
use Rattle.std.proofs.Common.{Result, Ok, Err}
use Prim.Native.Nat.{ℕ, ◌+◌, ◌<◌}
use mathlib.Core.Bool.{true}
use mathlib.Core.List.{List, [], ◌∷◌, ◌++◌, append_assoc, append-nil}
use mathlib.Core.Path.{◌≡◌, refl, sym, ap, ◌∙◌}
use native.Mathlib.Numerals.{add-one}
use native.Mathlib.Omega.{arith}
use lib.ListN.{length, take, drop, set}
use lib.Seq.{drop-cons, drop-drop, take-suc-set, take_all}
use Rattle.laws.proofs.Pick.{by_bool}
use Rattle.journal.specs.declared.Found.{Found}
use Rattle.journal.specs.declared.Refusal.{Refusal}
use Rattle.journal.specs.declared.Refusal.TheVariants.{CutShort, Wrong}
use Rattle.journal.specs.Numbers.{Got, found}
use Rattle.journal.specs.Numbers.Got.{cut, wrong, got}
use Rattle.journal.specs.Entries.{Range, travel_range, ranges, within, fit_all, ranged, before, behind, read_all}
use Rattle.journal.specs.Inner.{found_at, range_at}

-- ---- what was read

pub read_is : {A : Type 0} (x : A) (next : ℕ) (one : Found A)
    → ◌≡◌ {A = Result (Found A) Refusal} (Ok one) (Ok (record { value = x; next = next })) → ◌≡◌ {A = Found A} (record { value = x; next = next }) one
read_is x next one e = cc

-- ---- the rest behind what was read

-- What is answered where these values stand before the place.
abbrev pub resumed : List ℕ → ℕ → Got (List ℕ) → Result (Found (List ℕ)) Refusal
resumed vs place cut = Err CutShort
resumed vs place wrong = Err Wrong
resumed vs place (got ns used) = Ok (record { value = vs ++ ns; next = place + used })

pub resumed_start : (at : ℕ) (g : Got (List ℕ)) → found_at at g ≡ resumed [] at g
resumed_start at cut = refl
resumed_start at wrong = refl
resumed_start at (got ns used) = refl

resumed_before : (vs : List ℕ) (place n used : ℕ) (g : Got (List ℕ))
    → resumed vs place (before n used g) ≡ resumed (vs ++ (n ∷ [])) (place + used) g
resumed_before vs place n used cut = refl
resumed_before vs place n used wrong = refl
resumed_before vs place n used (got ns more) =
    let e : place + (used + more) ≡ place + used + more = omega arith in
    λ i. Ok (record { value = sym (append_assoc vs (n ∷ []) ns) i; next = e i })

stopped : (vs : List ℕ) (place : ℕ) (rest : ℕ → Got (List ℕ)) (g : Got ℕ) (n : Refusal) → Err n ≡ found_at place g
    → Err n ≡ resumed vs place (behind g rest)
stopped vs place rest cut n e = cc
stopped vs place rest wrong n e = cc
stopped vs place rest (got m used) n e = cc

-- The rest is read from the place after the number.
going_on : (bytes vs : List ℕ) (rs : List Range) (place : ℕ) (g : Got ℕ) (one : Found ℕ) → Ok one ≡ found_at place g
    → resumed vs place (behind g (λ used. read_all rs (drop used (drop place bytes))))
    ≡ resumed (vs ++ (one.value ∷ [])) one.next (read_all rs (drop one.next bytes))
going_on bytes vs rs place cut one e = cc
going_on bytes vs rs place wrong one e = cc
going_on bytes vs rs place (got n used) one e =
    let q : ◌≡◌ {A = Found ℕ} (record { value = n; next = place + used }) one = read_is n (place + used) one e in
    resumed_before vs place n used (read_all rs (drop used (drop place bytes)))
    ∙ ap (λ (l : List ℕ). resumed (vs ++ (n ∷ [])) (place + used) (read_all rs l)) (drop-drop used place bytes)
    ∙ (λ i. resumed (vs ++ ((q i).value ∷ [])) (q i).next (read_all rs (drop (q i).next bytes)))

-- ---- the loop

module _ (bytes : List ℕ) (k place : ℕ) (few : k < 7) where
  next_is : read_all (drop k ranges) (drop place bytes)
      ≡ behind (ranged (range_at k) (found 6 (drop place bytes)))
      (λ used. read_all (drop (k + 1) ranges) (drop used (drop place bytes)))
  unfolding read_all
  next_is = rw (drop-cons ranges k travel_range few, add-one k)

  module _ (at : ℕ) (vs : List ℕ)
      (inv : found_at at (read_all ranges (drop at bytes))
      ≡ resumed (take k vs) place (read_all (drop k ranges) (drop place bytes))) where
    pub loop_stops : (n : Refusal) → Err n ≡ found_at place (ranged (range_at k) (found 6 (drop place bytes)))
        → Err n ≡ found_at at (read_all ranges (drop at bytes))
    loop_stops n e =
        stopped (take k vs) place (λ used. read_all (drop (k + 1) ranges) (drop used (drop place bytes)))
        (ranged (range_at k) (found 6 (drop place bytes))) n e
        ∙ sym (inv ∙ ap (resumed (take k vs) place) next_is)

    pub loop_goes_on : (one : Found ℕ) → Ok one ≡ found_at place (ranged (range_at k) (found 6 (drop place bytes)))
        → length vs ≡ 7
        → found_at at (read_all ranges (drop at bytes))
        ≡ resumed (take (k + 1) (set vs k one.value)) one.next
        (read_all (drop (k + 1) ranges) (drop one.next bytes))
    loop_goes_on one e l =
        let h : k < length vs = omega arith in
        let t : take (k + 1) (set vs k one.value) ≡ take k vs ++ (one.value ∷ []) =
        rw (add-one k) (take-suc-set vs k one.value h) in
        inv ∙ ap (resumed (take k vs) place) next_is
        ∙ going_on bytes (take k vs) (drop (k + 1) ranges) place (ranged (range_at k) (found 6 (drop place bytes))) one
        e
        ∙ ap (λ (l : List ℕ). resumed l one.next (read_all (drop (k + 1) ranges) (drop one.next bytes))) (sym t)

pub loop_ends : (bytes vs : List ℕ) (place at k : ℕ) → k ≡ 7 → length vs ≡ 7
    → found_at at (read_all ranges (drop at bytes))
    ≡ resumed (take k vs) place (read_all (drop k ranges) (drop place bytes))
    → Ok (record { value = vs; next = place }) ≡ found_at at (read_all ranges (drop at bytes))
unfolding read_all
loop_ends bytes vs place at k e l inv =
    let t : take 7 vs ++ [] ≡ vs = append-nil (take 7 vs) ∙ take_all 7 vs (omega arith) in
    let n : place + 0 ≡ place = omega arith in
    (λ i. Ok (record { value = sym t i; next = sym n i }))
    ∙ sym (inv ∙ ap (λ (x : ℕ). resumed (take x vs) place (read_all (drop x ranges) (drop place bytes))) e)

-- ---- what is read fits

abbrev pub Fit : List Range → Got (List ℕ) → Type 0
Fit rs cut = Unit
Fit rs wrong = Unit
Fit rs (got ns used) = fit_all rs ns ≡ true

fit_before : (r : Range) (rs : List Range) (n used : ℕ) (g : Got (List ℕ)) → within r n ≡ true → Fit rs g
    → Fit (r ∷ rs) (before n used g)
unfolding fit_all
fit_before r rs n used cut w f = tt
fit_before r rs n used wrong w f = tt
fit_before r rs n used (got ns more) w f = rw (w, f)

pub read_fit : (rs : List Range) (bs : List ℕ) → Fit rs (read_all rs bs)
unfolding read_all fit_all
read_fit [] bs = refl
read_fit (r ∷ rs) bs = step (found 6 bs) (λ used. read_fit rs (drop used bs))
  where
    step : (g : Got ℕ) → ((used : ℕ) → Fit rs (read_all rs (drop used bs)))
        → Fit (r ∷ rs) (behind (ranged r g) (λ used. read_all rs (drop used bs)))
    step cut f = tt
    step wrong f = tt
    step (got n used) f =
        by_bool (λ (g : Got ℕ). Fit (r ∷ rs) (behind g (λ used. read_all rs (drop used bs)))) (within r n) (got n used)
        wrong (λ w. fit_before r rs n used (read_all rs (drop used bs)) w (f used)) (λ w. tt)
