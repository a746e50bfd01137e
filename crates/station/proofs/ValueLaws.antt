-- The command values of what is held are those of what the command says: a number that was kept as the largest is out
-- of range as it was. And the answer by its three tests. Assumes nothing.
use Rattle.std.proofs.Common.{Ok, Err}
use Prim.Native.Nat.{ℕ, min}
use native.Mathlib.Omega.{arith}
use mathlib.Core.Bool.{Bool, true, false, cond, not, ◌&&◌, ◌||◌}
use mathlib.Core.List.{List, []}
use mathlib.Core.Path.{◌≡◌, refl, sym, ap, ◌∙◌}
use borrow.Author.Tests.{lt-ltb, ltb-true, ltb-false}
use lib.Dec.{ltb, eqb}
use lib.IntN.{ℤ, nat_abs}
use lib.ListN.{length}
use Rattle.laws.specs.Axes.{is_minus}
use Rattle.numerals.specs.Numerals.{largest}
use Rattle.host.specs.declared.Request.{Request}
use Rattle.station.specs.declared.Refusal.TheVariants.{Unknown, Lacked, OutOfRange}
use Rattle.station.specs.declared.points.Distance.{Distance}
use Rattle.station.specs.Names.{is_listed}
use Rattle.station.specs.Forms.{Form, other, speed, move, stop, is_ours, name_of, form_of}
use Rattle.station.specs.declared.Converted.{Converted}
use Rattle.station.specs.Station.{values_of, is_other, is_far, is_out, number_of, values_in, places, convert_of, answer}
use Rattle.station.specs.Held.{held, held_form, requests, moved_values, held_move}
use Rattle.station.proofs.SpeedLaws.{answer_in, answer_held, Kept, speed_answer}

-- ---- A move

module _ (p q : Bool) (a b u v : ℕ) (k : Kept 524287 a u) (m : Kept 524287 b v) where
  -- Distances of these lengths and signs.
  abbrev first : ℕ → Distance
  first n = record { minus = p; size = n }

  abbrev second : ℕ → Distance
  second n = record { minus = q; size = n }

  moves : (s t : Bool) → ltb 524287 a ≡ s → ltb 524287 b ≡ t
      → held_move (first u) (second v) ≡ cond (s || t) (Err OutOfRange) (Ok (requests (moved_values (first a) (second b))))
  moves true t e f = rw (lt-ltb 524287 u (k.over (ltb-true 524287 a e)))
  moves false true e f =
      rw (k.within (ltb-false 524287 a e), e, lt-ltb 524287 v (m.over (ltb-true 524287 b f)))
  moves false false e f = rw (k.within (ltb-false 524287 a e), e, m.within (ltb-false 524287 b f), f)

kept : (n : ℕ) → Kept 524287 n (min largest n)
kept n = record { within = λ h. omega arith; over = λ h. omega arith }

held_move_lem : (x y : ℤ) → held_move (held x) (held y) ≡ answer_in (move x y)
held_move_lem x y =
    moves (is_minus x) (is_minus y) (nat_abs x) (nat_abs y) (min largest (nat_abs x)) (min largest (nat_abs y))
    (kept (nat_abs x)) (kept (nat_abs y)) (is_far x) (is_far y) refl refl

held_answer_lem : (f : Form) → answer_held (held_form f) ≡ answer_in f
held_answer_lem other = refl
held_answer_lem (speed n) = speed_answer n
held_answer_lem (move x y) = held_move_lem x y
held_answer_lem stop = refl

-- ---- The answer

-- By the two tests of the name and the form.
abbrev number_by : Bool → Bool → Form → ℕ
number_by a b f = cond (not a || (b && is_other f)) 27 (cond (not b) 28 (cond (is_out f) 29 0))

abbrev converted_to : ℕ → List Request → Converted
converted_to n rs = record { number = n; count = length rs; requests = places rs }

abbrev answer_by : Bool → Bool → Form → Converted
answer_by a b f = converted_to (number_by a b f) (cond (eqb (number_by a b f) 0) (values_of f) [])

answer_in_lem : (f : Form) → answer (answer_in f) ≡ answer_by true true f
answer_in_lem f = when (is_other f) (is_out f) (values_of f)
  where
    when : (o t : Bool) (rs : List Request)
        → answer (cond o (Err Unknown) (cond t (Err OutOfRange) (Ok (requests rs))))
        ≡ converted_to (cond o 27 (cond t 29 0)) (cond (eqb (cond o 27 (cond t 29 0)) 0) rs [])
    when true t rs = refl
    when false true rs = refl
    when false false rs = refl

module _ (l : List ℕ) where
  abbrev is : Bool → Bool → Converted
  is a b = answer_by a b (form_of l)

  pub unlisted : is_listed (name_of l) ≡ false → answer (Err Unknown) ≡ convert_of l
  unfolding convert_of number_of values_in
  unlisted e = (λ i. is (sym e i) (is_ours (name_of l)))

  pub lacked : is_listed (name_of l) ≡ true → is_ours (name_of l) ≡ false → answer (Err Lacked) ≡ convert_of l
  unfolding convert_of number_of values_in
  lacked e f = (λ i. is (sym e i) (sym f i))

  pub formed : is_listed (name_of l) ≡ true → is_ours (name_of l) ≡ true
      → answer (answer_held (held_form (form_of l))) ≡ convert_of l
  unfolding convert_of number_of values_in
  formed e f =
      ap answer (held_answer_lem (form_of l)) ∙ answer_in_lem (form_of l) ∙ (λ i. is (sym e i) (sym f i))
