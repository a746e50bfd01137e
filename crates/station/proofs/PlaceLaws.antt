-- What every answer holds (specs/Places.antt). Assumes nothing.
use Prim.Native.Nat.{ℕ, ◌*◌, ◌<◌}
use mathlib.Core.Bool.{true, false, cond, not, ◌&&◌, ◌||◌}
use mathlib.Core.List.{List, [], ◌∷◌}
use mathlib.Core.Path.{◌≡◌, refl, sym, ap, subst, ◌∙◌}
use native.Mathlib.Omega.{arith}
use borrow.Author.Tests.{eqb-true, eqb-false, eq-eqb, ne_eqb}
use lib.Dec.{eqb}
use lib.IntN.{ℤ, pos, negsuc, nat_abs}
use lib.ListN.{length}
use Rattle.laws.specs.Axes.{is_minus}
use Rattle.machine.proofs.ListLaws.{by_flag}
use Rattle.host.proofs.MasterLaws.{master_longest}
use Rattle.host.specs.declared.Request.{Request}
use Rattle.station.specs.Forms.{Form, other, speed, move, stop, form_of}
use Rattle.station.specs.Station.{values_of, is_out, number_of, values_in, places, convert_of, picked}
use Rattle.station.specs.Places.{are_fit, are_move, is_first, is_stop, Pacing, Moving, Places}
use Rattle.station.proofs.ExecutedLaws.{in_range_lem, values_are}

-- ---- By the form

-- What is said of the values rs of a command, whose six places are `places rs`.
record Placed (rs : List Request) : Type 0 where
  six : length (places rs) ≡ 6
  several : 1 < length rs → (length rs ≡ 6) × Moving (places rs)
  fit : are_fit (places rs) ≡ true

none : Placed []
unfolding are_fit
none = record { six = refl; several = λ h. absurd (omega (arith, h)); fit = refl }

minus_some : (z : ℤ) → not (is_minus z) || not (eqb (nat_abs z) 0) ≡ true
minus_some (pos n) = refl
minus_some (negsuc n) = ap not (ne_eqb (nat_abs (negsuc n)) 0 (λ (e : nat_abs (negsuc n) ≡ 0). omega (arith, e)))

by_form : (x : Form) → is_out x ≡ false → Placed (values_of x)
unfolding are_fit are_move
by_form other e = none
by_form (speed n) e =
    record {
      six = refl;
      several = λ q. absurd (omega (arith, q));
      fit = refl;
    }
by_form (move x y) e =
    record {
      six = refl;
      several = λ q. (
        refl,
        record {
          master = picked x y;
          values = start_is (picked x y);
          longest = master_longest (nat_abs x ∷ nat_abs y ∷ 0 ∷ 0 ∷ 0 ∷ []);
        },
      );
      fit = (λ i. minus_some x i && (minus_some y i && true));
    }
  where
    start_is : (k : ℕ) → eqb k k ≡ true
    start_is k = eq-eqb k k refl
by_form stop e = record { six = refl; several = λ q. absurd (omega (arith, q)); fit = refl }

-- ---- Every answer

values_none : (l : List ℕ) → (number_of l ≡ 0 → ⊥) → values_in l ≡ []
unfolding values_in
values_none l e = (λ i. cond (ne_eqb (number_of l) 0 e i) (values_of (form_of l)) [])

placed : (l : List ℕ) → Placed (values_in l)
placed l = by_flag (eqb (number_of l) 0)
    (λ e. let n = eqb-true (number_of l) 0 e in
    subst Placed (sym (values_are l n)) (by_form (form_of l) (in_range_lem l n)))
    (λ e. subst Placed (sym (values_none l (eqb-false (number_of l) 0 e))) none)

-- By the values of the form.
speeding : (n : ℕ) (rs : List Request) → rs ≡ values_of (speed n) → (length rs ≡ 1) × Pacing n (places rs)
speeding n rs e = subst (λ (q : List Request). (length q ≡ 1) × Pacing n (places q)) (sym e)
    (refl, record { units = 4 * n; value = eq-eqb (4 * n) (4 * n) refl; pace = omega arith })

stopping : (rs : List Request) → rs ≡ values_of stop → (length rs ≡ 1) × (is_first is_stop (places rs) ≡ true)
stopping rs e = subst (λ (q : List Request). (length q ≡ 1) × (is_first is_stop (places q) ≡ true)) (sym e) (refl, refl)

pub in_places : Places
unfolding convert_of
in_places l =
    let p = placed l in
    record {
      six = p.six;
      refused = λ e. ap length (values_none l e);
      several = p.several;
      speeds = λ n f e. speeding n (values_in l) (values_are l e ∙ ap values_of f);
      stops = λ f e. stopping (values_in l) (values_are l e ∙ ap values_of f);
      fit = p.fit;
    }
