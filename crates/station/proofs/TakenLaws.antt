-- A fresh controller takes the lines of every converted command (specs/Taken.antt). Assumes nothing.
use Prim.Native.Nat.{ℕ, zero, suc, ◌+◌, ◌*◌, ◌<◌}
use mathlib.Core.Bool.{Bool, true, false, ◌&&◌}
use mathlib.Core.List.{List, [], ◌∷◌, append-nil}
use mathlib.Core.Path.{◌≡◌, refl, sym, ap, ◌∙◌}
use native.Mathlib.Omega.{arith}
use borrow.Author.Tests.{le-leb, ltb-false, eqb-false}
use lib.Dec.{eqb, ltb}
use lib.IntN.{nat_abs}
use Rattle.laws.proofs.Tests.{true_false, neither}
use Rattle.machine.specs.State.{Machine}
use Rattle.machine.specs.Commands.{number}
use Rattle.machine.specs.Steps.{power_on}
use Rattle.machine.specs.Calls.{run, state}
use Rattle.machine.proofs.ListLaws.{told, by_flag}
use Rattle.line.specs.declared.command.Command.TheVariants as C
use Rattle.host.proofs.MasterLaws.{master_longest}
use Rattle.station.specs.Forms as forms
use Rattle.station.specs.Forms.{Form, speed, move, stop, form_of}
use Rattle.station.specs.Station.{values_of, is_out, number_of, picked}
use Rattle.station.specs.Executed.{written, lines_of, onto, is_undisturbed}
use Rattle.station.specs.Taken.{lent, is_move, is_still, Taken}
use Rattle.station.proofs.ExecutedLaws.{near, axis_picked, in_range_lem, values_are, answered_is, number_is}
use Rattle.station.proofs.AcceptedLaws.{Obedient, last_of, all_taken}
use Rattle.station.proofs.StartLaws.{five_set, starts}

-- ---- The values of a form

some_length : (a b : ℕ) → eqb a 0 && eqb b 0 ≡ false → 0 < a + b
some_length a b e = by_flag (eqb a 0)
    (λ p. let q = eqb-false b 0 (sym (ap (λ (t : Bool). t && eqb b 0) p) ∙ e) in pos_of b a q)
    (λ p. let q = eqb-false a 0 p in pos_left a b q)
  where
    pos_of : (u v : ℕ) → (u ≡ 0 → ⊥) → 0 < v + u
    pos_of zero v q = absurd (q refl)
    pos_of (suc u) v q = omega arith

    pos_left : (u v : ℕ) → (u ≡ 0 → ⊥) → 0 < u + v
    pos_left zero v q = absurd (q refl)
    pos_left (suc u) v q = omega arith

obedient : (s : ℕ) (x : Form) → is_out x ≡ false → is_still x ≡ false → Obedient (power_on s) (values_of x)
unfolding Obedient last_of
obedient s forms.other e q = omega arith
obedient s (speed n) e q =
    let h = neither (eqb n 0) (ltb 250000 n) e in
    let a = eqb-false n 0 h.0 in
    let b = ltb-false 250000 n h.1 in (
      (λ i. (le-leb 1 (4 * n) (omega (arith, a)) i && le-leb (4 * n) 1000000 (omega (arith, b)) i) && true),
      (refl, (refl, omega arith)),
    )
obedient s (move x y) e q =
    let h = neither _ _ e in (
      (λ i. near x h.0 i && true),
      (
        refl,
        (
          refl,
          (
            (λ i. near y h.1 i && true),
            (
              refl,
              (
                refl,
                (
                  refl,
                  (
                    refl,
                    (
                      refl,
                      (
                        refl,
                        (
                          refl,
                          (
                            refl,
                            (
                              refl,
                              (
                                refl,
                                (
                                  refl,
                                  (
                                    (λ i. axis_picked x y i && true),
                                    (
                                      refl,
                                      (
                                        begins,
                                        omega arith,
                                      ),
                                    ),
                                  ),
                                ),
                              ),
                            ),
                          ),
                        ),
                      ),
                    ),
                  ),
                ),
              ),
            ),
          ),
        ),
      ),
    )
  where
    begins : number (five_set s x y) (C.Start (picked x y) false) ≡ 0
    begins =
        let h = neither _ _ e in
        let w = master_longest (nat_abs x ∷ nat_abs y ∷ 0 ∷ 0 ∷ 0 ∷ []) in
        starts s x y (ltb-false 524287 (nat_abs x) h.0) (ltb-false 524287 (nat_abs y) h.1)
        (some_length (nat_abs x) (nat_abs y) q) (picked x y) w.axis w
obedient s stop e q = (refl, (refl, (refl, omega arith)))

runs_after : (s : ℕ) (x : Form) → is_move x ≡ true → (last_of (power_on s) (values_of x)).move.moving ≡ true
unfolding last_of
runs_after s forms.other e = true_false false e refl
runs_after s (speed n) e = true_false false e refl
runs_after s (move x y) e = refl
runs_after s stop e = true_false false e refl

lines_are : (c : List ℕ) → number_of c ≡ 0 → lines_of (c ∷ []) ≡ written (values_of (form_of c))
unfolding lines_of
lines_are c e = append-nil _ ∙ ap written (answered_is c ∙ values_are c e)

pub taken : Taken
unfolding run
taken s c n q =
    let e = sym (number_is c) ∙ n in
    let t = all_taken s [] (values_of (form_of c)) refl (obedient s (form_of c) (in_range_lem c e) q) in
    record {
      taken = ap (λ (l : List ℕ). is_undisturbed s [] (lent l)) (lines_are c e) ∙ t.undisturbed;
      runs = λ m. sym (told s _).goes
          ∙ (ap (λ (l : List ℕ). (state s (onto (lent l) [])).move.moving) (lines_are c e)
          ∙ (ap (λ (a : Machine). a.move.moving) t.left ∙ runs_after s (form_of c) m));
    }
