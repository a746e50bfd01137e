-- Converted commands, written as lines and executed, move exactly the distances named (specs/Executed.antt). Assumes
-- nothing.
use Prim.Native.Nat.{ℕ, ◌-◌, ◌*◌, ◌<◌}
use mathlib.Core.Bool.{Bool, true, false, cond, ◌&&◌}
use mathlib.Core.List.{List, [], ◌∷◌, ◌++◌, append_assoc}
use mathlib.Core.Path.{◌≡◌, refl, sym, ap, ◌∙◌}
use native.Mathlib.Omega.{arith}
use borrow.Author.Tests.{eqb-true, ltb-false, eqb-false, lt-ltb, le-leb}
use lib.Dec.{ltb, eqb}
use lib.IntN.{ℤ, pos, negsuc, ◌+ℤ◌, +ℤ_idr, +ℤ_idl, nat_abs}
use lib.Seq.{take-append_seam}
use Rattle.laws.specs.Axes.{directed, is_minus}
use Rattle.laws.proofs.Five.{five}
use Rattle.laws.proofs.Directed.{no_step}
use Rattle.laws.proofs.Tests.{true_false, both, neither}
use Rattle.machine.specs.State.{Plan}
use Rattle.machine.specs.Calls.{Call, state}
use Rattle.machine.specs.List.{goes_on, position}
use Rattle.machine.proofs.IdentifiedLaws.{received_is}
use Rattle.machine.proofs.ListLaws.{told}
use Rattle.host.specs.Writer.{has_line, line_of}
use Rattle.host.specs.declared.Request.{Request}
use Rattle.host.proofs.MasterLaws.{master_longest}
use Rattle.station.specs.Forms.{Form, other, speed, move, stop, form_of}
use Rattle.station.specs.Station.{
  values_of,
  is_unknown,
  is_lacked,
  is_out,
  is_far,
  number_of,
  values_in,
  convert_of,
  picked,
}
use Rattle.station.specs.Executed.{of_axis, named_by, named, are_converted, answered, written, lines_of, onto, Executes}
use Rattle.station.proofs.DueLaws.{due}
use Rattle.station.proofs.CommandLaws.{is_plain}
use Rattle.station.proofs.LinesLaws.{are_plain, total, in_lines}

-- ---- The values of a form in its ranges

both_true : (a b : Bool) → a ≡ true → b ≡ true → a && b ≡ true
both_true a b p q = (λ i. p i && q i)

pub near : (z : ℤ) → is_far z ≡ false → ltb (nat_abs z) 524288 ≡ true
near z e = let h = ltb-false 524287 (nat_abs z) e in lt-ltb (nat_abs z) 524288 (omega (arith, h))

-- The start names one of the five axes.
pub axis_picked : (x y : ℤ) → ltb (picked x y) 5 ≡ true
axis_picked x y = lt-ltb (picked x y) 5 (master_longest (nat_abs x ∷ nat_abs y ∷ 0 ∷ 0 ∷ 0 ∷ [])).axis

-- Each has a line, and is plain.
pub plain_values : (x : Form) → is_out x ≡ false → are_plain (values_of x) ≡ true
unfolding are_plain
plain_values other e = refl
plain_values (speed n) e =
    let h = neither (eqb n 0) (ltb 250000 n) e in
    let a = eqb-false n 0 h.0 in
    let b = ltb-false 250000 n h.1 in
    (λ i. (le-leb 1 (4 * n) (omega (arith, a)) i && le-leb (4 * n) 1000000 (omega (arith, b)) i) && true && true)
plain_values (move x y) e =
    let h = neither (is_far x) (is_far y) e in
    (λ i. (near x h.0 i && true) && ((near y h.1 i && true) && ((axis_picked x y i && true) && true)))
plain_values stop e = refl

-- ---- What they add

pub directed_back : (z : ℤ) → directed (is_minus z) (nat_abs z) ≡ z
directed_back (pos n) = refl
directed_back (negsuc n) = refl

-- Behind five distances the start adds a.
five_none : (a b t u : ℤ) → a ≡ b → t ≡ u
    → pos 0 +ℤ (pos 0 +ℤ (pos 0 +ℤ (pos 0 +ℤ (pos 0 +ℤ (a +ℤ t))))) ≡ b +ℤ u
five_none a b t u e f =
    +ℤ_idl _ ∙ (+ℤ_idl _ ∙ (+ℤ_idl _ ∙ (+ℤ_idl _ ∙ (+ℤ_idl (a +ℤ t) ∙ (λ i. e i +ℤ f i)))))

-- Whatever plan they find and whatever comes behind them adds t.
pub adds_named : (x : Form) (rs : List Request) (t : ℤ) (k : ℕ) → k < 5 → ((p : Plan) → total rs p k ≡ t)
    → (p : Plan) → total (values_of x ++ rs) p k ≡ named_by x k +ℤ t
unfolding total
adds_named other rs t k l h p = h p ∙ sym (+ℤ_idl t)
adds_named (speed n) rs t k l h p = ap (λ (y : ℤ). pos 0 +ℤ y) (h p)
adds_named stop rs t k l h p = ap (λ (y : ℤ). pos 0 +ℤ y) (h p)
adds_named (move x y) rs t k l h p =
    five (λ (j : ℕ). ((q : Plan) → total rs q j ≡ t) → total (values_of (move x y) ++ rs) p j ≡ of_axis x y j +ℤ t)
    (λ g. five_none _ _ _ _ (directed_back x) (g _))
    (λ g. five_none _ _ _ _ (directed_back y) (g _))
    (λ g. five_none (pos 0) (pos 0) _ _ refl (g _))
    (λ g. five_none (pos 0) (pos 0) _ _ refl (g _))
    (λ g. five_none (pos 0) (pos 0) _ _ refl (g _))
    k l h

-- ---- The answer

-- Its first places hold the values.
pub answered_is : (c : List ℕ) → answered c ≡ values_in c
unfolding convert_of
answered_is c = take-append_seam (values_in c) _

pub number_is : (c : List ℕ) → (convert_of c).number ≡ number_of c
unfolding convert_of
number_is c = refl

-- ---- A list of commands

-- The values of all.
unfoldable all_values : List (List ℕ) → List Request
all_values [] = []
all_values (c ∷ cs) = values_in c ++ all_values cs

-- A command that no number turns away has the values of its form, which is in its ranges.
pub in_range_lem : (c : List ℕ) → number_of c ≡ 0 → is_out (form_of c) ≡ false
unfolding number_of
in_range_lem c e = by_tests (is_unknown c) (is_lacked c) (is_out (form_of c)) e
  where
    by_tests : (a b d : Bool) → cond {A = ℕ} a 27 (cond b 28 (cond d 29 0)) ≡ 0 → d ≡ false
    by_tests true b d f = absurd (omega (arith, f))
    by_tests false true d f = absurd (omega (arith, f))
    by_tests false false true f = absurd (omega (arith, f))
    by_tests false false false f = refl

pub values_are : (c : List ℕ) → number_of c ≡ 0 → values_in c ≡ values_of (form_of c)
unfolding values_in
values_are c e = λ i. cond (eqb (e i) 0) (values_of (form_of c)) []

plain_joined : (rs qs : List Request) → are_plain rs ≡ true → are_plain qs ≡ true → are_plain (rs ++ qs) ≡ true
unfolding are_plain
plain_joined [] qs e f = f
plain_joined (r ∷ rs) qs e f =
    let a = both (has_line r) _ e in
    let b = both (is_plain r.command) _ a.1 in
    both_true (has_line r) _ a.0 (both_true (is_plain r.command) _ b.0 (plain_joined rs qs b.1 f))

all_plain : (cs : List (List ℕ)) → are_converted cs ≡ true → are_plain (all_values cs) ≡ true
unfolding all_values are_converted
all_plain [] e = plain_values other refl
all_plain (c ∷ cs) e =
    let a = both _ _ e in
    let n = sym (number_is c) ∙ eqb-true (convert_of c).number 0 a.0 in
    plain_joined (values_in c) (all_values cs)
    (ap are_plain (values_are c n) ∙ plain_values (form_of c) (in_range_lem c n)) (all_plain cs a.1)

written_joined : (rs qs : List Request) → written (rs ++ qs) ≡ written rs ++ written qs
unfolding written
written_joined [] qs = refl
written_joined (r ∷ rs) qs =
    ap (λ (l : List ℕ). line_of r ++ l) (written_joined rs qs) ∙ sym (append_assoc (line_of r) (written rs) (written qs))

all_lines : (cs : List (List ℕ)) → lines_of cs ≡ written (all_values cs)
unfolding lines_of all_values written
all_lines [] = refl
all_lines (c ∷ cs) =
    (λ i. written (answered_is c i) ++ all_lines cs i) ∙ sym (written_joined (values_in c) (all_values cs))

all_named : (cs : List (List ℕ)) (k : ℕ) → k < 5 → are_converted cs ≡ true → (p : Plan)
    → total (all_values cs) p k ≡ named cs k
unfolding all_values are_converted named total
all_named [] k l e p = refl
all_named (c ∷ cs) k l e p =
    let a = both _ _ e in
    ap (λ (rs : List Request). total (rs ++ all_values cs) p k)
    (values_are c (sym (number_is c) ∙ eqb-true (convert_of c).number 0 a.0))
    ∙ adds_named (form_of c) (all_values cs) (named cs k) k l (all_named cs k l a.1) p

-- Where no move runs, an axis stands where it will.
at_rest : (s : ℕ) (h : List Call) (k : ℕ) → goes_on s h ≡ false → due (state s h) k ≡ position s h k
at_rest s h k e =
    (λ i. position s h k +ℤ directed ((state s h).move.plan.minus k)
    (cond (((told s h).goes ∙ e) i) ((state s h).move.plan.distance k - (state s h).move.travel k) 0))
    ∙ (ap (λ (z : ℤ). position s h k +ℤ z) (no_step ((state s h).move.plan.minus k)) ∙ +ℤ_idr (position s h k))

pub executes : Executes
executes s h f cs k l x =
    sym (at_rest s (onto f h) k x.ended)
    ∙ (in_lines s h f (all_values cs) k l (received_is s h ∙ x.fresh) (x.lines ∙ all_lines cs)
    (all_plain cs x.converted) x.undisturbed
    (λ r. true_false (state s h).move.moving r ((told s h).goes ∙ x.rests))
    ∙ (λ i. at_rest s h k x.rests i +ℤ all_named cs k l x.converted (state s h).next i))
