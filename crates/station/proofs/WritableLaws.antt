-- The writer has a line for each value of a command: a form in its ranges has one to six, each in its own. Assumes
-- nothing.
use Prim.Native.Nat.{ℕ, ◌≤◌}
use native.Mathlib.Omega.{arith}
use mathlib.Core.Bool.{Bool, true, false, cond, not, ◌&&◌, ◌||◌, false≢true}
use mathlib.Core.List.{List, [], ◌∷◌}
use mathlib.Core.Path.{◌≡◌, refl, sym}
use borrow.Author.Tests.{ne_eqb}
use lib.Dec.{eqb}
use lib.ListN.{length}
use Rattle.laws.proofs.Tests.{both}
use Rattle.host.specs.Writer.{has_line}
use Rattle.host.specs.declared.Request.{Request}
use Rattle.station.specs.Names.{is_listed}
use Rattle.station.specs.Forms.{Form, other, speed, move, stop, is_ours, name_of, form_of}
use Rattle.station.specs.Station.{values_of, is_other, is_unknown, is_lacked, is_out, number_of, values_in}
use Rattle.station.specs.Writable.{are_lined, Writable}
use Rattle.station.proofs.CommandLaws.{is_plain}
use Rattle.station.proofs.ExecutedLaws.{plain_values}
use Rattle.station.proofs.LinesLaws.{are_plain}

-- ---- The values of a form

lined_plain : (rs : List Request) → are_plain rs ≡ true → are_lined rs ≡ true
unfolding are_plain are_lined
lined_plain [] e = refl
lined_plain (r ∷ rs) e =
    let a = both (has_line r) _ e in
    let b = both (is_plain r.command) (are_plain rs) a.1 in
    (λ i. a.0 i && lined_plain rs b.1 i)

values_most : (f : Form) → length (values_of f) ≤ 6
values_most other = omega arith
values_most (speed n) = omega arith
values_most (move x y) = omega arith
values_most stop = omega arith

values_some : (f : Form) → is_other f ≡ false → 1 ≤ length (values_of f)
values_some other e = let z : ◌≡◌ {A = ℕ} 0 1 = cc in absurd (omega arith)
values_some (speed n) e = omega arith
values_some (move x y) e = omega arith
values_some stop e = omega arith

-- ---- Of a command

-- The number n, and the values rs where it is 0.
record WritableBy (n : ℕ) (rs : List Request) : Type 0 where
  number : n ≤ 29
  some : n ≡ 0 → 1 ≤ length (cond (eqb n 0) rs [])
  most : length (cond (eqb n 0) rs []) ≤ 6
  lined : are_lined (cond (eqb n 0) rs []) ≡ true

turned : (n : ℕ) (rs : List Request) → n ≤ 29 → (n ≡ 0 → ⊥) → WritableBy n rs
unfolding are_lined
turned n rs h z = record {
  number = h;
  some = λ e. absurd (z e);
  most = rw (ne_eqb n 0 z) (omega arith);
  lined = rw (ne_eqb n 0 z);
}

by_tests : (a b d : Bool) (rs : List Request) → (a ≡ false → b ≡ false → 1 ≤ length rs) → length rs ≤ 6
    → (d ≡ false → are_lined rs ≡ true) → WritableBy (cond a 27 (cond b 28 (cond d 29 0))) rs
by_tests true b d rs f g h = turned 27 rs (omega arith) (λ (e : ◌≡◌ {A = ℕ} 27 0). omega (arith, e))
by_tests false true d rs f g h = turned 28 rs (omega arith) (λ (e : ◌≡◌ {A = ℕ} 28 0). omega (arith, e))
by_tests false false true rs f g h = turned 29 rs (omega arith) (λ (e : ◌≡◌ {A = ℕ} 29 0). omega (arith, e))
by_tests false false false rs f g h =
    record { number = omega arith; some = λ _. f refl refl; most = g; lined = h refl }

-- One of the four that has its form.
formed : (a b : Bool) (f : Form) → not a || (b && is_other f) ≡ false → not b ≡ false → is_other f ≡ false
formed true true f e g = e
formed true false f e g = absurd (false≢true (sym g))
formed false b f e g = absurd (false≢true (sym e))

pub writable : Writable
unfolding number_of values_in
writable l =
    let f = form_of l in
    let w = by_tests (is_unknown l) (is_lacked l) (is_out f) (values_of f)
    (λ e g. values_some f (formed (is_listed (name_of l)) (is_ours (name_of l)) f e g)) (values_most f)
    (λ e. lined_plain (values_of f) (plain_values f e)) in
    record { number = w.number; some = w.some; most = w.most; lined = w.lined }
