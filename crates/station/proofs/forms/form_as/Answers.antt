-- The four names, one after another. Assumes nothing.
use Prim.Native.Nat.{ℕ}
use mathlib.Core.Bool.{Bool}
use mathlib.Core.List.{List}
use mathlib.Core.Path.{◌≡◌, ap, ◌∙◌}
use Rattle.std.specs.Str.{bytes_eq}
use Rattle.laws.proofs.Pick.{tolds}
use Rattle.text.specs.Parts.{same}
use Rattle.text.proofs.PartLaws.{equal_same}
use Rattle.station.proofs.FormLaws.{name_read}
use Rattle.station.proofs.forms.form_as.Goals as goal

-- The answer r of `==` for a name and the slice p, which holds w.
equal : (r : Bool) (name p w : List ℕ) → r ≡ bytes_eq name p → p ≡ w → r ≡ same name w
equal r name p w e f = e ∙ equal_same name p ∙ ap (same name) f

pub returns-then-eq : goal.returns-then-eq
returns-then-eq c = search (tolds, equal) depth 15 ∙ name_read c.args.t.now c.args.name.now

pub returns-then-eq-2 : goal.returns-then-eq-2
returns-then-eq-2 c = search (tolds, equal) depth 15 ∙ name_read c.args.t.now c.args.name.now

pub returns-then-eq-3 : goal.returns-then-eq-3
returns-then-eq-3 c = search (tolds, equal) depth 15 ∙ name_read c.args.t.now c.args.name.now

pub returns-then-eq-4 : goal.returns-then-eq-4
returns-then-eq-4 c = search (tolds, equal) depth 15 ∙ name_read c.args.t.now c.args.name.now

pub returns : goal.returns
returns c = search (tolds, equal) depth 15 ∙ name_read c.args.t.now c.args.name.now
