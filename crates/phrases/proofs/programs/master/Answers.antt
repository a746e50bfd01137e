-- The axis that the picker picks of five distances. Assumes nothing.
use Rattle.std.proofs.Common.{Option, None, Some}
use Prim.Native.Nat.{ℕ}
use mathlib.Core.Bool.{Bool, true, false, cond, false≢true}
use mathlib.Core.List.{List, [], ◌++◌}
use mathlib.Core.Path.{◌≡◌, sym, ap, ◌∙◌}
use Rattle.machine.specs.Calls.{chars}
use Rattle.host.specs.Master.{master_of}
use Rattle.text.specs.Text.{writes}
use Rattle.text.specs.Decimal.{decimal_of}
use Rattle.text.proofs.TextLaws.{joined}
use Rattle.phrases.specs.Phrases.{are_distances, distances_of, nearest_text}
use Rattle.phrases.proofs.programs.master.Goals as goal

abbrev is_some : Option (List ℕ) → Bool
is_some None = false
is_some (Some d) = true

abbrev held : Option (List ℕ) → List ℕ
held None = []
held (Some d) = d

-- What is printed of an axis.
abbrev axis_text : List ℕ → List ℕ
axis_text d = chars "master " ++ decimal_of (master_of d)

-- Where five distances were found, they are those of the line.
found : (t : Bool) {d : List ℕ} (e x : List ℕ) → cond t (Some e) None ≡ Some d → axis_text d ≡ cond t (axis_text e) x
found true e x p = ap (λ (o : Option (List ℕ)). axis_text (held o)) (sym p)
found false e x p = absurd (false≢true (ap is_some p))

pub returns : goal.returns
returns c =
    let l = c.args.line.now in
    joined c.args.text (chars "master ") _ c.characters.ensures
    (c.decimal.ensures ∙ ap (λ (n : ℕ). writes c.characters.result (decimal_of n)) c.pick_master.ensures.value)
    ∙ ap (writes c.args.text)
    (found (are_distances l) (distances_of l) (nearest_text l) (sym c.distances.ensures ∙ c.in-Some.is))
