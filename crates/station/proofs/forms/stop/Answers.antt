-- One of the four texts. Assumes nothing.
use Rattle.std.specs.Bool.{then_some}
use mathlib.Core.Bool.{Bool, true, false, cond}
use mathlib.Core.List.{[], ◌∷◌}
use mathlib.Core.Path.{refl, ap, ◌∙◌, ◌≡◌}
use Rattle.station.specs.declared.forms.Form.TheVariants as F
use Rattle.station.specs.Forms.{stop, other}
use Rattle.station.specs.Held.{held_form}
use Rattle.station.proofs.NameLaws.{found, found_four}
use Rattle.station.proofs.forms.stop.Goals as goal

held : (t : Bool) → then_some t F.Stop ≡ held_form (cond t stop other)
held true = refl
held false = refl

pub returns : goal.returns
returns c =
    let t = c.args.t.now in
    let e : c.contains.result ≡ found t ("SST X" ∷ "SST Y" ∷ "SST X,Y" ∷ "SST X, Y" ∷ []) = c.contains.ensures.value in
    c.then_some.ensures ∙ held c.contains.result
    ∙ ap (λ (b : Bool). held_form (cond b stop other)) (e ∙ found_four t "SST X" "SST Y" "SST X,Y" "SST X, Y")
