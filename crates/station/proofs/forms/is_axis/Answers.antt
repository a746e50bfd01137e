-- X or Y: the search through both. Assumes nothing.
use mathlib.Core.List.{[], ◌∷◌}
use mathlib.Core.Path.{◌∙◌, ◌≡◌}
use Rattle.station.proofs.NameLaws.{found, found_two}
use Rattle.station.proofs.forms.is_axis.Goals as goal

pub returns : goal.returns
returns c =
    let e : c.contains.result ≡ found c.args.w.now ("X" ∷ "Y" ∷ []) = c.contains.ensures.value in
    e ∙ found_two c.args.w.now "X" "Y"
