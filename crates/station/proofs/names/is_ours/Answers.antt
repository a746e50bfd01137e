-- The search through the table of the four. Assumes nothing.
use mathlib.Core.List.{[], ◌∷◌}
use mathlib.Core.Path.{◌∙◌, ◌≡◌}
use Rattle.station.proofs.NameLaws.{found, found_four}
use Rattle.station.proofs.names.is_ours.Goals as goal

pub returns : goal.returns
returns c =
    let w = c.args.name.now in
    let e : c.contains.result ≡ found w ("SPD" ∷ "INC" ∷ "LNI" ∷ "SST" ∷ []) = c.contains.ensures.value in
    e ∙ found_four w "SPD" "INC" "LNI" "SST"
