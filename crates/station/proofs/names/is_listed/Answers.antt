-- The search through the table of all names. Assumes nothing.
use mathlib.Core.Path.{◌∙◌, ◌≡◌}
use Rattle.station.specs.Names.{names}
use Rattle.station.proofs.NameLaws.{found, found_is}
use Rattle.station.proofs.names.is_listed.Goals as goal

pub returns : goal.returns
unfolding names
returns c =
    let e : c.contains.result ≡ found c.args.name.now names = c.contains.ensures.value in
    e ∙ found_is c.args.name.now names
