-- The first word of a line. Assumes nothing.
use mathlib.Core.Path.{ap, ◌∙◌}
use Rattle.wording.specs.Stations.{is_name, is_station}
use Rattle.wording.proofs.stations.is_station.Goals as goal

pub returns : goal.returns
unfolding is_station
returns c = c.is_name.ensures ∙ ap is_name c.part.ensures
