-- The first word of the text. Assumes nothing.
use mathlib.Core.Path.{ap, ◌∙◌}
use Rattle.station.specs.Forms.{word}
use Rattle.station.proofs.names.name_of.Goals as goal

pub returns : goal.returns
returns c = c.part.ensures ∙ ap (word 0) c.text_of.ensures
