-- The lines of the values behind the first, one after another. The invariant: those so far stand behind the first.
-- Assumes nothing.
use mathlib.Core.Path.{◌≡◌}
use lib.ListN.{take}
use Rattle.text.specs.Text.{writes}
use Rattle.wording.specs.Stations.{more_text}
use Rattle.wording.proofs.stations.lines.Given as goal

abbrev pub invariant-loop-value : goal.invariant-loop-value
invariant-loop-value l = l.told ≡ writes l.initial.told (more_text (take l.value-index l.more))
