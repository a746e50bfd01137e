-- The line and 00 behind it, as a text holds them. Assumes nothing.
use mathlib.Core.List.{[]}
use mathlib.Core.Path.{ap, ◌∙◌}
use Rattle.text.specs.Text.{holding, writes}
use Rattle.text.specs.declared.Text.{Text}
use Rattle.text.proofs.TextLaws.{writes_last, writes_holding}
use Rattle.wording.specs.Stations.{command_in}
use Rattle.wording.proofs.stations.command.Goals as goal

pub returns : goal.returns
returns c =
    writes_last (holding []) c.args.line.now 0
    (c.characters.ensures ∙ ap (λ (t : Text). writes t c.args.line.now) c.new.ensures)
    c.with.ensures
    ∙ writes_holding [] (command_in c.args.line.now)
