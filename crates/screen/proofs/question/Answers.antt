-- What is printed to a line that asks for no trial. Assumes nothing.
use mathlib.Core.List.{[]}
use mathlib.Core.Path.{ap, ◌∙◌}
use Rattle.text.specs.Text.{writes}
use Rattle.text.specs.declared.Text.{Text}
use Rattle.text.proofs.TextLaws.{writes_holding}
use Rattle.screen.specs.Screen.{question_text}
use Rattle.screen.proofs.question.Goals as goal

pub returns : goal.returns
returns c =
    c.characters.ensures
    ∙ ap (λ (t : Text). writes t question_text) c.new.ensures ∙ writes_holding [] question_text
