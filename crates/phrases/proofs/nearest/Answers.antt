-- The form that is nearest to the first word of a form. Assumes nothing.
use Prim.Native.Nat.{ℕ}
use mathlib.Core.Path.{ap, ◌∙◌}
use mathlib.Core.List.{List}
use Rattle.text.specs.Text.{writes}
use Rattle.text.specs.Parts.{part}
use Rattle.sentences.specs.Sentences.{question_text}
use Rattle.phrases.proofs.nearest.Goals as goal

pub returns : goal.returns
returns c =
    c.question.ensures.value
    ∙ ap (λ (x : List ℕ). writes c.args.text (question_text x))
    (c.part.ensures ∙ ap (part 32 0) c.body.ensures)
