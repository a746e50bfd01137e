-- The nearest form, of the first 100 characters. Assumes nothing.
use Prim.Native.Nat.{ℕ}
use mathlib.Core.Path.{ap, ◌∙◌}
use mathlib.Core.List.{List}
use Rattle.text.specs.Text.{writes}
use Rattle.text.specs.Parts.{part}
use Rattle.sentences.specs.Sentences.{question_text}
use Rattle.phrases.specs.Phrases.{unsilenced, overlong_text}
use Rattle.phrases.proofs.overlong.Goals as goal

pub returns : goal.returns
unfolding overlong_text
returns c =
    c.question.ensures.value
    ∙ ap (λ (x : List ℕ). writes c.args.text (question_text x))
    (c.part.ensures ∙ ap (part 32 0) (c.unsilenced-first.ensures ∙ ap unsilenced c.front.ensures))
