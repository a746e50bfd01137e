-- The very word in a row of the table of words. Assumes nothing.
use mathlib.Core.Path.{ap, ◌∙◌}
use mathlib.Core.List.{List}
use Prim.Native.Nat.{ℕ}
use Rattle.text.specs.Parts.{same}
use Rattle.text.proofs.PartLaws.{equal_same}
use Rattle.sentences.specs.Sentences.{keywords}
use Rattle.sentences.proofs.is_word.Goals as goal

pub returns : goal.returns
unfolding keywords
returns c =
    c.eq.ensures ∙ (equal_same _ _ ∙ ap (λ (x : List ℕ). same x c.args.w.now) c.part.ensures)
