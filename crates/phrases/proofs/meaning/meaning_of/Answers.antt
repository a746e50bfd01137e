-- `meaning_of` meets its contract, by its callees' answers. Assumes nothing.
use Prim.Native.Nat.{ℕ}
use mathlib.Core.Path.{ap, ◌∙◌}
use Rattle.sentences.specs.Sentences.{place_of}
use Rattle.phrases.specs.Meanings.{meant_by, meant_at}
use Rattle.phrases.proofs.meaning.meaning_of.Goals as goal

pub returns : goal.returns
unfolding meant_by
returns c =
    c.meant_at.ensures ∙ ap (λ (k : ℕ). meant_at k c.args.body.now)
    (c.place_of.ensures.value ∙ ap place_of c.part.ensures)
