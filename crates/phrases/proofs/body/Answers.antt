-- The form without `silent ` and the identification. Assumes nothing.
use Prim.Native.Nat.{ℕ}
use mathlib.Core.Path.{ap, ◌∙◌}
use mathlib.Core.List.{List}
use Rattle.block.specs.Block.{front_of}
use Rattle.phrases.specs.declared.Named.{Named}
use Rattle.phrases.specs.Phrases.{named_of}
use Rattle.phrases.proofs.body.Goals as goal

pub returns : goal.returns
returns c =
    c.front.ensures
    ∙ (ap (λ (n : Named). front_of c.unsilenced-rest.result.now n.length) c.ident_in-named.ensures
    ∙ ap (λ (x : List ℕ). front_of x (named_of x).length) c.unsilenced-rest.ensures)
