-- A line begins with `silent ` where its front does. Assumes nothing.
use Prim.Native.Nat.{ℕ}
use mathlib.Core.Path.{ap, ◌∙◌}
use mathlib.Core.List.{List}
use Rattle.text.specs.Parts.{same}
use Rattle.machine.specs.Calls.{chars}
use Rattle.phrases.proofs.is_silent.Goals as goal

pub returns : goal.returns
returns c = c.same.ensures ∙ ap (λ (x : List ℕ). same x (chars "silent ")) c.front.ensures
