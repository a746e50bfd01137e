-- The answer to the characters held. Assumes nothing.
use Prim.Native.Nat.{ℕ}
use mathlib.Core.List.{List}
use mathlib.Core.Path.{ap, ◌∙◌}
use Rattle.text.specs.Text.{holding}
use Rattle.wording.specs.Wording.{answer_of}
use Rattle.wording.proofs.Desk.answered.Goals as goal

pub returns : goal.returns
returns c =
    c.answer.ensures.value ∙ ap (λ (l : List ℕ). holding (answer_of l)) c.bytes.ensures
