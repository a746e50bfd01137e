-- docs/PROTOCOL.md, "From words": the desk after bytes.
use Rattle.std.specs.Prelude.{ℕ, List}
use Rattle.std.specs.List.{fold}
use Rattle.wording.specs.Wording.{taken_of}
use Rattle.wording.specs.declared.Desk.{Desk}

-- Each byte is taken, one after another.
abbrev pub told : Desk → List ℕ → Desk
told = fold (λ d b. (taken_of d b).desk)
