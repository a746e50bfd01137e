-- One pass more. Assumes nothing.
use Rattle.std.proofs.Common.{ℕ, List, ◌++◌, [], ◌∷◌, ◌<◌, length, Result, Ok}
use Rattle.std.proofs.lemmas.Fn.{FoldsTo-push}
use denote.Ref.{Bor}
use Rattle.turns.specs.Turns.{Passes}

pub passes_more : {F T E : Type 0} (step : F → T → Bor (List ℕ) → Result T E → F → Type 0)
    (from to : F × T) (end : T) (last : F) {x : Bor (List ℕ)}
    → Passes step from to → step to.0 to.1 x (Ok end) last → 0 < length x.now → Passes step from (last, end)
passes_more {F} {T} step from to end last {x} h called some = (
  h.0 ++ (x ∷ []),
  FoldsTo-push {P = F × T} (λ p y q. (0 < length y.now) × step p.0 p.1 y (Ok q.1) q.0) from h.0 to x (last, end) h.1 (some, called),
)
