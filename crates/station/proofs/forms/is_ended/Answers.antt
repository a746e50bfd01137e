-- Two parts at 00, the second of them empty. Assumes nothing.
use Prim.Native.Nat.{ℕ}
use native.Mathlib.Omega.{arith}
use mathlib.Core.List.{List, [], ◌∷◌}
use mathlib.Core.Path.{◌≡◌, refl, sym, ap, ◌∙◌}
use borrow.Author.Tests.{eq-eqb, ne_eqb}
use lib.Dec.{eqb}
use lib.ListN.{length}
use Rattle.text.specs.Parts.{parts, same}
use Rattle.station.proofs.forms.is_ended.Goals as goal

-- A row without a byte is the same as none.
empty : (w : List ℕ) → eqb (length w) 0 ≡ same w []
unfolding same
empty [] = refl
empty (x ∷ xs) = ne_eqb (length (x ∷ xs)) 0 (λ (q : length (x ∷ xs) ≡ 0). omega (arith, q))

pub returns-then-parts-eq2 : goal.returns-then-parts-eq2
returns-then-parts-eq2 c =
    rw (eq-eqb (parts 0 c.args.command.now) 2 (sym c.parts.ensures ∙ c.if-parts-eq2.true))
    (c.is_empty.ensures ∙ empty c.part.result.now ∙ ap (λ x. same x []) c.part.ensures)
