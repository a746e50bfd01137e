-- Each test in turn: the words, the axis, the distance. Assumes nothing.
use Prim.Native.Nat.{ℕ, ◌+◌}
use mathlib.Core.Bool.{Bool, not}
use mathlib.Core.List.{List}
use mathlib.Core.Path.{◌≡◌, refl, sym, ap, ◌∙◌}
use borrow.Author.Tests.{not-true, not-false}
use Rattle.std.specs.Str.{bytes_eq}
use Rattle.laws.proofs.Pick.{on_eq, on_ne, on_true, on_false}
use Rattle.text.specs.Parts.{same}
use Rattle.text.proofs.PartLaws.{equal_same}
use Rattle.numerals.specs.Numerals.{signed_of}
use Rattle.station.specs.Forms.{words}
use Rattle.station.specs.Held.{measured_of}
use Rattle.station.proofs.NumberLaws.{distance_in}
use Rattle.station.proofs.FormLaws.{mapped, point_read}
use Rattle.station.proofs.points.point_in.Goals as goal
use Rattle.station.proofs.points.point_in.Goals.{then-parts-k-via-then-parts-k, then-parts-k-via-else-parts-k+then-ne}

-- The answer r of `!=` for the word p, which is w, and the axis.
another : (r : Bool) (p w axis : List ℕ) → r ≡ not (bytes_eq p axis) → p ≡ w → not (same w axis) ≡ r
another r p w axis e f = sym (e ∙ ap not (equal_same p axis ∙ ap (λ (x : List ℕ). same x axis) f))

pub returns-then-parts-k : goal.returns-then-parts-k
returns-then-parts-k c =
    let a = c.args in
    elim c.then-parts-k.branch [
      | then-parts-k-via-then-parts-k w ↦
          on_ne (words a.t.now) (a.k + 2) _ _ _ (λ e. w.if-parts-k.true (c.parts.ensures ∙ e)) refl
          ∙ point_read a.t.now a.k a.axis.now
      | then-parts-k-via-else-parts-k+then-ne w ↦
          on_eq (words a.t.now) (a.k + 2) _ _ _ (sym c.parts.ensures ∙ w.if-parts-k.false)
          (on_false _ _ _ _ (not-true _ (another w.ne.result _ _ a.axis.now w.ne.ensures w.part.ensures ∙ w.if-ne.true)) refl)
          ∙ point_read a.t.now a.k a.axis.now
    ]

pub returns : goal.returns
returns c =
    let a = c.args in
    let distance = c.read_signed.ensures ∙ ap signed_of c.part-2.ensures in
    on_eq (words a.t.now) (a.k + 2) _ _ _ (sym c.parts.ensures ∙ c.if-parts-k.false)
    (on_true _ _ _ _ (not-false _ (another c.ne.result _ _ a.axis.now c.ne.ensures c.part.ensures ∙ c.if-ne.false))
    (mapped measured_of c.read_signed.result _ c.map.ensures.cases ∙ ap distance_in distance))
    ∙ point_read a.t.now a.k a.axis.now
