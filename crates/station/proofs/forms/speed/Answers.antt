-- Each test in turn: the words, the axis, the speed. Assumes nothing.
use Prim.Native.Nat.{ℕ}
use mathlib.Core.Bool.{Bool, ◌||◌}
use mathlib.Core.List.{List}
use mathlib.Core.Path.{◌≡◌, sym, ap, ◌∙◌}
use Rattle.laws.proofs.Pick.{on_eq, on_true}
use Rattle.numerals.specs.Numerals.{spelled_of}
use Rattle.station.specs.declared.forms.Form.TheVariants as F
use Rattle.station.specs.Forms.{words, word, is_x, is_y}
use Rattle.station.proofs.FormLaws.{mapped, rate_of, speed_read}
use Rattle.station.proofs.forms.speed.Goals as goal

abbrev is_axis : List ℕ → Bool
is_axis w = is_x w || is_y w

pub returns : goal.returns
returns c =
    let t = c.args.t.now in
    let axis : c.is_axis.result ≡ is_axis (word 1 t) = c.is_axis.ensures ∙ ap is_axis c.part.ensures in
    let number = c.read_decimal.ensures ∙ ap (spelled_of 10) c.part-2.ensures in
    on_eq (words t) 3 _ _ _ (sym c.parts.ensures ∙ c.if-parts-ne3.false)
    (on_true _ _ _ _ (sym axis ∙ c.if-not-is_axis.false)
    (mapped F.Speed c.read_decimal.result _ c.map.ensures.cases ∙ ap rate_of number))
    ∙ speed_read t
