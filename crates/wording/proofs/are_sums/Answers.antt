-- Five parts, and sums all of them. Assumes nothing.
use Rattle.std.proofs.Common.{rules}
use Rattle.std.specs.List.{list_all, range_with_len}
use Rattle.std.proofs.lemmas.Iterator.{YieldsList-from_range}
use Rattle.std.proofs.lemmas.Iterator.Search.{all_from_yields_List}
use borrow.Author.Tests.{tests}
use Prim.Native.Nat.{ℕ}
use mathlib.Core.Bool.{Bool, true, false, cond, ◌&&◌}
use mathlib.Core.List.{List}
use mathlib.Core.Path.{◌≡◌, refl, sym, ◌∙◌}
use Rattle.laws.proofs.Pick.{on_eq}
use Rattle.text.specs.Parts.{parts}
use Rattle.wording.specs.Wording.{is_sum_at, sums_in}
use Rattle.wording.proofs.are_sums.Goals as goal

five : (l : List ℕ) → list_all (is_sum_at l) (range_with_len 0 5) ≡ sums_in 5 l
unfolding sums_in
five l = when (is_sum_at l 0) (is_sum_at l 1) (is_sum_at l 2) (is_sum_at l 3) (is_sum_at l 4)
  where
    when : (a b d e f : Bool)
        → a && (b && (d && (e && (f && true))))
        ≡ cond (cond (cond (cond (cond true a false) b false) d false) e false) f false
    when true true true true true = refl
    when true true true true false = refl
    when true true true false f = refl
    when true true false e f = refl
    when true false d e f = refl
    when false b d e f = refl

pub returns-then-parts-eq5 : goal.returns-then-parts-eq5
returns-then-parts-eq5 c =
    let l = c.args.line.now in
    on_eq (parts 32 l) 5 _ _ _ (sym c.parts.ensures ∙ c.if-parts-eq5.true)
    (all_from_yields_List (is_sum_at l) _ _ c.all.result c.all.ensures.ran (YieldsList-from_range 0 5 5 refl refl)
    (λ x b q k. search (rules, tests))
    ∙ five l)
