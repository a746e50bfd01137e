-- Three bytes, and capitals all of them. Assumes nothing.
use Rattle.std.proofs.Common.{rules}
use Rattle.std.specs.Char.{is_ascii_uppercase}
use Rattle.std.specs.List.{list_all}
use Rattle.std.proofs.lemmas.Iterator.{YieldsList-from_slice}
use Rattle.std.proofs.lemmas.Iterator.Search.{all_from_yields_List}
use borrow.Author.Tests.{tests}
use Prim.Native.Nat.{ℕ}
use native.Mathlib.Omega.{arith}
use mathlib.Core.Bool.{Bool, true, false, cond, ◌&&◌}
use mathlib.Core.List.{List, [], ◌∷◌}
use mathlib.Core.Path.{◌≡◌, refl, ◌∙◌}
use lib.ListN.{length}
use Rattle.wording.specs.Stations.{is_capital, is_name}
use Rattle.wording.proofs.stations.is_name.Goals as goal

three : (w : List ℕ) → length w ≡ 3 → list_all is_ascii_uppercase w ≡ is_name w
three [] h = absurd (omega (arith, h))
three (a ∷ []) h = absurd (omega (arith, h))
three (a ∷ b ∷ []) h = absurd (omega (arith, h))
three (a ∷ b ∷ c ∷ []) h = when (is_capital a) (is_capital b) (is_capital c)
  where
    when : (p q r : Bool) → p && (q && (r && true)) ≡ cond p (cond q r false) false
    when true true true = refl
    when true true false = refl
    when true false r = refl
    when false q r = refl
three (a ∷ b ∷ c ∷ d ∷ w) h = absurd (omega (arith, h))

pub returns-then-word-eq3 : goal.returns-then-word-eq3
returns-then-word-eq3 c =
    let w = c.args.word.now in
    all_from_yields_List is_ascii_uppercase _ _ c.all.result c.all.ensures.ran (YieldsList-from_slice w cc)
    (λ x b q k. search (rules, tests))
    ∙ three w c.if-word-eq3.true
