-- `zeros` meets its contract: the digits behind the first two, looked at one by one. Assumes nothing.
use Rattle.std.proofs.Common.{eqb, drop, ◌∙◌, rules, tests}
use Rattle.std.proofs.lemmas.Iterator.{YieldsList-from_slice}
use Rattle.std.proofs.lemmas.Iterator.Adapters.{YieldsList-from_skip}
use Rattle.std.proofs.lemmas.Iterator.Consumers.{YieldsList-at}
use Rattle.std.proofs.lemmas.Iterator.Search.{all_from_yields_List}
use Rattle.numerals.proofs.Laws.{all_noughts}
use Rattle.numerals.proofs.fraction.zeros.Goals as goal

pub returns : goal.returns
returns c =
    all_from_yields_List (λ x. eqb x 48) _ _ _ c.all.ensures.ran
    (YieldsList-from_skip 2 (YieldsList-at c.skip.ensures.source (YieldsList-from_slice c.args.cs.now cc))
    c.skip.ensures.count) (λ x b q k. search (rules, tests))
    ∙ all_noughts (drop 2 c.args.cs.now)
