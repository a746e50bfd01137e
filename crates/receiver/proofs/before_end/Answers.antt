-- As many as the library counts. Assumes nothing.
use Rattle.std.proofs.Common.{◌∙◌, rules, tests, not}
use Rattle.std.proofs.lemmas.Iterator.{YieldsList-from_slice}
use Rattle.std.proofs.lemmas.Iterator.Consumers.{YieldsList-at, count_from_yields_List}
use Rattle.std.proofs.lemmas.Iterator.Search.{YieldsList-from_take_while}
use Rattle.std.proofs.lemmas.List.Folds.{length-prefix_len}
use lib.Dec.{eqb}
use Rattle.receiver.proofs.Laws.{length_before_end}
use Rattle.receiver.proofs.before_end.Goals as goal

pub returns : goal.returns
returns c =
    count_from_yields_List c.take_while.result _ c.count.ensures.ran
    (YieldsList-from_take_while _ (λ b. not (eqb b 13))
    (YieldsList-at c.take_while.ensures.source (YieldsList-from_slice c.args.bytes.now cc))
    c.take_while.ensures.closure c.take_while.ensures.done (λ x b q k. search (rules, tests)))
    ∙ (length-prefix_len _ c.args.bytes.now ∙ length_before_end c.args.bytes.now)
