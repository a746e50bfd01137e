-- Characters one after another, ten of them at most. Assumes nothing.
use Rattle.std.proofs.Common.{◌∙◌, rules, tests}
use Rattle.std.proofs.lemmas.Iterator.{YieldsList-from_slice, YieldsList-from_take}
use Rattle.std.proofs.lemmas.Iterator.Consumers.{fold_from_yields_List}
use Rattle.receiver.specs.Receiver.{push_of}
use Rattle.receiver.proofs.Laws.{ten_folded}
use Rattle.receiver.proofs.Receiver.push_all.Goals as goal

pub returns : goal.returns
returns c =
    fold_from_yields_List _ push_of c.args.self _ c.fold.ensures.ran
    (YieldsList-from_take 10 (YieldsList-from_slice c.args.cs.now cc) cc)
    (λ a x r q k. search (rules, tests))
    ∙ ten_folded c.args.self c.args.cs.now
