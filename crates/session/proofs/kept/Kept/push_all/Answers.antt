-- Characters one after another, on every list so kept. Assumes nothing.
use Rattle.std.proofs.Common.{◌∙◌, rules, tests}
use Rattle.std.proofs.lemmas.Iterator.{YieldsList-from_slice}
use Rattle.std.proofs.lemmas.Iterator.Consumers.{fold_from_yields_List}
use Rattle.session.specs.Kept.{push_of}
use Rattle.session.proofs.KeptLaws.{kept_all}
use Rattle.session.proofs.kept.Kept.push_all.Goals as goal

pub returns : goal.returns
returns c =
    λ l e. fold_from_yields_List _ push_of c.args.self _ c.fold.ensures.ran (YieldsList-from_slice c.args.cs.now cc)
    (λ a x r q k. search (rules, tests))
    ∙ kept_all c.args.cs.now c.args.self l e
