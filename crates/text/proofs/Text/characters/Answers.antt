-- Bytes one after another. Assumes nothing.
use Rattle.std.proofs.Common.{◌∙◌, rules, tests}
use Rattle.std.proofs.lemmas.Iterator.{YieldsList-from_slice}
use Rattle.std.proofs.lemmas.Iterator.Consumers.{fold_from_yields_List}
use Rattle.text.specs.Text.{push_of}
use Rattle.text.proofs.TextLaws.{writes_folded}
use Rattle.text.proofs.Text.characters.Goals as goal

pub returns : goal.returns
returns c =
    fold_from_yields_List _ push_of c.args.self _ c.fold.ensures.ran (YieldsList-from_slice c.args.cs.now cc)
    (λ a x r q k. search (rules, tests))
    ∙ writes_folded c.args.self c.args.cs.now
