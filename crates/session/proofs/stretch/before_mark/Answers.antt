-- How many bytes stand before the first line feed or 0D. Assumes nothing.
use Rattle.std.proofs.Common.{◌∙◌, rules, tests}
use Rattle.std.proofs.lemmas.Iterator.{YieldsList-from_slice}
use Rattle.std.proofs.lemmas.Iterator.Search.{position_from_yields_List}
use Rattle.session.specs.Stretch.{is_mark}
use Rattle.session.proofs.StretchLaws.{marked_at}
use Rattle.session.proofs.stretch.before_mark.Goals as goal

pub returns : goal.returns
returns c =
    c.unwrap_or.ensures
    ∙ marked_at c.args.bytes.now c.position.result
    (position_from_yields_List is_mark _ _ _ c.position.ensures.ran (YieldsList-from_slice c.args.bytes.now cc)
    (λ x b q k. search (rules, tests)))
