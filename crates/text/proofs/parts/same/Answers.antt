-- What `==` says of the two rows. Assumes nothing.
use Rattle.std.proofs.Common.{◌∙◌}
use Rattle.text.proofs.PartLaws.{equal_same}
use Rattle.text.proofs.parts.same.Goals as goal

pub returns : goal.returns
returns c = c.eq.ensures ∙ equal_same c.args.a.now c.args.b.now
