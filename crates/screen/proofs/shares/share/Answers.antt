-- A share: of nothing 0, else cut off; a part is at most all. Assumes nothing.
use native.Mathlib.Omega.{arith}
use Rattle.screen.proofs.ShareLaws.{share_none, share_some, quotient_most}
use Rattle.screen.proofs.shares.share.Goals as goal

pub returns-then-all-eq0 : goal.returns-then-all-eq0
returns-then-all-eq0 c = share_none c.args.part c.args.all c.if-all-eq0.true

pub overflow_cast-result-2 : goal.overflow_cast-result-2
overflow_cast-result-2 c =
    record { fits = omega (arith, quotient_most c.args.part c.args.all c.requires) }

pub returns : goal.returns
returns c =
    share_some c.args.part c.args.all c.if-all-eq0.false
