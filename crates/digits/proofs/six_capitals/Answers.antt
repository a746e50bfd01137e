-- `six_capitals` meets its contract: each return, by the tests and the answers that led there. Assumes nothing.
use Rattle.digits.specs.Digits.{six_of}
use Rattle.digits.proofs.six_capitals.Goals as goal

pub returns : goal.returns
unfolding six_of
returns c = cc
