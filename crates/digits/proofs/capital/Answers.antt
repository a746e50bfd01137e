-- `capital` meets its contract: each return, by the tests and the answers that led there. Assumes nothing.
use Rattle.laws.proofs.Pick.{picks}
use Rattle.digits.proofs.capital.Goals as goal

pub returns-then-low-lt10 : goal.returns-then-low-lt10
returns-then-low-lt10 c = search picks

pub returns : goal.returns
returns c = search picks
