-- Check 8 by the two cases of the row, 9 and 10 each met or passed. Assumes nothing.
use Rattle.std.proofs.Common.{rules}
use Rattle.line.specs.Line.{judge_row}
use Rattle.line.proofs.Laws.{refuse, pass}
use Rattle.line.proofs.judge_row.Goals as goal

pub returns-then-not-within : goal.returns-then-not-within
unfolding judge_row
returns-then-not-within c = rw c.in-Some.is (search (rules, refuse))

pub returns-then-not-fits : goal.returns-then-not-fits
unfolding judge_row
returns-then-not-fits c = rw c.in-Some.is (search (rules, refuse, pass))

pub returns : goal.returns
unfolding judge_row
returns c = rw c.in-Some.is (search (rules, pass))

pub returns-in_default : goal.returns-in_default
unfolding judge_row
returns-in_default c = rw c.in_default.is
