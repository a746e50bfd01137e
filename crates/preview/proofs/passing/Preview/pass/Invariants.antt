-- The bytes of a read, one after another. The invariant: calls made the session. Assumes nothing.
use Rattle.session.specs.Session.{Running}
use Rattle.preview.proofs.passing.Preview.pass.Given as goal

abbrev pub invariant-loop-b : goal.invariant-loop-b
invariant-loop-b g l = Running l.preview.session
