-- The whole input, and its end: bytes may be passed to what the reads made of the session, so calls made it. Assumes
-- nothing.
use Rattle.std.proofs.Common.{[]}
use Rattle.bench.proofs.run.Goals as goal

pub finish-requires : goal.finish-requires
finish-requires c = c.in_ok-end.ensures.1 (record { ref_ptr = (0, 0); now = [] })
