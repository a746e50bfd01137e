-- The whole input, and its end: bytes may be passed to what the reads made of the preview, so calls made its session.
-- Assumes nothing.
use Rattle.std.proofs.Common.{[]}
use Rattle.preview.proofs.run.Goals as goal

pub finish-requires : goal.finish-requires
finish-requires c = c.in_ok-end.ensures.1 (record { ref_ptr = (0, 0); now = [] })
