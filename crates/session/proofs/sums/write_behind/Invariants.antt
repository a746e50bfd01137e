-- Sum by sum. The invariant: as many of them as turns stand behind what stood before them, of twelve bytes at most each.
-- Assumes nothing.
use Rattle.std.proofs.Common.{◌≡◌, ◌≤◌, ◌+◌, ◌*◌, length}
use Rattle.block.specs.Block.{put}
use Rattle.session.specs.Text.{sums_text}
use Rattle.session.proofs.sums.write_behind.Given as goal

abbrev pub invariant-loop-k : goal.invariant-loop-k
invariant-loop-k l =
    (l.end ≤ l.at + 12 * l.k)
    × (l.end ≡ l.at + length (sums_text l.k l.sum-items)) × (l.buf ≡ put l.at (sums_text l.k l.sum-items) l.initial.buf)
