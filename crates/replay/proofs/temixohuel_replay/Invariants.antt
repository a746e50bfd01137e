-- Call by call. The invariant: what is left are the bytes behind the calls so far, and the controller and the digest are
-- those of these calls. Assumes nothing.
use mathlib.Core.Path.{◌≡◌}
use Prim.Native.Nat.{◌*◌, ◌≤◌}
use lib.ListN.{length, drop}
use Rattle.std.specs.Slice.Iter.{chunks_exact_rest, chunks_exact_size}
use Rattle.replay.specs.Replay.{seen_after, held_seen}
use Rattle.replay.proofs.temixohuel_replay.Given as goal

abbrev pub invariant-loop-bytes : goal.invariant-loop-bytes
invariant-loop-bytes l =
    let j = length l.yielded in
    (chunks_exact_size l.bytes-iterator ≡ 9) × (9 * j ≤ length l.calls)
    × (chunks_exact_rest l.bytes-iterator ≡ drop (9 * j) l.calls)
    × (l.played ≡ held_seen l.switch (seen_after l.switch l.calls j))
