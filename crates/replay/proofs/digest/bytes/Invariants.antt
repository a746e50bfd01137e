-- Byte by byte. The invariant: the bytes so far are mixed in. Assumes nothing.
use mathlib.Core.Path.{◌≡◌}
use lib.ListN.{take}
use Rattle.replay.specs.Digest.{mixed_bytes}
use Rattle.replay.proofs.digest.bytes.Given as goal

abbrev pub invariant-loop-b : goal.invariant-loop-b
invariant-loop-b l = l.digest ≡ mixed_bytes l.h (take l.b-index l.buf)
