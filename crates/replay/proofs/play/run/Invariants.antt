-- So many ticks. The invariant: the controller, the digest and the buffer are those of the ticks so far, after every
-- list of calls that leaves the first controller. Assumes nothing.
use mathlib.Core.Path.{◌≡◌}
use lib.ListN.{length}
use Rattle.controller.specs.Reach.{Reachable}
use Rattle.replay.proofs.PlayLaws.{Ticking, Lent}
use Rattle.replay.proofs.play.run.Given as goal

abbrev pub invariant-loop : goal.invariant-loop
invariant-loop l =
    Reachable l.initial.played.controller × (length l.buf ≡ length l.initial.buf)
    × Ticking l.word l.initial.buf l.initial.played l.counter l.played
    × Lent l.word l.initial.buf l.initial.played l.counter l.buf
