-- So many ticks. The invariant: controller, sums, number and block are those of the ticks so far, on every machine so
-- held. Assumes nothing.
use Prim.Native.Nat.{◌≤◌}
use mathlib.Core.Path.{◌≡◌}
use lib.ListN.{length}
use Rattle.block.specs.Block.{over}
use Rattle.controller.specs.Reach.{Reachable, Made}
use Rattle.session.specs.Ticks.{blocks_of, ran_of}
use Rattle.session.proofs.ticks.run_ticks.Given as goal

abbrev pub invariant-loop : goal.invariant-loop
invariant-loop l =
    Reachable l.ran.controller × Reachable l.initial.ran.controller × (120 ≤ length l.buf)
    × (length l.buf ≡ length l.initial.buf)
    × Made l.initial.ran.controller (λ m. l.ran ≡ ran_of l.counter l.word m)
    × Made l.initial.ran.controller (λ m. l.buf ≡ over (blocks_of l.counter l.word m) l.initial.buf)
