-- All bytes of a slice, each once and in order. The invariant: calls made the session, and it is the bench after the
-- bytes so far. The measure is the bytes left. Assumes nothing.
use Rattle.std.proofs.Common.{length, ◌-◌, ◌≤◌, ◌≡◌, take}
use Rattle.session.specs.Lines.{after}
use Rattle.session.specs.Session.{held_bench, Running, Runs}
use Rattle.console.proofs.pass_all.Given as goal

abbrev pub invariant-loop-i : goal.invariant-loop-i
invariant-loop-i g l = record {
  within : l.i ≤ length l.bytes;
  room : 65536 ≡ length l.out;
  running : Running l.session;
  reached : Runs l.fn.s (λ x. l.session ≡ held_bench (after x (take l.i l.bytes)));
}

abbrev pub decreases-loop-i : goal.decreases-loop-i
decreases-loop-i g l = length l.bytes - l.i
