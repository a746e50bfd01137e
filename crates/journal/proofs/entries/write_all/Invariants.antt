-- Number by number. The invariant: the numbers so far stand from the given place on. Assumes nothing.
use Prim.Native.Nat.{◌+◌}
use mathlib.Core.Path.{◌≡◌}
use lib.ListN.{length, take}
use Rattle.block.specs.Block.{put}
use Rattle.journal.specs.Entries.{spell_all}
use Rattle.journal.proofs.entries.write_all.Given as goal

abbrev pub invariant-loop-n : goal.invariant-loop-n
invariant-loop-n l = record {
  place : l.place ≡ l.at + length (spell_all (take l.n-index l.n-items));
  buf : l.buf ≡ put l.at (spell_all (take l.n-index l.n-items)) l.initial.buf;
}
