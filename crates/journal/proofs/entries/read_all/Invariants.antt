-- Number by number. The invariant: what is read from the given place on is what was read so far, with what is read from
-- this place on. Assumes nothing.
use mathlib.Core.Path.{◌≡◌}
use lib.ListN.{length, take, drop}
use Rattle.journal.specs.Entries.{ranges, read_all}
use Rattle.journal.specs.Inner.{found_at}
use Rattle.journal.proofs.JudgeLaws.{resumed}
use Rattle.journal.proofs.entries.read_all.Given as goal

abbrev pub invariant-loop-k : goal.invariant-loop-k
invariant-loop-k l = record {
  long : length l.value-items ≡ 7;
  read : found_at l.at (read_all ranges (drop l.at l.bytes))
      ≡ resumed (take l.k l.value-items) l.place (read_all (drop l.k ranges) (drop l.place l.bytes));
}
