-- Number by number, each by its range. Assumes nothing.
use Rattle.std.proofs.Common.{rules, MatchBool}
use Prim.Native.Nat.{ℕ, ◌<◌}
use mathlib.Core.Bool.{true, false}
use mathlib.Core.Path.{◌≡◌}
use lib.ListN.{get_or}
use Rattle.journal.specs.Entries.{within}
use Rattle.journal.specs.Inner.{range_at}
use Rattle.journal.proofs.RangeLaws.{all_fit}
use Rattle.journal.proofs.entries.fit.Goals as goal

pub returns : goal.returns
returns c =
    let each : MatchBool c.all.result ((k : ℕ) → k < 7 → within (range_at k) (get_or c.args.values k 0) ≡ true)
    ((k : ℕ) × (k < 7) × (within (range_at k) (get_or c.args.values k 0) ≡ false)) = search rules in
    all_fit c.args.values (search rules) c.all.result each
