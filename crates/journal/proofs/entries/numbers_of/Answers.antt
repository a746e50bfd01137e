-- The seven numbers of an entry: each travel is stored as a number. Assumes nothing.
use Rattle.std.proofs.Common.{rules}
use Prim.Native.Nat.{ℕ, ◌<◌}
use mathlib.Core.List.{◌∷◌}
use mathlib.Core.Path.{◌≡◌}
use lib.IntN.{pos}
use lib.ListN.{get_or}
use Rattle.laws.proofs.Five.{five}
use Rattle.journal.specs.Numbers.{stored}
use Rattle.journal.proofs.RangeLaws.{five_stored}
use Rattle.journal.proofs.entries.numbers_of.Goals as goal

pub returns : goal.returns
returns c =
    let zs = c.args.entry.travels in
    let each : (k : ℕ) → k < 5 → get_or c.map.result k 0 ≡ stored (get_or zs k (pos 0)) =
    five (λ k. get_or c.map.result k 0 ≡ stored (get_or zs k (pos 0))) (search rules) (search rules) (search rules)
    (search rules) (search rules) in
    let stored_all = five_stored zs c.map.result (search rules) each in
    λ i. c.args.entry.ticks ∷ c.from.ensures i ∷ stored_all i
