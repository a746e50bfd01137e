-- What each takes, together: seven groups at most. Assumes nothing.
use Rattle.std.proofs.Common.{rules, sum, map}
use Rattle.std.proofs.lemmas.Iterator.{YieldsList-from_slice}
use Rattle.std.proofs.lemmas.Iterator.Adapters.{fits_from_length, at_most_from_yields_List}
use Prim.Native.Nat.{◌^◌, ◌≤◌}
use native.Mathlib.Omega.{arith}
use mathlib.Core.Path.{◌≡◌, ◌∙◌}
use lib.ListN.{length}
use Rattle.journal.specs.Numbers.{groups}
use Rattle.journal.proofs.SpellLaws.{spell_sum}
use Rattle.journal.proofs.entries.total.Goals as goal

pub sum-requires-clause-fits : goal.sum-requires-clause-fits
sum-requires-clause-fits c =
    let few : length c.args.values ≤ 7 = search rules in
    fits_from_length _ _ 7 (2 ^ 64) (at_most_from_yields_List (YieldsList-from_slice c.args.values cc) few)
    c.map.ensures.closure (omega arith) (λ x r q k. search rules)

pub returns : goal.returns
returns c =
    let e : c.sum.result ≡ sum (map (λ n. length (groups 6 n)) c.args.values) = search rules in
    e ∙ spell_sum c.args.values
