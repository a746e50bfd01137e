-- The first axis that is the longest, or the last one where none before it is. Assumes nothing.
use native.Mathlib.Omega.{arith}
use mathlib.Core.Bool.{not}
use mathlib.Core.Path.{sym, ap, ◌∙◌}
use Rattle.host.proofs.MasterLaws.{Passed, first_longest, first_master, last_is}
use Rattle.host.proofs.pick_master.Goals as goal

pub returns-then-not-some_longer : goal.returns-then-not-some_longer
returns-then-not-some_longer c =
    let d = c.args.distances in
    let k = c.loop-k.k in
    let e = ap not (sym c.some_longer.ensures ∙ c.if-not-some_longer.true) in
    let p = c.loop-k.invariant in
    record { value = first_master d k (omega arith) e p; longest = first_longest d k (omega arith) e p }

pub returns : goal.returns
returns c =
    let d = c.args.distances in
    let p : Passed d 4 = λ j h. c.loop-k.invariant j (omega arith) in
    let e = last_is d p in
    record { value = first_master d 4 (omega arith) e p; longest = first_longest d 4 (omega arith) e p }
