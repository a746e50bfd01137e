-- Open distances are in range where the distances are. Assumes nothing.
use Prim.Native.Nat.{ℕ, ◌-◌, ◌≤◌, ◌<◌}
use mathlib.Core.Path.{sym, subst}
use native.Mathlib.Omega.{arith}
use lib.ListN.{get_or}
use Rattle.controller.specs.declared.state.Plan.{Plan}
use Rattle.controller.specs.declared.state.Counters.{Counters}
use Rattle.controller.specs.Inner.Parts.{travel_at}
use Rattle.controller.specs.Inner.Start.{StartFits}
use Rattle.controller.specs.Inner.Carry.{open_at_of, open_plan_of}
use Rattle.controller.proofs.TickLaws.{each_at}
use Rattle.controller.proofs.carry.carry_number.Goals as goal

open_fits : (p : Plan) (c : Counters) → StartFits p c → StartFits (open_plan_of p c) c
open_fits p c f = record {
  distance = λ k h. subst (λ (n : ℕ). n ≤ 524287) (sym (each_at (open_at_of p c) 0 k h)) (less k h);
  position = f.position;
}
  where
    less : (k : ℕ) → k < 5 → get_or p.distances k 0 - (travel_at c k).0 ≤ 524287
    less k h = let q = f.distance k h in omega (arith, q)

pub some_leave-requires : goal.some_leave-requires
some_leave-requires c =
    subst (λ (p : Plan). StartFits p c.args.hot.counters) (sym c.open_plan-open.ensures)
    (open_fits c.args.hot.plan c.args.hot.counters c.requires.start)
