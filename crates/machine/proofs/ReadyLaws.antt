-- What a start that no number of 12 to 17 turns away has, and a carry-on that 26 does not. Assumes nothing.
use Prim.Native.Nat.{ℕ, ◌≤◌, ◌<◌}
use mathlib.Core.Bool.{Bool, true, false, cond, not}
use mathlib.Core.Path.{◌≡◌, refl}
use native.Mathlib.Omega.{arith}
use borrow.Author.Tests.{eqb-false, ltb-true, ltb-false, not-true, not-false}
use lib.Dec.{ltb, eqb}
use Rattle.laws.specs.Axes.{some}
use Rattle.laws.proofs.Some.{none_of}
use Rattle.laws.proofs.Tests.{both}
use Rattle.machine.specs.State.{Machine}
use Rattle.machine.specs.Stops.{sensor_active, blocked}
use Rattle.machine.specs.Shares.{whole, gone}
use Rattle.machine.specs.Starts.{
  start_number,
  new_move,
  outside,
  final,
  can_carry_on,
  carry_number,
  onwards,
}
use Rattle.machine.proofs.ShareLaws.{share_none}
use Rattle.machine.proofs.Runs.{Good}

pub passed : (t : Bool) (n x : ℕ) → 0 < n → cond t n x ≡ 0 → (t ≡ false) × (x ≡ 0)
passed true n x h e = absurd (omega (arith, e))
passed false n x h e = (refl, e)

-- What no number of 12 to 17 turns away.
pub record Ready (m : Machine) (k : ℕ) : Type 0 where
  pub positive : 0 < m.next.distance k
  pub longest : (j : ℕ) → j < 5 → m.next.distance j ≤ m.next.distance k
  pub inside : (j : ℕ) → j < 5 → outside (final m m.next j) ≡ false

pub ready : (m : Machine) (k : ℕ) → start_number m k ≡ 0 → Ready m k
ready m k e =
    let p12 = passed m.flags.emergency 12 _ (omega arith) e in
    let p13 = passed (sensor_active m) 13 _ (omega arith) p12.1 in
    let p14 = passed (some (λ j. ltb (m.next.distance k) (m.next.distance j))) 14 _ (omega arith) p13.1 in
    let p15 = passed (eqb (m.next.distance k) 0) 15 _ (omega arith) p14.1 in
    let p16 = passed (blocked m m.next) 16 _ (omega arith) p15.1 in
    let p17 = passed (some (λ j. outside (final m m.next j))) 17 _ (omega arith) p16.1 in
    record {
      positive = above p15.0;
      longest = λ j h. ltb-false (m.next.distance k) (m.next.distance j)
          (none_of (λ j. ltb (m.next.distance k) (m.next.distance j)) p14.0 j h);
      inside = none_of (λ j. outside (final m m.next j)) p17.0;
    }
  where
    above : eqb (m.next.distance k) 0 ≡ false → 0 < m.next.distance k
    above q = let h : m.next.distance k ≡ 0 → ⊥ = eqb-false (m.next.distance k) 0 q in omega (arith, h)

pub good_new : (m : Machine) (k : ℕ) → Ready m k → Good (new_move m.next k)
good_new m k r = record {
  axis = λ j h. share_none (m.next.distance j) (m.next.distance k) (r.longest j h);
  under = λ q. r.positive;
  fixed = λ q. refl;
}

-- What a carry-on has that 26 does not turn away: the move is short of its end, and no distance line came since.
pub record Resumable (m : Machine) : Type 0 where
  pub short : gone m.move < whole m.move
  pub fixed : m.move.replanned ≡ false

pub resumable : (m : Machine) → carry_number m ≡ 0 → Resumable m
resumable m e =
    let p26 = passed (not (can_carry_on m)) 26 _ (omega arith) e in
    let can = both _ _ (not-false (can_carry_on m) p26.0) in
    record {
      short = ltb-true (gone m.move) (whole m.move) can.0;
      fixed = not-true m.move.replanned can.1;
    }

pub good_onwards : (m : Machine) → Good m.move → Resumable m → Good (onwards m.move)
good_onwards m g r = record { axis = g.axis; under = λ q. r.short; fixed = λ q. r.fixed }
