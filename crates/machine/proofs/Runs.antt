-- What a tick's ramp keeps of the latest move and what it leaves of the machine, and how a move ends at m = M. Assumes
-- nothing.
use Prim.Native.Nat.{ℕ, ◌+◌, ◌≤◌, ◌<◌}
use mathlib.Core.Bool.{true, false}
use mathlib.Core.Path.{◌≡◌}
use native.Mathlib.Omega.{arith}
use lib.IntN.{ℤ, pos, ◌+ℤ◌, nat_abs}
use Rattle.laws.specs.Axes.{directed}
use Rattle.machine.specs.State.{Move, Machine}
use Rattle.machine.specs.Shares.{whole, gone}
use Rattle.machine.specs.Ramp.{tallied}
use Rattle.machine.specs.List.{is_pulse}
use Rattle.machine.proofs.ShareLaws.{Share}

-- What is kept of the latest move: each axis has its exact share, and a move that runs is short of its end, with no
-- distance line since it began.
pub record Good (v : Move) : Type 0 where
  pub axis : (k : ℕ) → k < 5 → Share (v.plan.distance k) (whole v) (gone v) (v.travel k)
  pub under : v.moving ≡ true → gone v < whole v
  pub fixed : v.moving ≡ true → v.replanned ≡ false

-- One tick more leaves it so.
pub good_tallied : (m : Machine) → Good m.move → Good (tallied m).move
good_tallied m g = record { axis = g.axis; under = g.under; fixed = g.fixed }

-- The end of a move at m = M: each axis at its distance, with a pulse in that very tick.
pub record Whole (v : Move) (z : ℕ → ℤ) : Type 0 where
  pub reached : gone v ≡ whole v
  pub there : (k : ℕ) → k < 5 → v.travel k ≡ v.plan.distance k
  pub last : (k : ℕ) → k < 5 → 0 < v.plan.distance k → nat_abs (z k) ≡ 1

-- What running leaves of m, in a: z are the pulses.
pub record Runs (m : Machine) (z : ℕ → ℤ) (a : Machine) : Type 0 where
  pub good : Good a.move
  pub plan : a.move.plan ≡ m.move.plan
  pub master : a.move.master ≡ m.move.master
  pub next : a.next ≡ m.next
  pub count : (k : ℕ) → k < 5 → a.move.travel k ≡ m.move.travel k + is_pulse (z k)
  pub sum : (k : ℕ) → a.position k ≡ m.position k +ℤ z k
  pub single : (k : ℕ) → k < 5 → nat_abs (z k) ≤ 1
  pub sign : (k : ℕ) → k < 5 → 0 < nat_abs (z k) → z k ≡ directed (m.move.plan.minus k) 1
  pub rests : m.move.moving ≡ false → (k : ℕ) → z k ≡ pos 0
  pub still : m.move.moving ≡ false → a.move.moving ≡ false
  pub stopping : a.move.moving ≡ true → a.move.stopping ≡ m.move.stopping
  pub replanned : a.move.replanned ≡ m.move.replanned
  pub ending : m.move.moving ≡ true → m.move.stopping ≡ false → a.move.moving ≡ false → Whole a.move z

-- What running leaves of m, counted with one tick more.
pub untallied : (m : Machine) (z : ℕ → ℤ) (a : Machine) → Runs (tallied m) z a → Runs m z a
untallied m z a r = record {
  good = r.good;
  plan = r.plan;
  master = r.master;
  next = r.next;
  count = r.count;
  sum = r.sum;
  single = r.single;
  sign = r.sign;
  rests = r.rests;
  still = r.still;
  stopping = r.stopping;
  replanned = r.replanned;
  ending = r.ending;
}

pub no_pulse : (t : ℕ) → t ≡ t + is_pulse (pos 0)
no_pulse t = omega arith
