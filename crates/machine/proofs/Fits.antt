-- What every machine that calls make keeps: settings, distances, speed and phase in range, a running move's ticks no
-- more than it has gone, positions in range with room for what is left of it. Assumes nothing.
use Prim.Native.Nat.{ℕ, ◌+◌, ◌-◌, ◌*◌, ◌≤◌, ◌<◌}
use mathlib.Core.Bool.{true, false}
use mathlib.Core.Path.{◌≡◌, sym, subst}
use lib.IntN.{ℤ}
use Rattle.line.specs.Ranges.{top_speed, top_slope}
use Rattle.reply.specs.Reply.{bias}
use Rattle.machine.specs.State.{Settings, Plan, Move, Machine, Waiting, none, start, Pause}
use Rattle.machine.specs.Shares.{gone}
use Rattle.machine.specs.Ramp.{full}
use Rattle.machine.specs.Starts.{outside}
use Rattle.machine.proofs.Runs.{Good}
use Rattle.machine.proofs.PositionLaws.{Room}

pub record SettingsFit (s : Settings) : Type 0 where
  pub moves : 0 < s.speed
  pub speed : s.speed ≤ top_speed
  pub rises : 0 < s.slope
  pub slope : s.slope ≤ top_slope
  pub dwell : s.dwell ≤ 16383

abbrev pub PlanFits : Plan → Type 0
PlanFits p = (k : ℕ) → k < 5 → p.distance k ≤ 524287

abbrev pub WaitingFits : Waiting → Type 0
WaitingFits none = 0 < 1
WaitingFits (start k) = k < 5

pub record PauseFits (p : Pause) : Type 0 where
  pub left : p.left ≤ 4095750
  pub waiting : WaitingFits p.waiting

pub record MoveFits (v : Move) : Type 0 where
  pub good : Good v
  pub plan : PlanFits v.plan
  pub master : v.master < 5
  pub speed : v.speed ≤ full
  pub phase : v.phase < full
  -- each tick that does not end a move raises 50,000,000 × m + phase by its speed, which is 1 at least
  pub ticks : v.moving ≡ true → v.ticks ≤ full * gone v + v.phase
  pub within : (k : ℕ) → k < 5 → v.travel k ≤ v.plan.distance k

-- Each position is in range, and the latest move, running or not, has room for what is left of it.
pub record PlacesFit (v : Move) (p : ℕ → ℤ) : Type 0 where
  pub inside : (k : ℕ) → k < 5 → outside (p k) ≡ false
  pub room : (k : ℕ) → k < 5 → Room (v.plan.minus k) (bias (p k)) (v.plan.distance k - v.travel k)

pub record Fits (m : Machine) : Type 0 where
  pub settings : SettingsFit m.settings
  pub next : PlanFits m.next
  pub move : MoveFits m.move
  pub places : PlacesFit m.move m.position
  pub pause : PauseFits m.pause

-- A machine by its parts.
pub fits_of : (a : Machine) → SettingsFit a.settings → PlanFits a.next → MoveFits a.move
    → PlacesFit a.move a.position → PauseFits a.pause → Fits a
fits_of a s n v p q = record { settings = s; next = n; move = v; places = p; pause = q }

-- One that differs in no part that is kept in range.
pub fits_same : (m a : Machine) → Fits m → a.settings ≡ m.settings → a.next ≡ m.next → a.move ≡ m.move
    → a.position ≡ m.position → a.pause ≡ m.pause → Fits a
fits_same m a f s n v p q =
    fits_of a (subst SettingsFit (sym s) f.settings) (subst PlanFits (sym n) f.next)
    (subst MoveFits (sym v) f.move)
    (subst (λ (x : Move). PlacesFit x a.position) (sym v) (subst (PlacesFit m.move) (sym p) f.places))
    (subst PauseFits (sym q) f.pause)
