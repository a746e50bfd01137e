-- A start, a carry-on, and the stages of a tick before its pulses, keep a machine in range. Assumes nothing.
use Prim.Native.Nat.{ℕ, ◌-◌, ◌<◌}
use mathlib.Core.Bool.{Bool, true, false, cond}
use mathlib.Core.Path.{◌≡◌, refl, sym, subst, ◌∙◌}
use native.Mathlib.Omega.{arith}
use borrow.Author.Tests.{eqb-true}
use lib.Dec.{eqb}
use Rattle.laws.proofs.Pick.{by_bool}
use Rattle.reply.specs.Reply.{bias}
use Rattle.machine.specs.State.{Move, Machine, Waiting, none, start, with_move, with_pause}
use Rattle.machine.specs.Stops.{takes, cause, stops, stopping}
use Rattle.machine.specs.Starts.{start_number, begun, carried}
use Rattle.machine.specs.Steps.{Tried, failed, began, try_start, try_waiting, tries, waits, looks}
use Rattle.machine.proofs.Runs.{Good}
use Rattle.machine.proofs.PositionLaws.{Room, leaves_is, room_of}
use Rattle.machine.proofs.ReadyLaws.{Ready, ready, good_new, Resumable, good_onwards}
use Rattle.machine.proofs.Fits.{WaitingFits, PauseFits, Fits, fits_of, fits_same}

no_travel : (d : ℕ) → d - 0 ≡ d
no_travel d = omega arith

pub fits_begun : (m : Machine) (k : ℕ) → Fits m → k < 5 → Ready m k → Fits (begun m k)
fits_begun m k f h r =
    fits_of _ f.settings f.next (record {
      good = good_new m k r;
      plan = f.next;
      master = h;
      speed = omega arith;
      phase = omega arith;
      ticks = λ q. omega arith;
      within = λ j l. omega arith;
    }) (record { inside = f.places.inside; room = fresh })
    (record { left = omega arith; waiting = omega arith })
  where
    fresh : (j : ℕ) → j < 5 → Room (m.next.minus j) (bias (m.position j)) (m.next.distance j - 0)
    fresh j l =
        subst (Room (m.next.minus j) (bias (m.position j))) (sym (no_travel (m.next.distance j)))
        (room_of (m.next.minus j) (bias (m.position j)) (m.next.distance j)
        (leaves_is (m.next.minus j) (m.position j) (m.next.distance j) (f.places.inside j l) ∙ r.inside j l))

pub fits_carried : (m : Machine) → Fits m → Resumable m → Fits (carried m)
fits_carried m f r =
    fits_of _ f.settings f.next (record {
      good = good_onwards m f.move.good r;
      plan = f.move.plan;
      master = f.move.master;
      speed = omega arith;
      phase = omega arith;
      ticks = λ q. omega arith;
      within = f.move.within;
    }) (record { inside = f.places.inside; room = f.places.room })
    (record { left = omega arith; waiting = omega arith })

-- ---- The tick, stage by stage

pub fits_takes : (m : Machine) (w : ℕ) → Fits m → Fits (takes m w)
fits_takes m w f = fits_same m _ f refl refl refl refl refl

-- A tick of the dwell, after which the start w waits.
fits_pause : (m : Machine) (w : Waiting) → Fits m → WaitingFits w
    → Fits (with_pause m (record { left = m.pause.left - 1; waiting = w }))
fits_pause m w f h =
    fits_of _ f.settings f.next f.move f.places
    (record { left = let q = f.pause.left in omega (arith, q); waiting = h })

fits_try : (m : Machine) (k : ℕ) → Fits m → k < 5 → Fits (waits m (try_start m k))
fits_try m k f h = when (eqb (start_number m k) 0) refl
  where
    when : (b : Bool) → eqb (start_number m k) 0 ≡ b → Fits (waits m (cond b (began k) (failed (start_number m k))))
    when true e = fits_begun m k f h (ready m k (eqb-true (start_number m k) 0 e))
    when false e = fits_same _ _ (fits_pause m none f (omega arith)) refl refl refl refl refl

fits_waiting : (m : Machine) (w : Waiting) → Fits m → WaitingFits w → Fits (waits m (try_waiting m w))
fits_waiting m none f h = fits_pause m _ f f.pause.waiting
fits_waiting m (start k) f h = fits_try m k f h

pub fits_waits : (m : Machine) → Fits m → Fits (waits m (tries m))
fits_waits m f =
    by_bool (λ (S : Tried). Fits (waits m S)) (eqb m.pause.left 1) _ _
    (λ e. fits_waiting m m.pause.waiting f f.pause.waiting)
    (λ e. fits_waiting m none f (omega arith))

good_stopping : (v : Move) → Good v → Good (stopping v)
good_stopping v g = record { axis = g.axis; under = g.under; fixed = g.fixed }

pub fits_stopping : (m a : Machine) → Fits m → a.settings ≡ m.settings → a.next ≡ m.next
    → a.move ≡ stopping m.move → a.position ≡ m.position → PauseFits a.pause → Fits a
fits_stopping m a f s n v p q =
    let g = fits_same b (with_pause a b.pause) under s n v p refl in
    fits_of a g.settings g.next g.move g.places q
  where
    b : Machine
    b = with_move m (stopping m.move)

    under : Fits b
    under =
        fits_of b f.settings f.next (record {
          good = good_stopping m.move f.move.good;
          plan = f.move.plan;
          master = f.move.master;
          speed = f.move.speed;
          phase = f.move.phase;
          ticks = f.move.ticks;
          within = f.move.within;
        }) (record { inside = f.places.inside; room = f.places.room }) f.pause

pub fits_stops : (m : Machine) → Fits m → Fits (stops m)
fits_stops m f =
    by_bool Fits (cause m) _ _ (λ e. fits_stopping m _ f refl refl refl refl f.pause) (λ e. f)

pub fits_looks : (m : Machine) (w : ℕ) → Fits m → Fits (looks m w)
fits_looks m w f = fits_waits (takes m w) (fits_takes m w f)
