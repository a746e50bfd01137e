-- A received byte keeps a machine in range. Assumes nothing.
use Rattle.line.specs.declared.Accepted.{Accepted}
use Rattle.line.specs.declared.Refusal.{Refusal}
use Rattle.std.proofs.Common.{Option, Result, Ok, Err}
use Prim.Native.Nat.{ℕ, ◌-◌, ◌≤◌, ◌<◌}
use mathlib.Core.Bool.{Bool, true, false, cond, ◌&&◌}
use mathlib.Core.List.{List}
use mathlib.Core.Path.{◌≡◌, refl, subst}
use native.Mathlib.Omega.{arith}
use borrow.Author.Tests.{leb-true, eqb-true}
use Rattle.laws.proofs.Tests.{true_false, and_true}
use lib.Dec.{ltb, leb, eqb}
use lib.ListN.{length}
use Rattle.laws.proofs.Pick.{by_bool, by_eq}
use Rattle.line.specs.declared.command.Command.{Command}
use Rattle.line.specs.declared.command.Command.TheVariants as C
use Rattle.line.specs.Line.{silent_of, ident_of, judge_of, refusal_number}
use Rattle.line.specs.Ranges.{top_speed, top_slope, setting_fits}
use Rattle.line.specs.Fits.{CommandFits, JudgedFits}
use Rattle.line.proofs.Ranges.{within, axis, distance, by_code}
use Rattle.line.proofs.Fits.{judge_fits}
use Rattle.receiver.specs.Receiver.{Receipt}
use Rattle.machine.specs.State.{Move, Machine, none, with_move, with_settings, with_watch, with_flags}
use Rattle.machine.specs.Stops.{stopping, marks}
use Rattle.machine.specs.Starts.{start_number, begun, carried, notes}
use Rattle.machine.specs.Commands.{number, does, stores, drops, keeps_start, replans, obeys}
use Rattle.machine.specs.Steps.{Outcome, refused, decided, outcome_of, outcome, answered, heard_by}
use Rattle.machine.proofs.PositionLaws.{Room}
use Rattle.machine.proofs.ReadyLaws.{passed, ready, resumable}
use Rattle.machine.proofs.Fits.{SettingsFit, MoveFits, PauseFits, Fits, fits_of, fits_same}
use Rattle.machine.proofs.FitStageLaws.{fits_begun, fits_carried, fits_stopping}

-- A machine that differs in its settings.
fits_set : (m a : Machine) → Fits m → SettingsFit a.settings → a.next ≡ m.next → a.move ≡ m.move
    → a.position ≡ m.position → a.pause ≡ m.pause → Fits a
fits_set m a f s n v p q =
    let g = fits_same m (with_settings a m.settings) f refl n v p q in
    fits_of a s g.next g.move g.places g.pause

reset_room : (s : Bool) (d t : ℕ) → d ≤ 524287 → Room s 524288 (d - t)
reset_room true d t h = omega arith
reset_room false d t h = omega arith

fits_setting : (m : Machine) (b code v : ℕ) → Fits m → setting_fits code v ≡ true
    → Fits (with_watch (does (heard_by m b) (C.Set code v)) 0)
fits_setting m b code v f h =
    fits_set m _ f (record {
      moves = by_eq (λ (x : ℕ). 0 < x) code 8 _ _ (λ q. (within v 1 top_speed (rw q at h)).0) (λ _. f.settings.moves);
      speed = by_eq (λ (x : ℕ). x ≤ top_speed) code 8 _ _ (λ q. (within v 1 top_speed (rw q at h)).1)
          (λ _. f.settings.speed);
      rises = by_eq (λ (x : ℕ). 0 < x) code 9 _ _ (λ q. (within v 1 top_slope (rw q at h)).0) (λ _. f.settings.rises);
      slope = by_eq (λ (x : ℕ). x ≤ top_slope) code 9 _ _ (λ q. (within v 1 top_slope (rw q at h)).1)
          (λ _. f.settings.slope);
      dwell = by_eq (λ (x : ℕ). x ≤ 16383) code 10 _ _ (λ q. leb-true v 16383 (rw q at h)) (λ _. f.settings.dwell);
    }) refl refl refl refl

fits_starting : (m : Machine) (b k : ℕ) (w : Bool) → Fits m → k < 5 → number m (C.Start k w) ≡ 0
    → Fits (with_watch (does (heard_by m b) (C.Start k w)) 0)
fits_starting m b k w f h e = when (stores m w) refl
  where
    p11 : (m.move.moving && true ≡ false) × (cond (stores m w) 0 (start_number m k) ≡ 0)
    p11 = passed (m.move.moving && true) 11 _ (omega arith) e

    when : (t : Bool) → stores m w ≡ t
        → Fits (with_watch (cond t (keeps_start (heard_by m b) k)
        (begun (heard_by m b) k)) 0)
    when true q =
        fits_of _ f.settings f.next f.move f.places (record { left = f.pause.left; waiting = h })
    when false q =
        fits_same (begun m k) _
        (fits_begun m k f h (ready m k (subst (λ (t : Bool). cond t 0 (start_number m k) ≡ 0) q p11.1)))
        refl refl refl refl refl

fits_stop : (m : Machine) (b : ℕ) → Fits m → Fits (with_watch (obeys (heard_by m b) 9) 0)
fits_stop m b f = when m.move.moving
  where
    dropped : PauseFits (record { left = m.pause.left; waiting = none })
    dropped = record { left = f.pause.left; waiting = omega arith }

    when : (t : Bool) → Fits (with_watch (drops (cond t
        (with_flags (with_move (heard_by m b) (stopping m.move)) (marks m.flags true false)) (heard_by m b))) 0)
    when true = fits_stopping m _ f refl refl refl refl dropped
    when false = fits_of _ f.settings f.next f.move f.places dropped

fits_carrying : (m : Machine) (b : ℕ) → Fits m → number m (C.Order 12) ≡ 0
    → Fits (with_watch (obeys (heard_by m b) 12) 0)
fits_carrying m b f e =
    fits_same (carried m) _
    (fits_carried m f (resumable m (passed (m.move.moving && true) 11 _ (omega arith) e).1))
    refl refl refl refl refl

fits_order : (m : Machine) (b code : ℕ) → Fits m → number m (C.Order code) ≡ 0
    → Fits (with_watch (obeys (heard_by m b) code) 0)
fits_order m b code f =
    by_code (λ (k : ℕ). number m (C.Order k) ≡ 0 → Fits (with_watch (obeys (heard_by m b) k) 0)) (λ e. fits_stop m b f)
    (λ e. fits_same m _ f refl refl refl refl refl)
    (λ e. fits_of _ f.settings f.next f.move (record {
      inside = λ k l. refl;
      room = λ k l. reset_room (m.move.plan.minus k) (m.move.plan.distance k) (m.move.travel k)
          (f.move.plan k l);
    }) f.pause)
    (fits_carrying m b f)
    (λ k p q r t e. rw (p, q, r, t) (fits_same m _ f refl refl refl refl refl)) code

-- A distance line at rest.
fits_replans : (v : Move) → MoveFits v → v.moving ≡ false → MoveFits (replans v)
fits_replans v f e = record {
  good = record {
    axis = f.good.axis;
    under = f.good.under;
    fixed = λ q. true_false v.moving q e;
  };
  plan = f.plan;
  master = f.master;
  speed = f.speed;
  phase = f.phase;
  ticks = f.ticks;
  within = f.within;
}

pub fits_does : (m : Machine) (b : ℕ) (c : Command) → Fits m → CommandFits c → number m c ≡ 0
    → Fits (with_watch (does (heard_by m b) c) 0)
fits_does m b (C.Distance k s d) f h e =
    fits_of _ f.settings
    (λ j l. by_bool (λ (x : ℕ). x ≤ 524287) (eqb j k) _ _ (λ q. let r = (distance k s d h).1 in omega (arith, r))
    (λ q. f.next j l)) (fits_replans m.move f.move still)
    (record { inside = f.places.inside; room = f.places.room }) f.pause
  where
    still : m.move.moving ≡ false
    still = and_true m.move.moving (passed (m.move.moving && true) 11 _ (omega arith) e).0
fits_does m b (C.Set code v) f h e = fits_setting m b code v f h
fits_does m b (C.Start k w) f h e = fits_starting m b k w f (axis k h) e
fits_does m b (C.Order code) f h e = fits_order m b code f e
fits_does m b (C.Outputs v) f h e = fits_same m _ f refl refl refl refl refl
fits_does m b (C.Read r) f h e = fits_same m _ f refl refl refl refl refl

fits_refused : (m : Machine) (b n : ℕ) (silent : Bool) (ident : Option ℕ) → Fits m
    → Fits (answered m b (refused n silent ident)).machine
fits_refused m b n silent ident f = when (leb 10 n)
  where
    when : (t : Bool) → Fits (cond t (notes (with_watch (heard_by m b) 0) n) (heard_by m b))
    when true = fits_same m _ f refl refl refl refl refl
    when false = fits_same m _ f refl refl refl refl refl

fits_decided : (m : Machine) (b : ℕ) (silent : Bool) (ident : Option ℕ) (j : Result Accepted Refusal) → Fits m → JudgedFits j
    → Fits (answered m b (decided m silent ident j)).machine
fits_decided m b silent ident (Err r) f h = fits_refused m b (refusal_number r) silent ident f
fits_decided m b silent ident (Ok a) f h =
    by_bool (λ (o : Outcome). Fits (answered m b o).machine) (eqb (number m a.command) 0) _ _
    (λ e. fits_same (with_watch (does (heard_by m b) a.command) 0) _ (fits_does m b a.command f h.command (eqb-true (number m a.command) 0 e))
    refl refl refl refl refl)
    (λ e. fits_refused m b (number m a.command) silent ident f)

pub fits_byte : (m : Machine) (b : ℕ) (buffer : List ℕ) → Fits m → Fits (answered m b (outcome m b buffer)).machine
fits_byte m b buffer f =
    by_bool (λ (o : Outcome). Fits (answered m b o).machine) (ltb (length buffer) 120) _ _
    (λ e. f)
    (λ e. by_bool (λ (r : Receipt). Fits (answered m b (outcome_of m r.heard)).machine) (eqb b 13) _ _
    (λ q. fits_decided m b (silent_of m.line) (ident_of m.line) (judge_of m.line) f (judge_fits m.line))
    (λ q. fits_same m _ f refl refl refl refl refl))
