-- Paper 02, 6/14, for every list of calls: the number that a line Q C meets, and what an accepted one does. Assumes
-- nothing.
use Rattle.std.proofs.Common.{Option}
use Prim.Native.Nat.{ℕ, ◌-◌, ◌<◌}
use mathlib.Core.Bool.{Bool, true, false, cond, not, ◌&&◌}
use mathlib.Core.List.{List, [], ◌∷◌}
use mathlib.Core.Path.{◌≡◌, refl, sym, ap, ◌∙◌}
use lib.IntN.{◌+ℤ◌}
use Rattle.laws.specs.Axes.{some, directed}
use Rattle.laws.specs.Bits.{bit}
use Rattle.laws.proofs.Some.{some_same, some_none}
use Rattle.line.specs.declared.command.Command.TheVariants as C
use Rattle.inputs.specs.Inputs.{blocked_at}
use Rattle.machine.specs.State.{Move, none, Machine, mark, with_move, with_watch, with_flags, with_pause}
use Rattle.machine.specs.Stops.{blocked, sensor_active, status}
use Rattle.machine.specs.Starts.{turned_by, outside, final, open_plan, carry_number}
use Rattle.machine.specs.Commands.{number}
use Rattle.machine.specs.Steps.{accepted, answered, heard_by, byte_step}
use Rattle.machine.specs.Calls.{Call, byte, run, state}
use Rattle.machine.specs.Carry.{
  carry_reply,
  open_after,
  final_after,
  stopped_short,
  carry_number_after,
  CarryLine,
  Onward,
  CarryOn,
}
use Rattle.machine.proofs.BitLaws.{status_moving, status_stopped, status_emergency, status_sensed}
use Rattle.machine.proofs.PositionLaws.{lies}
use Rattle.machine.proofs.FitLaws.{fits as in_range_lem}
use Rattle.machine.proofs.Told.{Told}
use Rattle.machine.proofs.ListLaws.{told}
use Rattle.machine.proofs.JournalLaws.{ticks_run}
use Rattle.machine.proofs.ShortLaws.{short_is}
use Rattle.machine.proofs.CarryLineLaws.{zeroes, told_number, told_reply, taken_is, refused_is}
use Rattle.machine.proofs.SettleLaws.{tied}

-- ---- The number

module _ (s : ℕ) (h : List Call) where
  abbrev m : Machine
  m = state s h

  abbrev t : Told s h
  t = told s h

  open_distance : (k : ℕ) → k < 5 → (open_plan m).distance k ≡ (open_after s h).distance k
  open_distance k l i = t.distances k i - t.counts k l i

  same_blocked : blocked m (open_plan m) ≡ blocked m (open_after s h)
  same_blocked =
      some_same _ _ (λ k l i. blocked_at m.settings.low_on m.settings.high_on m.inputs (open_distance k l i)
      (t.minuses k i) k)

  same_final : some (λ k. outside (final m (open_plan m) k)) ≡ some (λ k. outside (final_after s h k))
  same_final =
      some_same _ _ (λ k l i. outside (t.sums k i +ℤ directed (t.minuses k i) (open_distance k l i)))

  -- What is open stays in range.
  room : some (λ k. outside (final m (open_plan m) k)) ≡ false
  room = some_none _ (λ k l. (lies ((open_plan m).minus k) (m.position k) ((open_plan m).distance k)
      ((in_range_lem s h).places.inside k l) ((in_range_lem s h).places.room k l)).inside)

  -- By whether a move runs.
  number_is : number m (C.Order 12) ≡ carry_number_after s h
  number_is = when m.move.moving refl ∙ ap (λ (b : Bool). turned_by 11 b rest) t.goes
    where
      rest : ℕ
      rest =
          turned_by 26 (not (stopped_short s h))
          (turned_by 12 (bit (status m) 5)
          (turned_by 13 (sensor_active m)
          (turned_by 16 (blocked m (open_after s h))
          (turned_by 17 (some (λ k. outside (final_after s h k)))
          0))))

      when : (b : Bool) → m.move.moving ≡ b → turned_by 11 (b && true) (carry_number m) ≡ turned_by 11 b rest
      when true e = refl
      when false e = λ i.
          turned_by 26 (not (short_is s h e i))
          (turned_by 12 (sym (status_emergency m) i)
          (turned_by 13 (sensor_active m)
          (turned_by 16 (same_blocked i)
          (turned_by 17 (same_final i)
          0))))

-- ---- What an accepted one does

-- Bits 3 and 6 are cleared.
module _ (m : Machine) (b digits : ℕ) (silent : Bool) (ident : Option ℕ) where
  abbrev taken : Machine
  taken = (answered m b (accepted (C.Order 12) digits silent ident)).machine

  unstopped : taken.flags.stopped ≡ false
  unstopped = refl

  unsensed : taken.flags.sensed ≡ false
  unsensed = refl

onward : (s : ℕ) (h : List Call) (b : ℕ) (buffer : List ℕ) → CarryLine (state s h) b buffer
    → number (state s h) (C.Order 12) ≡ 0 → Onward s h b (byte b buffer)
unfolding run
onward s h b buffer l e = record {
  runs = sym u.goes ∙ moving;
  moving = status_moving (state s (byte b buffer ∷ h)) ∙ moving;
  unstopped = sym (u.stops moving) ∙ ap (λ (a : Machine). a.move.stopping) p;
  master = sym u.masters ∙ (ap (λ (a : Machine). a.move.master) p ∙ (told s h).masters);
  distances = λ k. sym (u.distances k) ∙ (ap (λ (a : Machine). a.move.plan.distance k) p ∙ (told s h).distances k);
  minuses = λ k. sym (u.minuses k) ∙ (ap (λ (a : Machine). a.move.plan.minus k) p ∙ (told s h).minuses k);
  travels = λ k. ap (λ (a : Machine). a.move.travel k) p;
  positions = λ k. ap (λ (a : Machine). a.position k) p;
  speed = ap (λ (a : Machine). a.move.speed) p;
  phase = ap (λ (a : Machine). a.move.phase) p;
  stopped =
      status_stopped (state s (byte b buffer ∷ h))
      ∙ (ap (λ (a : Machine). a.flags.stopped) p ∙ unstopped (state s h) b l.digits l.silent l.ident);
  sensed =
      status_sensed (state s (byte b buffer ∷ h))
      ∙ (ap (λ (a : Machine). a.flags.sensed) p ∙ unsensed (state s h) b l.digits l.silent l.ident);
  pause = sym u.pause ∙ ap (λ (a : Machine). a.pause) p;
  ticks = sym (ticks_run s (byte b buffer ∷ h) moving) ∙ ap (λ (a : Machine). a.move.ticks) p;
  rest = p ∙ ap (λ (v : Move). with_pause (with_flags (with_move (with_watch (heard_by (state s h) b) 0) v)
      (mark (mark (state s h).flags 3 false) 6 false)) (record { left = 0; waiting = none }))
      (sym (ap (λ (a : Machine). a.move) p));
}
  where
    p : (byte_step (state s h) b buffer).machine
        ≡ (answered (state s h) b (accepted (C.Order 12) l.digits l.silent l.ident)).machine
    p = taken_is (state s h) b buffer l e

    u : Told s (byte b buffer ∷ h)
    u = told s (byte b buffer ∷ h)

    moving : (byte_step (state s h) b buffer).machine.move.moving ≡ true
    moving = ap (λ (a : Machine). a.move.moving) p

pub carry_on_lem : CarryOn
unfolding run
carry_on_lem s h b buffer l = record {
  number = told_number (state s h) b buffer l ∙ number_is s h;
  reply = told_reply (state s h) b buffer l ∙ (λ i. cond l.silent []
      (carry_reply ((tied s h).switch i) (number_is s h i) l.digits l.ident));
  in_range = sym (same_final s h) ∙ room s h;
  taken = λ e. onward s h b buffer l (number_is s h ∙ e);
  refused = λ e. refused_is (state s h) b buffer l (λ q. e (sym (number_is s h) ∙ q))
      ∙ zeroes (heard_by (state s h) b) (λ q. e (sym (number_is s h) ∙ q));
}
