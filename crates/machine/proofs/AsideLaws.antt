-- A half-received line aside: the machine without it is the one after another list of calls, that of all calls but the
-- characters since the last 0D, for no tick reads or alters the line. Assumes nothing.
use Rattle.line.specs.declared.Accepted.{Accepted}
use Rattle.line.specs.declared.Refusal.{Refusal}
use Rattle.std.proofs.Common.{None, Result, Ok, Err}
use Prim.Native.Nat.{ℕ, ◌+◌, ◌-◌}
use mathlib.Core.Bool.{Bool, true, false, cond, not, ◌&&◌}
use mathlib.Core.List.{List, [], ◌∷◌, ◌++◌}
use mathlib.Core.Path.{◌≡◌, refl, sym, ap, ◌∙◌}
use borrow.Author.Tests.{eqb-true}
use lib.Dec.{ltb, leb, eqb}
use Rattle.laws.proofs.Pick.{by_bool}
use Rattle.line.specs.Line.{silent_of, ident_of, judge_of, refusal_number}
use Rattle.receiver.specs.Receiver.{Receipt, heard_line, receive}
use Rattle.machine.specs.State.{Waiting, none, start, Machine, with_move, with_flags, with_line}
use Rattle.machine.specs.Shares.{whole, gone}
use Rattle.machine.specs.Ramp.{
  full,
  ramped,
  at_speed,
  ended,
  Ran,
  quiet,
  halted,
  stepped,
  pulsed,
  advanced,
  ramps,
  tallied,
  runs,
}
use Rattle.machine.specs.Stops.{takes, limit_or_watch, sensor_active, cause, stopping, marks, stops}
use Rattle.machine.specs.Commands.{number}
use Rattle.machine.specs.Steps.{
  Outcome,
  untaken,
  decided,
  outcome_of,
  is_short,
  too_large,
  answered,
  byte_step,
  Tried,
  untried,
  failed,
  began,
  try_waiting,
  runs_out,
  tries,
  waits,
  looks,
  tick_by,
  tick_step,
}
use Rattle.machine.specs.Calls.{Call, byte, tick, run, state}
use Rattle.machine.proofs.UnalteredLaws.{does_unaltered, turned_unaltered}

-- ---- A tick neither reads nor alters the line

module _ (l : List ℕ) where
  pulsed_aside : (m : Machine) (u p n : ℕ) → (pulsed (with_line m l) u p n).machine ≡ with_line (pulsed m u p n).machine l
  pulsed_aside m u p n = when (eqb n (whole m.move))
    where
      when : (t : Bool) → cond t (ended (stepped (with_line m l) u p n)) (stepped (with_line m l) u p n)
          ≡ with_line (cond t (ended (stepped m u p n)) (stepped m u p n)) l
      when true = refl
      when false = refl

  advanced_aside : (m : Machine) (u g : ℕ) → (advanced (with_line m l) u g).machine ≡ with_line (advanced m u g).machine l
  advanced_aside m u g = when (ltb g full)
    where
      when : (t : Bool) → (cond {A = Ran} t (quiet (with_move (with_line m l) (at_speed m.move u g)))
          (pulsed (with_line m l) u (g - full) (gone m.move + 1))).machine
          ≡ with_line (cond {A = Ran} t (quiet (with_move m (at_speed m.move u g)))
          (pulsed m u (g - full) (gone m.move + 1))).machine l
      when true = refl
      when false = pulsed_aside m u (g - full) (gone m.move + 1)

  ramps_aside : (m : Machine) → (ramps (with_line m l)).machine ≡ with_line (ramps m).machine l
  ramps_aside m = when (m.move.stopping && leb m.move.speed m.settings.slope)
    where
      u : ℕ
      u = ramped m.settings m.move

      when : (t : Bool)
          → (cond {A = Ran} t (halted (with_line m l)) (advanced (with_line m l) u (m.move.phase + u))).machine
          ≡ with_line (cond {A = Ran} t (halted m) (advanced m u (m.move.phase + u))).machine l
      when true = refl
      when false = advanced_aside m u (m.move.phase + u)

  runs_aside : (m : Machine) → (runs (with_line m l)).machine ≡ with_line (runs m).machine l
  runs_aside m = when (not m.move.moving)
    where
      when : (t : Bool) → (cond {A = Ran} t (quiet (with_line m l)) (ramps (with_line (tallied m) l))).machine
          ≡ with_line (cond {A = Ran} t (quiet m) (ramps (tallied m))).machine l
      when true = refl
      when false = ramps_aside (tallied m)

  stops_aside : (m : Machine) → stops (with_line m l) ≡ with_line (stops m) l
  stops_aside m = when (cause m)
    where
      stopped : Machine → Machine
      stopped x =
          with_flags (with_move x (stopping x.move)) (marks x.flags (limit_or_watch x) (sensor_active x))

      when : (t : Bool) → cond t (stopped (with_line m l)) (with_line m l) ≡ with_line (cond t (stopped m) m) l
      when true = refl
      when false = refl

  waits_aside : (m : Machine) (t : Tried) → waits (with_line m l) t ≡ with_line (waits m t) l
  waits_aside m untried = refl
  waits_aside m (failed n) = refl
  waits_aside m (began k) = refl

  waiting_aside : (m : Machine) (x : Waiting) → try_waiting (with_line m l) x ≡ try_waiting m x
  waiting_aside m none = refl
  waiting_aside m (start k) = refl

  tries_aside : (m : Machine) → tries (with_line m l) ≡ tries m
  tries_aside m = ap (λ (t : Tried). cond (runs_out m) t untried) (waiting_aside m m.pause.waiting)

  looks_aside : (m : Machine) (w : ℕ) → looks (with_line m l) w ≡ with_line (looks m w) l
  looks_aside m w =
      ap (waits (with_line (takes m w) l)) (tries_aside (takes m w)) ∙ waits_aside (takes m w) (tries (takes m w))

  ran_aside : (m : Machine) (w : ℕ)
      → (runs (stops (looks (with_line m l) w))).machine ≡ with_line (runs (stops (looks m w))).machine l
  ran_aside m w =
      ap (λ (a : Machine). (runs (stops a)).machine) (looks_aside m w)
      ∙ (ap (λ (a : Machine). (runs a).machine) (stops_aside (looks m w)) ∙ runs_aside (stops (looks m w)))

  pub tick_aside : (m : Machine) (w : ℕ) (d : List ℕ)
      → (tick_step (with_line m l) w d).machine ≡ with_line (tick_step m w d).machine l
  tick_aside m w d = when (is_short d) (too_large w)
    where
      when : (a b : Bool) → (tick_by (with_line m l) w a b).machine ≡ with_line (tick_by m w a b).machine l
      when true b = refl
      when false true = refl
      when false false = ran_aside m w

-- ---- A byte

-- After a 0D that is taken no character of a line is left.
pub end_clear : (m : Machine) (d : List ℕ) → is_short d ≡ false → (byte_step m 13 d).machine.line ≡ []
end_clear m d e =
    ap (λ (t : Bool). (answered m 13 (cond t untaken (outcome_of m (heard_line m.line)))).machine.line) e
    ∙ clear (judge_of m.line)
  where
    clear : (j : Result Accepted Refusal) → (answered m 13 (decided m (silent_of m.line) (ident_of m.line) j)).machine.line ≡ []
    clear (Err r) = (turned_unaltered (with_line m []) (refusal_number r)).line
    clear (Ok a) =
        by_bool (λ (o : Outcome). (answered m 13 o).machine.line ≡ []) (eqb (number m a.command) 0) _ _
        (λ _. (does_unaltered (with_line m []) a.command).line) (λ _. (turned_unaltered (with_line m []) (number m a.command)).line)

-- Any other byte that is taken is a character.
pub joins : (m : Machine) (b : ℕ) (d : List ℕ) → is_short d ≡ false → eqb b 13 ≡ false
    → (byte_step m b d).machine ≡ with_line m (m.line ++ (b ∷ []))
joins m b d e q =
    ap (λ (t : Bool). (answered m b (cond t untaken (outcome_of m (receive m.line b).heard))).machine) e
    ∙ (ap (λ (x : Receipt). (answered m b (outcome_of m x.heard)).machine) character
    ∙ ap (λ (x : Receipt). with_line m x.line) character)
  where
    character : receive m.line b ≡ record { line = m.line ++ (b ∷ []); heard = None }
    character = rw q

pub untakes : (m : Machine) (b : ℕ) (d : List ℕ) → is_short d ≡ true → (byte_step m b d).machine ≡ m
untakes m b d e =
    ap (λ (t : Bool). (answered m b (cond t untaken (outcome_of m (receive m.line b).heard))).machine) e

-- ---- A list without the characters since its last 0D

pub unlined : List Call → List Call
unlined [] = []
unlined (tick w d ∷ h) = tick w d ∷ unlined h
unlined (byte b d ∷ h) = cond (is_short d) (unlined h) (cond (eqb b 13) (byte b d ∷ h) (unlined h))

pub unlined_is : (s : ℕ) (h : List Call) → state s (unlined h) ≡ with_line (state s h) []
unfolding run unlined
unlined_is s [] = refl
unlined_is s (tick w d ∷ h) =
    ap (λ (m : Machine). (tick_step m w d).machine) (unlined_is s h) ∙ tick_aside [] (state s h) w d
unlined_is s (byte b d ∷ h) =
    by_bool P (is_short d) _ _
    (λ e. unlined_is s h ∙ ap bare (sym (untakes m b d e)))
    (λ e. by_bool P (eqb b 13) _ _ (λ q. ends e (eqb-true b 13 q))
    (λ q. unlined_is s h ∙ ap bare (sym (joins m b d e q))))
  where
    m : Machine
    m = state s h

    bare : Machine → Machine
    bare x = with_line x []

    P : List Call → Type 0
    P g = state s g ≡ bare (byte_step m b d).machine

    ends : is_short d ≡ false → b ≡ 13 → P (byte b d ∷ h)
    ends e q = rw q (λ i. with_line (byte_step m 13 d).machine (end_clear m d e i))
