-- What a call does to the watch setting and the watch count. Assumes nothing.
use Rattle.std.proofs.Common.{Option}
use Prim.Native.Nat.{ℕ, ◌+◌, min}
use mathlib.Core.Bool.{Bool, true, false, cond, not, ◌&&◌, ◌||◌, or-true}
use mathlib.Core.List.{List}
use mathlib.Core.Path.{◌≡◌, refl, ap, ◌∙◌}
use native.Mathlib.Omega.{arith}
use lib.Dec.{ltb, leb, eqb}
use Rattle.laws.proofs.Pick.{by_bool}
use Rattle.line.specs.declared.command.Command.{Command}
use Rattle.line.specs.declared.command.Command.TheVariants as C
use Rattle.line.proofs.Ranges.{by_code}
use Rattle.machine.specs.State.{Settings, Machine, with_watch}
use Rattle.machine.specs.Shares.{whole, gone}
use Rattle.machine.specs.Ramp.{Ran, full, ramped, runs}
use Rattle.machine.specs.Stops.{takes, limit_or_watch, cause, stops, watch_most}
use Rattle.machine.specs.Starts.{notes}
use Rattle.machine.specs.Commands.{does, stores, drops, obeys}
use Rattle.machine.specs.Steps.{
  Outcome,
  refused,
  outcome,
  answered,
  heard_by,
  Tried,
  untried,
  failed,
  began,
  tries,
  waits,
  looks,
  is_short,
  too_large,
  tick_by,
}
use Rattle.machine.specs.Calls.{Call, byte, tick, after}
use Rattle.machine.specs.Watch.{watch_of, watch_by, zeroes, watch_after, unheard_after}
use Rattle.machine.proofs.Outcomes.{by_outcome}

-- ---- A tick

-- Neither is altered.
pub record Kept (m a : Machine) : Type 0 where
  pub setting : a.settings.watch ≡ m.settings.watch
  pub count : a.watch ≡ m.watch

waits_kept : (m : Machine) (S : Tried) → Kept m (waits m S)
waits_kept m untried = record { setting = refl; count = refl }
waits_kept m (failed n) = record { setting = refl; count = refl }
waits_kept m (began k) = record { setting = refl; count = refl }

-- Up to the stop causes the count is raised by 1, up to the full one.
pub looks_kept : (m : Machine) (w : ℕ) → Kept (with_watch m (min watch_most (m.watch + 1))) (looks m w)
looks_kept m w =
    let k = waits_kept (takes m w) (tries (takes m w)) in
    record { setting = k.setting; count = k.count }

-- A limit or the watch that meets a running move is marked.
pub stops_marked : (m : Machine) → cause m ≡ true → limit_or_watch m ≡ true → (stops m).flags.stopped ≡ true
stops_marked m e l = rw (e, l) (or-true m.flags.stopped)

stops_kept : (m : Machine) → Kept m (stops m)
stops_kept m =
    by_bool (Kept m) (cause m) _ _ (λ e. record { setting = refl; count = refl })
    (λ e. record { setting = refl; count = refl })

-- The ramp alters no setting, not the count, and no flag.
pub record Ramped (m a : Machine) : Type 0 where
  pub settings : a.settings ≡ m.settings
  pub count : a.watch ≡ m.watch
  pub flags : a.flags ≡ m.flags

pub runs_ramped : (m : Machine) → Ramped m (runs m).machine
runs_ramped m =
    by_bool P (not m.move.moving) _ _ (λ e. record { settings = refl; count = refl; flags = refl })
    (λ e. by_bool P (m.move.stopping && leb m.move.speed m.settings.slope) _ _
    (λ f. record { settings = refl; count = refl; flags = refl })
    (λ f. by_bool P (ltb (m.move.phase + ramped m.settings m.move) full) _ _
    (λ g. record { settings = refl; count = refl; flags = refl })
    (λ g. by_bool (Ramped m) (eqb (gone m.move + 1) (whole m.move)) _ _
    (λ h. record { settings = refl; count = refl; flags = refl })
    (λ h. record { settings = refl; count = refl; flags = refl }))))
  where
    P : Ran → Type 0
    P r = Ramped m r.machine

ran_kept : (m : Machine) (w : ℕ)
    → Kept (with_watch m (min watch_most (m.watch + 1))) (runs (stops (looks m w))).machine
ran_kept m w =
    let l = looks_kept m w in
    let s = stops_kept (looks m w) in
    let r = runs_ramped (stops (looks m w)) in
    record {
      setting = ap (λ (x : Settings). x.watch) r.settings ∙ (s.setting ∙ l.setting);
      count = r.count ∙ (s.count ∙ l.count);
    }

-- ---- A received byte

does_setting : (m : Machine) (c : Command) → (does m c).settings.watch ≡ watch_of c m.settings.watch
does_setting m (C.Distance k s d) = refl
does_setting m (C.Set code v) = refl
does_setting m (C.Start k w) =
    by_bool (λ (a : Machine). a.settings.watch ≡ m.settings.watch) (stores m w) _ _ (λ e. refl) (λ e. refl)
does_setting m (C.Order code) =
    by_code (λ (k : ℕ). (obeys m k).settings.watch ≡ m.settings.watch)
    (by_bool (λ (a : Machine). (drops a).settings.watch ≡ m.settings.watch) m.move.moving _ _
    (λ e. refl) (λ e. refl))
    refl refl refl (λ k p q r t. rw (p, q, r, t)) code
does_setting m (C.Outputs v) = refl
does_setting m (C.Read r) = refl

-- A byte whose outcome is o.
record Byte (m : Machine) (b : ℕ) (o : Outcome) : Type 0 where
  setting : (answered m b o).machine.settings.watch ≡ watch_by o m.settings.watch
  count : (answered m b o).machine.watch ≡ cond (zeroes o) 0 m.watch

refused_watch : (m : Machine) (b n : ℕ) (silent : Bool) (ident : Option ℕ) → Byte m b (refused n silent ident)
refused_watch m b n silent ident = record {
  setting = by_bool (λ (a : Machine). a.settings.watch ≡ m.settings.watch) (leb 10 n) _ _ (λ e. refl) (λ e. refl);
  count = when (leb 10 n);
}
  where
    when : (t : Bool) → (cond t (notes (with_watch (heard_by m b) 0) n) (heard_by m b)).watch ≡ cond t 0 m.watch
    when true = refl
    when false = refl

byte_watch : (m : Machine) (b : ℕ) (buffer : List ℕ) → Byte m b (outcome m b buffer)
byte_watch m b =
    by_outcome m (Byte m b) (record { setting = refl; count = refl }) (record { setting = refl; count = refl })
    (refused_watch m b) (λ c digits silent ident e. record { setting = does_setting (heard_by m b) c; count = refl }) b

-- ---- Calls

pub setting_next : (m : Machine) (x : Call) → (after m x).settings.watch ≡ watch_after m x m.settings.watch
setting_next m (byte b buffer) = (byte_watch m b buffer).setting
setting_next m (tick w d) = when (is_short d) (too_large w)
  where
    when : (a b : Bool) → (tick_by m w a b).machine.settings.watch ≡ m.settings.watch
    when true b = refl
    when false true = refl
    when false false = (ran_kept m w).setting

-- The count is that of the ticks n, up to the full one.
pub count_next : (m : Machine) (x : Call) (n : ℕ) → m.watch ≡ min watch_most n
    → (after m x).watch ≡ min watch_most (unheard_after m x n)
count_next m (byte b buffer) n e = (byte_watch m b buffer).count ∙ when (zeroes (outcome m b buffer))
  where
    when : (t : Bool) → cond t 0 m.watch ≡ min watch_most (cond t 0 n)
    when true = refl
    when false = e
count_next m (tick w d) n e = when (is_short d) (too_large w)
  where
    when : (a b : Bool) → (tick_by m w a b).machine.watch ≡ min watch_most (cond (a || b) n (n + 1))
    when true b = e
    when false true = e
    when false false = (ran_kept m w).count ∙ omega (arith, e)
