-- The watch, for every list of calls: its setting and its count are those of the list, and a running move is stopped
-- where the count is full with watch bit 0. Assumes nothing.
use Prim.Native.Nat.{ℕ, ◌+◌, min}
use mathlib.Core.Bool.{Bool, true, false, cond, ◌&&◌, ◌||◌, or-true}
use mathlib.Core.List.{List, [], ◌∷◌}
use mathlib.Core.Path.{◌≡◌, refl, sym, ap, ◌∙◌}
use native.Mathlib.Omega.{arith}
use borrow.Author.Tests.{le-leb, lt-leb, leb-true, leb-false}
use lib.Dec.{leb, eqb}
use Rattle.laws.specs.Bits.{bit}
use Rattle.laws.proofs.Tests.{true_false, both, neither, second}
use Rattle.machine.specs.State.{Machine, Flags, Pause}
use Rattle.machine.specs.Stops.{
  blocked,
  sensor_active,
  watch_most,
  watch_full,
  takes,
  limit_or_watch,
  cause,
  stops,
  status,
}
use Rattle.machine.specs.Steps.{Outcome, untaken, gathered, refused, accepted, outcome, looks}
use Rattle.machine.specs.Steps.{untried, is_short, too_large, tick_turned, tick_by, tick_step}
use Rattle.machine.specs.Calls.{Call, byte, tick, run, state}
use Rattle.machine.specs.Roles.{begins, carries_by, named, role_by, start_by, stop_by, stops_in, takes_effect}
use Rattle.machine.specs.List.{effect, paused, stop_begun, goes_on}
use Rattle.machine.specs.Watch.{watch_by, zeroes, last_watch, ticks_unheard, watch_stops, other_cause, Watch}
use Rattle.machine.proofs.PauseStageLaws.{looked}
use Rattle.machine.proofs.ListLaws.{told}
use Rattle.machine.proofs.BitLaws.{status_stopped}
use Rattle.machine.proofs.WatchStageLaws.{
  looks_kept,
  stops_marked,
  runs_ramped,
  setting_next,
  count_next,
}

pub setting_is : (s : ℕ) (h : List Call) → (state s h).settings.watch ≡ last_watch s h
unfolding run last_watch
setting_is s [] = refl
setting_is s (x ∷ h) = rw (sym (setting_is s h)) (setting_next (state s h) x)

pub count_is : (s : ℕ) (h : List Call) → (state s h).watch ≡ min watch_most (ticks_unheard s h)
unfolding run ticks_unheard
count_is s [] = refl
count_is s (x ∷ h) = count_next (state s h) x (ticks_unheard s h) (count_is s h)

-- ---- In a tick

-- The watch among the other causes.
among : (e q b f : Bool) → e || q || (b || f) ≡ f || (e || q || b)
among true q b true = refl
among true q b false = refl
among false true b true = refl
among false true b false = refl
among false false true true = refl
among false false true false = refl
among false false false true = refl
among false false false false = refl

-- One tick more, up to the full count.
pub fills : (n : ℕ) → leb watch_most (min watch_most (min watch_most n + 1)) ≡ leb watch_most (n + 1)
fills n = when (leb watch_most (n + 1)) refl
  where
    when : (t : Bool) → leb watch_most (n + 1) ≡ t → leb watch_most (min watch_most (min watch_most n + 1)) ≡ t
    when true e =
        let l = leb-true watch_most (n + 1) e in
        le-leb watch_most (min watch_most (min watch_most n + 1)) (omega (arith, l))
    when false e =
        let l = leb-false watch_most (n + 1) e in
        lt-leb watch_most (min watch_most (min watch_most n + 1)) (omega (arith, l))

-- As the stop causes look at the machine, the watch is the list's with the tick.
full_is : (s : ℕ) (h : List Call) (w : ℕ) (d : List ℕ) → tick_turned w d ≡ false
    → watch_full (looks (state s h) w) 0 ≡ watch_stops s (tick w d ∷ h)
unfolding last_watch ticks_unheard
full_is s h w d e =
    let k = looks_kept (state s h) w in
    rw e
    ((λ i. leb watch_most ((k.count ∙ ap (λ (n : ℕ). min watch_most (n + 1)) (count_is s h)) i)
    && bit ((k.setting ∙ setting_is s h) i) 0)
    ∙ ap (λ (b : Bool). b && bit (last_watch s h) 0) (fills (ticks_unheard s h)))

-- And a move runs there that ran before or begins in the tick.
moving_is : (s : ℕ) (h : List Call) (w : ℕ) (d : List ℕ) → tick_turned w d ≡ false
    → (looks (state s h) w).move.moving ≡ begins (effect s h (tick w d)) || goes_on s h
moving_is s h w d e =
    let n = neither (is_short d) (too_large w) e in
    rw (n.0, n.1) (looked (takes (state s h) w)).moving
    ∙ (λ i. begins (takes_effect (state s h) ((told s h).pause i) (tick w d)) || (told s h).goes i)

begins_is : (s : ℕ) (h : List Call) (w : ℕ) (d : List ℕ) → tick_turned w d ≡ false
    → begins (effect s h (tick w d)) || goes_on s h ≡ true
    → stops_in (state s h) (tick w d) ≡ watch_stops s (tick w d ∷ h) || other_cause (looks (state s h) w)
begins_is s h w d e r =
    let l = looks (state s h) w in
    rw e
    ((λ i. (moving_is s h w d e ∙ r) i && (l.flags.emergency || sensor_active l
    || (blocked l l.move.plan || watch_full l 0)))
    ∙ (among l.flags.emergency (sensor_active l) (blocked l l.move.plan) (watch_full l 0)
    ∙ ap (λ (b : Bool). b || other_cause l) (full_is s h w d e)))

-- Where the watch stops it, the stop is marked in the status.
told_is : (s : ℕ) (h : List Call) (w : ℕ) (d : List ℕ) → tick_turned w d ≡ false
    → begins (effect s h (tick w d)) || goes_on s h ≡ true
    → watch_stops s (tick w d ∷ h) ≡ true → bit (status (state s (tick w d ∷ h))) 3 ≡ true
unfolding run
told_is s h w d e r f = status_stopped (state s (tick w d ∷ h)) ∙ marked
  where
    l : Machine
    l = looks (state s h) w

    limited : limit_or_watch l ≡ true
    limited = ap (λ (b : Bool). blocked l l.move.plan || b) (full_is s h w d e ∙ f)
        ∙ or-true (blocked l l.move.plan)

    causes : cause l ≡ true
    causes = (rw e at (begins_is s h w d e r)) ∙ ap (λ (b : Bool). b || other_cause l) f

    marked : (tick_step (state s h) w d).machine.flags.stopped ≡ true
    marked =
        let n = neither (is_short d) (too_large w) e in
        rw (n.0, n.1)
        (ap (λ (x : Flags). x.stopped) (runs_ramped (stops l)).flags ∙ stops_marked l causes limited)

-- ---- Of a list

-- What a byte that does not zero the count leaves: no start, no stop, and the watch as it was.
record Left (o : Outcome) (p : Pause) (m : Machine) (v : ℕ) : Type 0 where
  start : carries_by (role_by o) || begins (start_by p (role_by o)) ≡ false
  stop : stop_by m (role_by o) ≡ false
  watch : watch_by o v ≡ v

left : (o : Outcome) (p : Pause) (m : Machine) (v : ℕ) → zeroes o ≡ false → Left o p m v
left untaken p m v e = record { start = refl; stop = refl; watch = refl }
left gathered p m v e = record { start = refl; stop = refl; watch = refl }
left (refused n silent ident) p m v e = record { start = refl; stop = refl; watch = refl }
left (accepted c digits silent ident) p m v e = true_false true refl e

-- One call more, by whether it zeroes the count, and whether it is turned away.
abbrev Stops : ℕ → List Call → Type 0
Stops s h = goes_on s h ≡ true → watch_stops s h ≡ true → stop_begun s h ≡ true

by_byte : (s : ℕ) (h : List Call) (b : ℕ) (buffer : List ℕ) → goes_on s (byte b buffer ∷ h) ≡ true
    → watch_stops s (byte b buffer ∷ h) ≡ true → Stops s h
    → (t : Bool) → zeroes (outcome (state s h) b buffer) ≡ t → stop_begun s (byte b buffer ∷ h) ≡ true
unfolding last_watch ticks_unheard goes_on stop_begun
by_byte s h b buffer g f before true e = true_false false (rw e at f) refl
by_byte s h b buffer g f before false e =
    let l = left (outcome (state s h) b buffer) (paused s h) (state s h) (last_watch s h) e in
    rw (l.start, l.stop) (before (second _ _ (both _ _ g).0 l.start) (rw (e, l.watch) at f))

-- A tick that is turned away starts nothing.
no_start : (m : Machine) (p : Pause) (w : ℕ) (a b : Bool) → a || b ≡ true
    → begins (cond (eqb (tick_by m w a b).number 0) (cond (eqb p.left 1) (named p.waiting) untried) untried)
    ≡ false
no_start m p w true b e = refl
no_start m p w false true e = refl
no_start m p w false false e = true_false false e refl

by_tick : (s : ℕ) (h : List Call) (w : ℕ) (d : List ℕ) → goes_on s (tick w d ∷ h) ≡ true
    → watch_stops s (tick w d ∷ h) ≡ true → Stops s h
    → (t : Bool) → tick_turned w d ≡ t → stop_begun s (tick w d ∷ h) ≡ true
unfolding last_watch ticks_unheard goes_on stop_begun
by_tick s h w d g f before true e =
    let r = (both (begins (effect s h (tick w d)) || goes_on s h) _ g).0 in
    let n = no_start (state s h) (paused s h) w (is_short d) (too_large w) e in
    rw (e, n) (before (second _ _ r n) (rw e at f))
by_tick s h w d g f before false e = rw (begins_is s h w d e (both _ _ g).0, f) refl

stopped_is : (s : ℕ) (h : List Call) → Stops s h
unfolding goes_on
stopped_is s [] g f = true_false false g refl
stopped_is s (byte b buffer ∷ h) g f =
    by_byte s h b buffer g f (stopped_is s h) (zeroes (outcome (state s h) b buffer)) refl
stopped_is s (tick w d ∷ h) g f = by_tick s h w d g f (stopped_is s h) (tick_turned w d) refl

pub watched : Watch
watched s h = record {
  setting = setting_is s h;
  count = count_is s h;
  stop_begins = begins_is s h;
  told = told_is s h;
  stopped = stopped_is s h;
  stopping = λ g. (told s h).stops ((told s h).goes ∙ g);
}
