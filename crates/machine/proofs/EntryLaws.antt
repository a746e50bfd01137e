-- A tick's count and its entry: a move's ticks grow by one in each tick in which its ramp runs, and the tick answers an
-- entry exactly if the move ends in it. Assumes nothing.
use Prim.Native.Nat.{ℕ, ◌+◌, ◌-◌}
use mathlib.Core.Bool.{Bool, true, false, cond, not, ◌&&◌, ◌||◌}
use mathlib.Core.List.{List}
use mathlib.Core.Path.{◌≡◌, refl, sym, ap, ◌∙◌}
use native.Mathlib.Omega.{arith}
use borrow.Author.Tests.{not-false, not-true}
use lib.Dec.{ltb, leb, eqb}
use Rattle.laws.specs.Bits.{weight}
use Rattle.laws.proofs.Pick.{by_bool}
use Rattle.laws.proofs.Tests.{true_false}
use Rattle.machine.specs.State.{Move, Machine}
use Rattle.machine.specs.Shares.{whole, gone, pulse}
use Rattle.machine.specs.Entries.{EntryAnswer, no_entry, entry, entry_of}
use Rattle.machine.specs.Ramp.{Ran, full, ramped, ended, stepped, advanced, pulsed, ramps, tallied, runs}
use Rattle.machine.specs.Stops.{takes, cause, stops}
use Rattle.machine.specs.Steps.{Tried, untried, tries, runs_out, looks, failure, is_short, too_large, tick_by}
use Rattle.machine.specs.Steps.{tick_step}
use Rattle.machine.specs.Calls.{tick, after}
use Rattle.machine.specs.Roles.{named, takes_effect, begins, is_taken}
use Rattle.machine.proofs.Runs.{Good}
use Rattle.machine.proofs.LookLaws.{Looked, looked, Stopped, stopped_is, start_ticks, looked_moving}

-- ---- The ramp

-- What a move's ramp leaves: its ticks are those given, and it tells an entry where the move runs no more.
record Ends (n : ℕ) (r : Ran) : Type 0 where
  pub ticks : r.machine.move.ticks ≡ n
  pub entry : r.entry ≡ cond (not r.machine.move.moving) (entry (entry_of r.machine.move)) no_entry

module _ (m : Machine) (e : m.move.moving ≡ true) where
  -- A move that runs on tells none.
  goes_on : (x : EntryAnswer) → no_entry ≡ cond (not m.move.moving) x no_entry
  goes_on x = ap (λ (b : Bool). cond (not b) x no_entry) (sym e)

  ends_pulsed : (u phase n : ℕ) → Ends m.move.ticks (pulsed m u phase n)
  ends_pulsed u phase n = when (eqb n (whole m.move))
    where
      when : (b : Bool) → Ends m.move.ticks (record {
        machine = cond b (ended (stepped m u phase n)) (stepped m u phase n);
        pulse = pulse m.move n;
        entry = cond b (entry (entry_of (stepped m u phase n).move)) no_entry;
      })
      when true = record { ticks = refl; entry = refl }
      when false = record { ticks = refl; entry = goes_on _ }

  ends_advanced : (u grown : ℕ) → Ends m.move.ticks (advanced m u grown)
  ends_advanced u grown =
      by_bool (Ends m.move.ticks) (ltb grown full) _ _ (λ q. record { ticks = refl; entry = goes_on _ })
      (λ q. ends_pulsed u (grown - full) (gone m.move + 1))

  ends_ramps : Ends m.move.ticks (ramps m)
  ends_ramps =
      by_bool (Ends m.move.ticks) (m.move.stopping && leb m.move.speed m.settings.slope) _ _
      (λ q. record { ticks = refl; entry = refl })
      (λ q. ends_advanced (ramped m.settings m.move) (m.move.phase + ramped m.settings m.move))

-- The entry of a move that ran in a tick, x, or began in it, and left v.
abbrev pub told : Bool → Move → EntryAnswer
told x v = cond (x && not v.moving) (entry (entry_of v)) no_entry

runs_ticks : (m : Machine) → m.move.moving ≡ true → (runs m).machine.move.ticks ≡ m.move.ticks + 1
runs_ticks m e =
    by_bool (λ (r : Ran). r.machine.move.ticks ≡ m.move.ticks + 1) (not m.move.moving) _ _
    (λ q. true_false m.move.moving e (not-true m.move.moving q)) (λ q. (ends_ramps (tallied m) e).ticks)

pub runs_entry : (m : Machine) → (runs m).entry ≡ told m.move.moving (runs m).machine.move
runs_entry m =
    by_bool (λ (r : Ran). r.entry ≡ told m.move.moving r.machine.move) (not m.move.moving) _ _
    (λ q. ap (λ (b : Bool). told b m.move) (sym (not-true m.move.moving q)))
    (λ q. let e = not-false m.move.moving q in
    (ends_ramps (tallied m) e).entry ∙ ap (λ (b : Bool). told b (ramps (tallied m)).machine.move) (sym e))

-- ---- A tick

-- A tick on m in which the start S takes effect answers the entry E, adds n to the ticks of a move that runs, and
-- leaves a.
pub record Entered (m : Machine) (S : Tried) (n : ℕ) (E : EntryAnswer) (a : Machine) : Type 0 where
  pub ticks : begins S || m.move.moving ≡ true → a.move.ticks ≡ cond (begins S) 0 m.move.ticks + n
  pub entry : E ≡ told (begins S || m.move.moving) a.move
  pub taken : (begins S || m.move.moving) && not a.move.moving ≡ true → n ≡ 1

entered_run : (m l s : Machine) (S : Tried) (P : Bool) → Looked m S l → Stopped l P s
    → Entered m S 1 (runs s).entry (runs s).machine
entered_run m l s S P lk st = record {
  ticks = λ q. runs_ticks s (moving ∙ q) ∙ ap (λ (n : ℕ). n + 1) (st.ticks
      ∙ (ap (λ (v : Move). v.ticks) lk.move ∙ start_ticks S m.next m.move));
  entry = runs_entry s ∙ ap (λ (b : Bool). told b (runs s).machine.move) moving;
  taken = λ q. refl;
}
  where
    moving : s.move.moving ≡ begins S || m.move.moving
    moving = looked_moving m l s S P lk st

entered_refused : (m : Machine) → Entered m untried 0 no_entry m
entered_refused m = record {
  ticks = λ q. omega arith;
  entry = ap (λ (b : Bool). cond b (entry (entry_of m.move)) no_entry) (sym (never m.move.moving));
  taken = λ q. true_false (m.move.moving && not m.move.moving) q (never m.move.moving);
}
  where
    never : (b : Bool) → b && not b ≡ false
    never true = refl
    never false = refl

pub entered_tick : (m : Machine) (w : ℕ) (d : List ℕ) → Good m.move
    → Entered m (takes_effect m m.pause (tick w d)) (weight (is_taken (tick w d)) 1) (tick_step m w d).entry
    (after m (tick w d))
entered_tick m w d g = when (is_short d) (too_large w)
  where
    S : Tried
    S = cond (runs_out (takes m w)) (named m.pause.waiting) untried

    goes : Entered m (cond (eqb (failure (tries (takes m w))) 0) S untried) 1 (runs (stops (looks m w))).entry
        (runs (stops (looks m w))).machine
    goes =
        let lk = looked m (takes m w) g (record { next = refl; move = refl; position = refl }) in
        entered_run m (looks m w) (stops (looks m w)) _ (cause (looks m w)) lk (stopped_is (looks m w) lk.good)

    when : (a b : Bool)
        → Entered m (cond (eqb (tick_by m w a b).number 0) S untried) (weight (not (a || b)) 1)
        (tick_by m w a b).entry (tick_by m w a b).machine
    when true b = entered_refused m
    when false true = entered_refused m
    when false false = goes
