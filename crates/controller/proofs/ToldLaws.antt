-- The entry that a tick tells, from what is held of the machine after it, is the machine's. Assumes nothing.
use Prim.Native.Nat.{◌≤◌}
use mathlib.Core.Bool.{Bool, true, false, cond, not, ◌&&◌}
use mathlib.Core.Path.{◌≡◌, refl, sym, ap, subst, ◌∙◌}
use native.Mathlib.Omega.{arith}
use Rattle.journal.specs.declared.Entry.{Entry}
use Rattle.reply.specs.declared.readings.Travel.{Travel}
use Rattle.machine.specs.State.{Machine}
use Rattle.machine.specs.Entries.{EntryAnswer, no_entry, entry, entry_of}
use Rattle.machine.specs.Ramp.{Ran, runs}
use Rattle.machine.proofs.EntryLaws.{runs_entry}
use Rattle.machine.proofs.FitLaws.{Fits}
use Rattle.controller.specs.Held.{held_hot, is_end, held_entry}
use Rattle.controller.specs.Inner.Entry.{told_of, TravelsFit}
use Rattle.controller.proofs.TickLaws.{each_at, halves}

-- What the code tells of the machine a, by the entry x.
abbrev told_on : Machine → EntryAnswer → Entry
told_on a x = told_of (is_end x) (held_hot a).plan (held_hot a).counters (held_hot a).run

abbrev pub told_held : Ran → Entry
told_held r = told_on r.machine r.entry

pub told_is : (m : Machine) → told_held (runs m) ≡ held_entry (runs m).entry
told_is m =
    ap (told_on (runs m).machine) (runs_entry m)
    ∙ (when (m.move.moving && not (runs m).machine.move.moving) ∙ sym (ap held_entry (runs_entry m)))
  where
    when : (t : Bool)
        → told_on (runs m).machine (cond t (entry (entry_of (runs m).machine.move)) no_entry)
        ≡ held_entry (cond t (entry (entry_of (runs m).machine.move)) no_entry)
    when true = λ i. record {
      ticks = halves (runs m).machine.move.ticks i;
      cause = (entry_of (runs m).machine.move).cause;
      travels = (entry_of (runs m).machine.move).travels;
    }
    when false = refl

-- Each travel has room for its sign.
pub travels_fit : (m : Machine) → Fits m → TravelsFit (held_hot m).counters
travels_fit m f k l =
    subst (λ (t : Travel). t.0 ≤ 524287)
    (sym (each_at (λ j. record { 0 = m.move.travel j }) (record { 0 = 0 }) k l))
    (let t = f.move.within k l in let d = f.move.plan k l in omega (arith, t, d))
