-- The entry that a tick answers: src/entry.rt on held values.
use Rattle.std.specs.Prelude.{ℕ, ◌≤◌, ◌<◌, Bool, false, cond, eqb, ℤ, get_or}
use Rattle.laws.specs.Axes.{each, directed}
use Rattle.journal.specs.declared.Entry.{Entry}
use Rattle.journal.specs.Journal.{zero_entry}
use Rattle.reply.specs.declared.readings.Travel.{Travel}
use Rattle.controller.specs.declared.state.Counters.{Counters}
use Rattle.controller.specs.declared.state.Plan.{Plan}
use Rattle.controller.specs.declared.state.Run.{Run}
use Rattle.controller.specs.Inner.Parts.{travel_at}
use Rattle.controller.specs.Inner.Ramp.{ticks_of}

-- A travel in its direction.
abbrev pub signed_of : Travel → Bool → ℤ
signed_of t minus = directed minus t.0

abbrev pub signed_at_of : Plan → Counters → ℕ → ℤ
signed_at_of p c k = signed_of (travel_at c k) (get_or p.minus k false)

-- 0 where the master has gone its whole length, else 1.
abbrev pub cause_of : Run → ℕ
cause_of r = cond (eqb r.gone r.length) 0 1

-- The entry of a move that has ended.
abbrev pub told_given : Plan → Counters → Run → Entry
told_given p c r = record { ticks = ticks_of r; cause = cause_of r; travels = each (signed_at_of p c) }

-- Or zeros.
abbrev pub told_of : Bool → Plan → Counters → Run → Entry
told_of ends p c r = cond ends (told_given p c r) zero_entry

-- What keeps a travel in 32 bits, with its sign.
abbrev pub TravelsFit : Counters → Type 0
TravelsFit c = (k : ℕ) → k < 5 → (travel_at c k).0 ≤ 524287
