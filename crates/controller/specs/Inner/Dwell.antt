-- The dwell, and a start that waits for its end: src/dwell.rt on held values.
use Rattle.std.specs.Prelude.{ℕ, ◌-◌, ◌≤◌, Bool, cond, ◌&&◌, ◌||◌, ltb, eqb}
use Rattle.controller.specs.declared.state.Hot.{Hot}
use Rattle.controller.specs.declared.state.Settings.{Settings}
use Rattle.controller.specs.declared.state.Plan.{Plan}
use Rattle.controller.specs.declared.dwell.Waited.{Waited}
use Rattle.controller.specs.Inner.Parts.{with_pause, with_flag}
use Rattle.controller.specs.Inner.Start.{start_number_of, begun_of, StartFits}

-- By bit 2.
abbrev pub failed_given : Hot → Bool → Hot
failed_given h wrong = with_pause (with_flag h 2 wrong) 0 0

-- A waiting start that failed is dropped; 14 sets bit 2.
abbrev pub failed_of : Hot → ℕ → Hot
failed_of h n = failed_given h (h.flags.wrong || eqb n 14)

-- By the start's number.
abbrev pub due_given : Plan → ℕ → ℕ → Hot → ℕ → ℕ → Waited
due_given next polarity switch h master n =
    cond (eqb n 0) (record { hot = begun_of next polarity switch h master; number = 0 })
    (record { hot = failed_of h n; number = n })

-- The dwell has come to its end, and a waiting start is tried.
abbrev pub due_of : Settings → Plan → ℕ → Hot → ℕ → Waited
due_of s next switch h master = due_given next s.polarity switch h master (start_number_of s next h master)

-- The dwell ends in this tick and a start waits for it.
abbrev pub is_due_of : ℕ → ℕ → Bool
is_due_of left waiting = eqb left 1 && ltb 0 waiting

-- The dwell counted down and, where it becomes 0, a waiting start tried.
abbrev pub waits_of : Settings → Plan → ℕ → Hot → Waited
waits_of s next switch h =
    cond (is_due_of h.pause.left h.pause.waiting) (due_of s next switch h (h.pause.waiting - 1))
    (record { hot = with_pause h (h.pause.left - 1) h.pause.waiting; number = 0 })

-- What it needs.
pub record WaitFits (next : Plan) (h : Hot) : Type 0 where
  pub waiting : h.pause.waiting ≤ 5
  pub start : StartFits next h.counters
