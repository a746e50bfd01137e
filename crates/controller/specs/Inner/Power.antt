-- What power-on makes, and the characters received: src/power.rt and src/lib.rt on held values.
use Rattle.std.specs.Prelude.{ℕ, Bool, false, ◌||◌, [], ltb, eqb}
use Rattle.laws.specs.Axes.{each}
use Rattle.digits.specs.Digits.{top_bit}
use Rattle.outputs.specs.declared.Cells.{Cells}
use Rattle.outputs.specs.Outputs.{general_of}
use Rattle.receiver.specs.declared.Receiver.{Receiver}
use Rattle.receiver.specs.Receiver.{holding}
use Rattle.controller.specs.declared.state.Controller.{Controller}
use Rattle.controller.specs.declared.state.Hot.{Hot}
use Rattle.controller.specs.declared.state.Plan.{Plan}
use Rattle.controller.specs.declared.state.Run.{Run}
use Rattle.controller.specs.declared.state.Settings.{Settings}
use Rattle.controller.specs.Inner.Parts.{run_of, pause_of, hot_of, controller_of, cells_of}

-- There is no such switch.
abbrev pub is_bad_of : ℕ → Bool
is_bad_of switch = ltb 15 switch || eqb switch 12

-- All distances 0, all directions plus.
abbrev pub fresh_plan : Plan
fresh_plan = record { distances = each (λ k. 0); minus = each (λ k. false) }

-- V 10,000, a 16, watch 1 (axes), all else 0.
abbrev pub fresh_settings_of : Settings
fresh_settings_of = record { speed = 10000; slope = 16; dwell = 0; polarity = 0; low = 0; high = 0; watch = 1 }

-- No move runs.
abbrev pub fresh_run_of : Run
fresh_run_of = run_of 0 0 0 0 0 false false 0 0

-- By the run, and what the general outputs and each axis add to an output word.
abbrev pub fresh_hot_given : Plan → Run → ℕ → Cells → Hot
fresh_hot_given plan run general cells =
    hot_of plan (record {
      travels = each (λ k. record { 0 = 0 });
      remainders = each (λ k. 0);
      positions = each (λ k. record { 0 = top_bit });
    })
    run (record { general = general; cells = cells }) (pause_of 0 0 0) 0 0
    (record { wrong = false; stopped = false; emergency = false; sensed = false })

-- What a tick alters, with this plan.
abbrev pub fresh_hot_of : ℕ → Plan → Hot
fresh_hot_of switch plan = fresh_hot_given plan fresh_run_of (general_of switch 0) (cells_of switch 0 plan.minus)

-- The controller at power-on.
abbrev pub fresh_of : ℕ → Controller
fresh_of switch = controller_of (fresh_hot_of switch fresh_plan) fresh_settings_of fresh_plan (holding []) switch 0 false

-- The controller with the characters received so far.
abbrev pub with_line_of : Controller → Receiver → Controller
with_line_of c line =
    controller_of c.hot c.cold.settings c.cold.next line c.cold.switch c.cold.ident c.cold.named
