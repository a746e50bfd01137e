-- What lines set: src/settings.rt on held values.
use Rattle.std.specs.Prelude.{ℕ, Bool, cond, eqb, set}
use Rattle.outputs.specs.Outputs.{general_of}
use Rattle.controller.specs.declared.state.Controller.{Controller}
use Rattle.controller.specs.Inner.Parts.{with_master, with_wires, with_hot, with_setting, with_next, cells_of}
use Rattle.controller.specs.Inner.Carry.{replanned_of}

-- The next move's distance and direction of an axis; the latest one is then not carried on.
abbrev pub set_axis_of : Controller → ℕ → Bool → ℕ → Controller
set_axis_of c k s d =
    with_next (with_hot c (with_master c.hot (replanned_of c.hot.run.master)))
    (record { distances = set c.cold.next.distances k d; minus = set c.cold.next.minus k s })

-- What each axis adds to an output word under the polarity set.
abbrev pub rewire_of : Controller → Controller
rewire_of c =
    with_hot c (with_wires c.hot c.hot.wires.general
    (cells_of c.cold.switch c.cold.settings.polarity c.hot.plan.minus))

-- A setting by its code; the polarity alters the output words.
abbrev pub set_setting_of : Controller → ℕ → ℕ → Controller
set_setting_of c code v = cond (eqb code 12) (rewire_of (with_setting c code v)) (with_setting c code v)

-- The general outputs, and what they add to an output word.
abbrev pub set_outputs_of : Controller → ℕ → Controller
set_outputs_of c v =
    with_hot c (with_wires c.hot (general_of c.cold.switch v) c.hot.wires.cells)
