-- The status word and what replies are made from: src/status.rt on held values.
use Rattle.std.specs.Prelude.{ℕ, ◌+◌, Bool, cond, ◌||◌, ltb}
use Rattle.laws.specs.Bits.{weight}
use Rattle.reply.specs.declared.readings.Readings.{Readings}
use Rattle.controller.specs.declared.state.Controller.{Controller}
use Rattle.controller.specs.declared.state.Plan.{Plan}
use Rattle.controller.specs.declared.state.Hot.{Hot}
use Rattle.controller.specs.Inner.Parts.{blocked_in}

-- The running move's distances, else the next move's.
abbrev pub current_of : Controller → Plan
current_of c = cond c.hot.run.moving c.hot.plan c.cold.next

-- By bits 0 and 4.
abbrev pub status_given : Hot → Bool → Bool → ℕ
status_given h busy blocked =
    weight busy 1 + weight h.run.moving 2 + weight h.flags.wrong 4 + weight h.flags.stopped 8
    + weight blocked 16 + weight h.flags.emergency 32 + weight h.flags.sensed 64

-- The status word: seven bits.
abbrev pub status_of : Controller → ℕ
status_of c =
    status_given c.hot (c.hot.run.moving || ltb 0 c.hot.pause.left)
    (blocked_in c.cold.settings c.hot.inputs (current_of c))

-- What replies are made from.
abbrev pub readings_of : Controller → Readings
readings_of c = record {
  travels = c.hot.counters.travels;
  positions = c.hot.counters.positions;
  inputs = c.hot.inputs;
  minus = c.hot.plan.minus;
  switch = c.cold.switch;
  status = status_of c;
}
