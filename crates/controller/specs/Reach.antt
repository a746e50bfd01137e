-- Which controllers there are: those that power-on and the calls after it made.
use Rattle.std.specs.Prelude.{ℕ, List, ◌≡◌}
use Rattle.machine.specs.State.{Machine}
use Rattle.machine.specs.Calls.{Call, state}
use Rattle.controller.specs.declared.state.Controller.{Controller}
use Rattle.controller.specs.Held.{held}

-- Some switch and some list of calls, refused ones among them, leave the controller c.
pub record Reachable (c : Controller) : Type 0 where
  pub switch : ℕ
  pub history : List Call
  pub made : held (state switch history) ≡ c

-- P holds of the machine after every list of calls that leaves the controller c.
abbrev pub Made : Controller → (Machine → Type 0) → Type 0
Made c P = (s : ℕ) (h : List Call) → held (state s h) ≡ c → P (state s h)
