-- Paper 02, 2/14: the line that host tools send first, once after each power-on, so that the watch stops none of their
-- moves. `watch_off` gives it and promises `WatchOff`; the machine is that of crate machine.
use Rattle.std.specs.Prelude.{ℕ, false, List, [], ◌∷◌, ◌++◌, ◌≡◌, None}
use Rattle.digits.specs.Digits.{end_byte}
use Rattle.line.specs.declared.command.Command.TheVariants as C
use Rattle.machine.specs.State.{Machine, put, with_settings}
use Rattle.machine.specs.Steps.{power_on}
use Rattle.machine.specs.Calls.{state, from, chars}
use Rattle.host.specs.declared.Request.{Request}
use Rattle.host.specs.Writer.{line_of}
use Rattle.host.specs.RoundTrip.{calls_of, Roomy, answers_to, gathers, answer_to}

-- P0B0 and 0D.
abbrev pub watch_off : List ℕ
watch_off = chars "P0B0" ++ (end_byte ∷ [])

-- What it asks for: watch 0, with a reply and no identification.
abbrev pub watch_request : Request
watch_request = record { silent = false; command = C.Set 11 0; ident = None }

pub record WatchOff : Type 0 where
  -- the writer's line of the same request is the full one
  pub full : line_of watch_request ≡ chars "P0B00000" ++ (end_byte ∷ [])
  -- to any machine with no half-received line it is that request: every byte but the last answers no reply and number
  -- 0, the last what is answered to the full line
  pub answers : (m : Machine) (lent : ℕ → List ℕ) → m.line ≡ [] → Roomy lent 5
      → answers_to m [] lent watch_off ≡ gathers m [] (chars "P0B0") ++ (answer_to m watch_request ∷ [])
  pub left : (m : Machine) (lent : ℕ → List ℕ) → m.line ≡ [] → Roomy lent 5
      → from m (calls_of lent watch_off []) ≡ (answer_to m watch_request).machine
  -- sent first after power-on, with any switch, it leaves the watch off and all else as power-on made it
  pub first : (s : ℕ) (lent : ℕ → List ℕ) → Roomy lent 5
      → state s (calls_of lent watch_off []) ≡ with_settings (power_on s) (put (power_on s).settings 11 0)
