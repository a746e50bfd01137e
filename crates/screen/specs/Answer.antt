-- What is printed to a line that begins with D (docs/PROTOCOL.md, "A dose on screen first"), by the machine as it
-- stands, which stays as it is.
use Rattle.std.specs.Prelude.{ℕ, List, Option, None, Some}
use Rattle.machine.specs.State.{Machine}
use Rattle.trial.specs.Trial.{trial_of}
use Rattle.screen.specs.declared.asked.Asked.{Asked}
use Rattle.screen.specs.Asked.{asked_of}
use Rattle.screen.specs.Screen.{screen_text, question_text}

abbrev pub shown_for : Machine → Option Asked → List ℕ
shown_for m None = question_text
shown_for m (Some a) = screen_text (trial_of m a.master a.word a.ticks) a.master a.ticks

abbrev pub answer_of : Machine → List ℕ → List ℕ
answer_of m l = shown_for m (asked_of l)
