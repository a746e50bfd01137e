-- The figures that replies are made from (paper 01, "Lines", Replies).
use Rattle.std.specs.Prelude.{ℕ, Bool, cond, List, [], ℤ, Option}
use Rattle.line.specs.declared.command.Command.{Command}
use Rattle.reply.specs.Reply.{Told, travel_digits, twenty, reply_of, refusal_of, inputs_of}
use Rattle.machine.specs.State.{Machine}
use Rattle.machine.specs.Stops.{status}

-- The figures that the replies to Q 0-4 and q 0-4 are made from.
abbrev pub travel_of : Machine → ℕ → ℕ
travel_of m k = m.move.travel k

abbrev pub position_of : Machine → ℕ → ℤ
position_of m k = m.position k

-- The latest move's minus bit (0 before any) with the travel; position in 20-bit two's complement; status; the last
-- tick's inputs.
abbrev pub told_of : Machine → Told
told_of m = record {
  switch = m.switch;
  travel = λ k. travel_digits (m.move.plan.minus k) (travel_of m k);
  position = λ k. twenty (position_of m k);
  status = status m;
  inputs = m.inputs;
}

abbrev pub reply_to : Machine → Command → ℕ → Option ℕ → List ℕ
reply_to m c digits ident = reply_of (told_of m) c digits ident

abbrev pub refusal : Machine → ℕ → Option ℕ → List ℕ
refusal m n ident = refusal_of m.switch n ident

-- The block of the W line that waits, with the inputs w (paper 02, 3/14).
abbrev pub settled_block : Machine → ℕ → List ℕ
settled_block m w = inputs_of m.switch w m.settle.ident

-- A line whose second character is 4 never answers.
abbrev pub unless_silent : Bool → List ℕ → List ℕ
unless_silent silent reply = cond silent [] reply
