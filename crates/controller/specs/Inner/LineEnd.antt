-- The end of a line and its reply: src/line_end.rt on held values.
use Rattle.line.specs.declared.Accepted.{Accepted}
use Rattle.line.specs.declared.Refusal.{Refusal}
use Rattle.line.specs.Line.{refusal_number}
use Rattle.std.specs.Prelude.{ℕ, Bool, cond, List, [], eqb, length, Option, Result, Ok, Err}
use Rattle.line.specs.declared.command.Command.{Command}
use Rattle.reply.specs.Reply.{told_by, reply_of, refusal_of}
use Rattle.controller.specs.declared.state.Controller.{Controller}
use Rattle.controller.specs.declared.state.ByteAnswer.{ByteAnswer}
use Rattle.controller.specs.Inner.Orders.{does_of, zero_watch_of}
use Rattle.controller.specs.Inner.Settle.{awaits_of}
use Rattle.controller.specs.Inner.Numbers.{number_of, turned_of}
use Rattle.controller.specs.Inner.Status.{readings_of}

-- The reply to a line turned away.
abbrev pub refuse_reply : Controller → Bool → Option ℕ → ℕ → List ℕ
refuse_reply c silent ident n = cond silent [] (refusal_of c.cold.switch n ident)

-- A line turned away.
abbrev pub refuse_of : Controller → Bool → Option ℕ → ℕ → ByteAnswer
refuse_of c silent ident n =
    record { controller = turned_of c n; length = length (refuse_reply c silent ident n); number = n }

-- The reply to a line accepted, made from the readings before it.
abbrev pub tell_reply : Controller → Bool → Option ℕ → Command → ℕ → List ℕ
tell_reply c silent ident command digits = cond silent [] (reply_of (told_by (readings_of c)) command digits ident)

-- A line accepted.
abbrev pub obey_of : Controller → Bool → Option ℕ → Command → ℕ → ByteAnswer
obey_of c silent ident command digits = record {
  controller = awaits_of (zero_watch_of (does_of c command)) command silent ident;
  length = length (tell_reply c silent ident command digits);
  number = 0;
}

-- A line that has ended.
abbrev pub lined_of : Controller → Bool → Option ℕ → Result Accepted Refusal → ByteAnswer
lined_of c silent ident (Err r) = refuse_of c silent ident (refusal_number r)
lined_of c silent ident (Ok a) =
    cond (eqb (number_of c a.command) 0) (obey_of c silent ident a.command a.digits)
    (refuse_of c silent ident (number_of c a.command))

-- Its reply.
abbrev pub lined_reply : Controller → Bool → Option ℕ → Result Accepted Refusal → List ℕ
lined_reply c silent ident (Err r) = refuse_reply c silent ident (refusal_number r)
lined_reply c silent ident (Ok a) =
    cond (eqb (number_of c a.command) 0) (tell_reply c silent ident a.command a.digits)
    (refuse_reply c silent ident (number_of c a.command))
