-- The block of a W line: src/settle.rt on held values.
use Rattle.std.specs.Prelude.{ℕ, Bool, cond, List, [], eqb, Option, is_some, unwrap_or}
use Rattle.std.specs.Bool.{then_some}
use Rattle.line.specs.declared.command.Command.{Command}
use Rattle.line.specs.Codes.{is_w}
use Rattle.reply.specs.Reply.{inputs_of}
use Rattle.controller.specs.declared.state.Controller.{Controller}
use Rattle.controller.specs.Inner.Parts.{with_block, with_hot, with_ident}

-- The ticks until the block of a W line.
abbrev pub span_of : Bool → ℕ
span_of silent = cond silent 0 2500

-- The identification that is held so.
abbrev pub ident_of : Bool → ℕ → Option ℕ
ident_of named c = then_some named c

-- By the ticks until its block, its identification, and whether it has one.
abbrev pub awaits_given : Controller → ℕ → ℕ → Bool → Controller
awaits_given c block ident named = with_ident (with_hot c (with_block c.hot block)) ident named

-- An accepted W line takes the earlier one's place.
abbrev pub awaits_of : Controller → Command → Bool → Option ℕ → Controller
awaits_of c command silent ident =
    cond (is_w command) (awaits_given c (span_of silent) (unwrap_or ident 0) (is_some ident)) c

-- The block, in the tick that counts the last of them.
abbrev pub tell_reply : ℕ → ℕ → ℕ → Bool → ℕ → List ℕ
tell_reply block switch word named ident = cond (eqb block 1) (inputs_of switch word (ident_of named ident)) []
