-- `byte` meets its contract: each return, by the tests and the answers that led there. Assumes nothing.
use mathlib.Core.Path.{ap}
use Rattle.machine.specs.Calls.{state}
use Rattle.machine.proofs.FitLaws.{fits}
use Rattle.controller.specs.declared.state.Controller.{Controller}
use Rattle.controller.proofs.EntryByteLaws.{byte_short, byte_judged, heard_number, byte_gathered, byte_lined}
use Rattle.controller.proofs.ReachLaws.{byte_answers}
use Rattle.controller.proofs.state.Controller.byte.Goals as goal

pub returns-then-buf-lt-REPLY_ROOM : goal.returns-then-buf-lt-REPLY_ROOM
returns-then-buf-lt-REPLY_ROOM c =
    byte_answers c.args.self c.requires c.args.b c.args.buf.now _ _
    (λ s h e. byte_short (state s h) c.args.b c.args.buf.now (fits s h) c.args.self e c.if-buf-lt-REPLY_ROOM.true)

pub lined-requires : goal.lined-requires
lined-requires c =
    let m = state c.requires.switch c.requires.history in
    let f = fits c.requires.switch c.requires.history in
    let k = c.take-taken.ensures.holding m.line (ap (λ (x : Controller). x.cold.line) c.requires.made) in (
      c.if-buf-lt-REPLY_ROOM.false,
      byte_judged m c.args.b c.args.buf.now f c.args.self c.requires.made c.if-buf-lt-REPLY_ROOM.false _ k _
          c.with_line-controller.ensures _ _ _ c.in-Some.is,
      heard_number m c.args.b c.args.buf.now f c.args.self c.requires.made c.if-buf-lt-REPLY_ROOM.false _ k _
          c.with_line-controller.ensures,
    )

pub returns-in-None : goal.returns-in-None
returns-in-None c =
    byte_answers c.args.self c.requires c.args.b c.args.buf.now _ _
    (λ s h e. byte_gathered (state s h) c.args.b c.args.buf.now (fits s h) c.args.self e
    c.if-buf-lt-REPLY_ROOM.false _
    (c.take-taken.ensures.holding (state s h).line
    (ap (λ (x : Controller). x.cold.line) e)) _ c.with_line-controller.ensures
    c.in-None.is)

pub returns-in-Some : goal.returns-in-Some
returns-in-Some c =
    byte_answers c.args.self c.requires c.args.b c.args.buf.now _ _
    (λ s h e. byte_lined (state s h) c.args.b c.args.buf.now (fits s h) c.args.self e
    c.if-buf-lt-REPLY_ROOM.false
    _ (c.take-taken.ensures.holding (state s h).line (ap (λ (x : Controller). x.cold.line) e)) _
    c.with_line-controller.ensures _ _ _ _ _
    c.in-Some.is c.lined.ensures.value
    c.lined.ensures.buf_after)
