-- `tell` meets its contract: each return, by the tests and the answers that led there. Assumes nothing.
use Rattle.controller.proofs.LineEndLaws.{tell_silent, tell_told}
use Rattle.controller.proofs.line_end.tell.Goals as goal

pub returns-then-line : goal.returns-then-line
returns-then-line c =
    let k = tell_silent c.args.c c.args.line.ident c.args.buf.now c.args.accepted.command c.args.accepted.digits _ c.if-line.true in
    record { value = k.0; buf_after = k.1 }

pub returns : goal.returns
returns c =
    let k = tell_told c.args.c c.args.line.ident c.args.buf.now c.args.accepted.command c.args.accepted.digits _ c.readings-told.result _ _
    c.requires c.if-line.false c.readings-told.ensures
    c.write_reply.ensures.value c.write_reply.ensures.buf_after in
    record { value = k.0; buf_after = k.1 }
