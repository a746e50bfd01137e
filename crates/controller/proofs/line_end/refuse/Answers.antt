-- `refuse` meets its contract: each return, by the tests and the answers that led there. Assumes nothing.
use Rattle.controller.proofs.LineEndLaws.{refuse_silent, refuse_told}
use Rattle.controller.proofs.line_end.refuse.Goals as goal

pub returns-else-line : goal.returns-else-line
returns-else-line c =
    let k = refuse_told c.args.c c.args.line.ident c.args.buf.now c.args.line.silent _ _ _ _ c.requires
    c.if-line.false c.turned-controller.ensures
    c.write_refusal-length.ensures.value c.write_refusal-length.ensures.buf_after in
    record { value = k.0; buf_after = k.1 }

pub returns-then-line : goal.returns-then-line
returns-then-line c =
    let k = refuse_silent c.args.c c.args.line.ident c.args.buf.now c.args.line.silent _ _
    c.if-line.true c.turned-controller.ensures in
    record { value = k.0; buf_after = k.1 }
