-- Byte by byte. Assumes nothing.
use Rattle.std.proofs.Common.{take}
use native.Mathlib.Omega.{arith}
use Rattle.session.proofs.PrintLaws.{show_none, show_next, show_all}
use Rattle.session.proofs.answer.show.Goals as goal

pub loop-b-init : goal.loop-b-init
loop-b-init c = show_none (take c.args.n c.args.buf.now)

pub loop-b-preserved : goal.loop-b-preserved
loop-b-preserved c =
    show_next c.loop-b.b-index (take c.args.n c.args.buf.now) c.loop-b.b-items (omega arith) c.loop-b.invariant
    c.shown_byte.result c.shown_byte.ensures

pub returns : goal.returns
returns c =
    show_all c.args.n c.loop-b.b-index c.args.buf.now c.loop-b.b-items c.requires (omega arith) c.loop-b.invariant
