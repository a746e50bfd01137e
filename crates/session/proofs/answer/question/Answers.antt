-- `?` and a line feed over the front. Assumes nothing.
use native.Mathlib.Omega.{arith}
use lib.ListN.{length-set}
use Rattle.session.proofs.PartLaws.{question_over}
use Rattle.session.proofs.answer.question.Goals as goal

pub bounds-buf-1 : goal.bounds-buf-1
bounds-buf-1 c = simp length-set (omega (arith, c.requires))

pub returns : goal.returns
returns c =
    (c.stand.ensures, question_over c.args.buf.now c.requires)
