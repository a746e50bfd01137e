-- Reads to the end of the input. Assumes nothing.
use Rattle.std.proofs.Common.{arith, length-take}
use Rattle.turns.proofs.PassLaws.{passes_more}
use Rattle.turns.proofs.read_all.Goals as goal

pub loop-preserved : goal.loop-preserved
loop-preserved g c = (
  c.requires.keeps _ _ _ _ _ c.in_ok-end.ensures,
  passes_more (goal.F-step g) (c.args.pass, c.args.start) (c.loop.pass, c.loop.end) c.in_ok-end.end c.pass.new.self
      c.loop.invariant.1 c.in_ok-end.ensures (simp length-take (omega arith)),
)
