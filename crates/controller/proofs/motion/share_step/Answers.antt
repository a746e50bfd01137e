-- `share_step` meets its contract: each return, by the tests that led there; that 32 bits hold the sum, by `share_sum`.
-- Assumes nothing.
use Prim.Native.Nat.{◌+◌, ◌≤◌}
use native.Mathlib.Omega.{arith}
use Rattle.controller.proofs.StepLaws.{share_sum, share_on, share_off}
use Rattle.controller.proofs.motion.share_step.Goals as goal

pub overflow_add-sum : goal.overflow_add-sum
overflow_add-sum c =
    let sum : c.args.remainder + c.args.distance ≤ 1048573 = share_sum _ _ _ c.requires.0 c.requires.1 c.requires.2 in
    omega arith

pub returns-then-length-sum : goal.returns-then-length-sum
returns-then-length-sum c =
    share_on c.args.remainder c.args.distance c.args.length c.requires.0 c.requires.1
    (omega (arith, c.if-length-sum.true))

pub returns : goal.returns
returns c =
    share_off c.args.remainder c.args.distance c.args.length (omega (arith, c.if-length-sum.false))
