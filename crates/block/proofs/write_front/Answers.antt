-- A block over the front: nine stores, ten with an identification, all of them in range. Assumes nothing.
use Rattle.std.proofs.Common.{None, Some}
use mathlib.Core.Path.{sym}
use native.Mathlib.Omega.{arith}
use lib.ListN.{length-set}
use Rattle.block.proofs.Blocks.{block_least, block_absent, block_given, stored_over}
use Rattle.block.proofs.write_front.Goals as goal

pub bounds-buf-0 : goal.bounds-buf-0
bounds-buf-0 c = omega (arith, block_least c.args.block)

pub bounds-buf-1 : goal.bounds-buf-1
bounds-buf-1 c = simp length-set (omega (arith, block_least c.args.block))

pub bounds-buf-2 : goal.bounds-buf-2
bounds-buf-2 c = simp length-set (omega (arith, block_least c.args.block))

pub bounds-buf-3 : goal.bounds-buf-3
bounds-buf-3 c = simp length-set (omega (arith, block_least c.args.block))

pub bounds-buf-4 : goal.bounds-buf-4
bounds-buf-4 c = simp length-set (omega (arith, block_least c.args.block))

pub bounds-buf-5 : goal.bounds-buf-5
bounds-buf-5 c = simp length-set (omega (arith, block_least c.args.block))

pub bounds-buf-6 : goal.bounds-buf-6
bounds-buf-6 c = simp length-set (omega (arith, block_least c.args.block))

pub bounds-buf-7 : goal.bounds-buf-7
bounds-buf-7 c = simp length-set (omega (arith, block_least c.args.block))

pub bounds-buf-8 : goal.bounds-buf-8
bounds-buf-8 c = simp length-set (omega (arith, block_least c.args.block))

pub bounds-buf-8-in-Some : goal.bounds-buf-8-in-Some
bounds-buf-8-in-Some c = simp length-set (omega (arith, block_given c.args.block _ c.in-Some.is))

pub bounds-buf-9 : goal.bounds-buf-9
bounds-buf-9 c = simp length-set (omega (arith, block_given c.args.block _ c.in-Some.is))

pub shape_of-buf-in-None : goal.shape_of-buf-in-None
shape_of-buf-in-None c = simp length-set

pub returns-in-None : goal.returns-in-None
returns-in-None c = (
  sym (block_absent c.args.block c.in-None.is),
  stored_over c.args.block _ _ c.capital.ensures c.six_capitals-d.ensures None _ c.in-None.is c.requires,
)

pub shape_of-buf-in-Some : goal.shape_of-buf-in-Some
shape_of-buf-in-Some c = simp length-set

pub returns-in-Some : goal.returns-in-Some
returns-in-Some c = (
  sym (block_given c.args.block _ c.in-Some.is),
  stored_over c.args.block _ _ c.capital.ensures c.six_capitals-d.ensures (Some _) _ c.in-Some.is c.requires,
)
