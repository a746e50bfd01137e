-- A received byte, after every list of calls that leaves the controller: the reply has room in the buffer, and so fits
-- 32 bits. Assumes nothing.
use Prim.Native.Nat.{◌≤◌}
use native.Mathlib.Omega.{arith}
use lib.ListN.{length}
use Rattle.machine.specs.Calls.{state}
use Rattle.replay.proofs.AnswerLaws.{answer_room, byte_part}
use Rattle.replay.proofs.play.lend.Goals as goal

pub overflow_cast-a : goal.overflow_cast-a
overflow_cast-a c =
    let n : c.byte-a.result.length ≤ length c.args.buf.now =
    answer_room (state c.requires.reachable.switch c.requires.reachable.history) c.args.b c.args.buf.now c.byte-a.result
    (c.byte-a.ensures.0 c.requires.reachable.switch c.requires.reachable.history c.requires.reachable.made) in
    record { fits = omega (arith, c.requires.buf_len_bound) }

pub returns : goal.returns
returns c =
    λ s h e. byte_part s h c.args.b c.args.buf.now c.args.was.digest c.byte-a.result c.byte-a.new.buf _ _
    (c.byte-a.ensures.0 s h e) (c.byte-a.ensures.1.0 s h e) c.mix-answered.ensures c.args.whole _
    c.part-counted.ensures c.bytes.ensures
