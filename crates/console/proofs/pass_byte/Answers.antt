-- One byte of the input. Assumes nothing.
use native.Mathlib.Omega.{arith}
use Rattle.console.proofs.RoomLaws.{room_bench, room_stands, room_length}
use Rattle.console.proofs.pass_byte.Goals as goal

pub overflow_add-result : goal.overflow_add-result
overflow_add-result c =
    let q = c.args in
    let t = c.take-taken in
    let room = c.requires.at_in_bounds in
    let k =
    room_length q.s q.b q.at t.result t.new.buf q.out.now t.ensures.runs room c.requires.running t.auto.buf in
    record { fits = omega (arith, k) }

pub returns : goal.returns
returns c =
    let q = c.args in
    let t = c.take-taken in
    let room = c.requires.at_in_bounds in
    record {
      running_2 = t.ensures.running;
      length_in_bounds =
          room_length q.s q.b q.at t.result t.new.buf q.out.now t.ensures.runs room c.requires.running t.auto.buf;
      runs = room_bench q.s q.b q.at t.result t.new.buf q.out.now t.ensures.runs room;
      runs_2 = room_stands q.s q.b q.at t.result t.new.buf q.out.now t.ensures.runs room;
    }
