-- As many bytes as there is room for, line by line. The invariant: calls made the session, and the buffer is filled so
-- far as `Filling` says. The measure is the bytes left. Assumes nothing.
use native.Mathlib.Omega.{arith}
use mathlib.Core.Logic.{inl, inr}
use mathlib.Core.Path.{refl, subst, ◌∙◌}
use Rattle.console.proofs.RoomLaws.{part_length, part_rest}
use Rattle.console.proofs.FillLaws.{Lined, filling_none, filling_more, filling_done}
use Rattle.console.proofs.fill.Goals as goal

pub loop-i-init : goal.loop-i-init
loop-i-init c =
    (omega arith, omega arith, refl, c.requires, filling_none c.args.out.now c.args.bytes.now c.args.s)

pub pass_line-passed-requires : goal.pass_line-passed-requires
pass_line-passed-requires c =
    record {
      running = c.loop-i.invariant.3;
      at_in_bounds = omega (arith, c.loop-i.invariant.1, c.if-out-at-ge-REPLY_ROOM.true);
    }

pub overflow_add-i : goal.overflow_add-i
overflow_add-i c =
    omega (
      arith,
      c.pass_line-passed.ensures.count_in_bounds.0,
      part_length c.args.bytes.now c.loop-i.i,
      c.loop-i.invariant.0,
      c.well_formed.1.1.0.0,
    )

pub loop-i-smaller : goal.loop-i-smaller
loop-i-smaller c =
    let n = part_length c.args.bytes.now c.loop-i.i in
    omega (
      arith,
      c.pass_line-passed.ensures.count_in_bounds.1 (omega (arith, n, c.loop-i-test.true)),
      c.pass_line-passed.ensures.count_in_bounds.0,
      n,
      c.loop-i-test.true,
    )

pub loop-i-preserved : goal.loop-i-preserved
loop-i-preserved c =
    let entry = c.args.out.now in
    let bs = c.args.bytes.now in
    let l = c.loop-i in
    let v = c.loop-i.invariant in
    let p = c.pass_line-passed in (
      omega (arith, p.ensures.count_in_bounds.0, part_length bs l.i, v.0),
      omega (arith, p.ensures.length_in_bounds, p.auto.out),
      p.auto.out ∙ v.2,
      p.ensures.running_2,
      filling_more entry bs l.session l.at l.i l.out c.args.s p.result p.new.out
          (omega (arith, v.2, c.if-out-at-ge-REPLY_ROOM.true)) v.4
          (subst (Lined l.session l.at l.out p.new.out p.result) (part_rest bs l.i)
          (p.ensures.runs, (p.ensures.runs_2, p.ensures.count_value))),
    )

pub returns-after-loop-i : goal.returns-after-loop-i
returns-after-loop-i c =
    let l = c.loop-i in
    record {
      running = l.invariant.3;
      runs = filling_done c.args.out.now c.args.bytes.now l.session l.at l.i l.out c.args.s l.invariant.4
          (inl c.loop-i-test.false);
    }

pub returns-else-out-at-ge-REPLY_ROOM : goal.returns-else-out-at-ge-REPLY_ROOM
returns-else-out-at-ge-REPLY_ROOM c =
    let l = c.loop-i in
    record {
      running = l.invariant.3;
      runs = filling_done c.args.out.now c.args.bytes.now l.session l.at l.i l.out c.args.s l.invariant.4
          (inr (omega (arith, l.invariant.2, c.if-out-at-ge-REPLY_ROOM.false)));
    }
