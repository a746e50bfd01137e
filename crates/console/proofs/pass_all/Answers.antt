-- All bytes of a slice, each once and in order. Assumes nothing.
use Rattle.std.proofs.Common.{arith, ◌∙◌, sym, refl, ◌≡◌, length}
use Rattle.session.proofs.AfterLaws.{after_none, after_more, after_all}
use Rattle.console.proofs.FilledLaws.{filled_session, filled_front, filled_end, filled_some}
use Rattle.console.proofs.pass_all.Goals as goal

pub loop-i-init : goal.loop-i-init
loop-i-init g c = record {
  within = omega arith;
  room = refl;
  running = c.requires;
  reached = after_none c.args.s c.args.bytes.now;
}

pub overflow_add-end : goal.overflow_add-end
overflow_add-end g c =
    omega (
      arith,
      filled_end c.loop-i.session c.fill-filled.result c.fill-filled.new.out c.loop-i.out c.args.bytes.now
          c.loop-i.i c.fill-filled.ensures.runs c.loop-i.invariant.running c.loop-i.invariant.within,
    )

pub slice_bounds-print-end : goal.slice_bounds-print-end
slice_bounds-print-end g c =
    filled_end c.loop-i.session c.fill-filled.result c.fill-filled.new.out c.loop-i.out c.args.bytes.now
    c.loop-i.i c.fill-filled.ensures.runs c.loop-i.invariant.running c.loop-i.invariant.within

pub print-written-requires-clause-runs : goal.print-written-requires-clause-runs
print-written-requires-clause-runs g c w h p e =
    c.front-text.ensures
    ∙ filled_front c.loop-i.session c.fill-filled.result c.fill-filled.new.out c.loop-i.out
    c.args.bytes.now c.loop-i.i c.fill-filled.ensures.runs c.fill-filled.auto.out w h p e

pub loop-i-smaller : goal.loop-i-smaller
loop-i-smaller g c =
    omega (
      arith,
      filled_some c.loop-i.session c.fill-filled.result c.fill-filled.new.out c.loop-i.out
          c.args.bytes.now c.loop-i.i c.fill-filled.ensures.runs c.loop-i.invariant.running
          (omega (arith, c.loop-i.invariant.room)) c.loop-i-test.true,
      c.loop-i-test.true,
    )

pub loop-i-preserved : goal.loop-i-preserved
loop-i-preserved g c = record {
  within =
      filled_end c.loop-i.session c.fill-filled.result c.fill-filled.new.out c.loop-i.out c.args.bytes.now
      c.loop-i.i c.fill-filled.ensures.runs c.loop-i.invariant.running c.loop-i.invariant.within;
  room = c.loop-i.invariant.room ∙ sym c.fill-filled.auto.out;
  running = c.fill-filled.ensures.running;
  reached =
      after_more c.args.s c.loop-i.session c.fill-filled.result.session c.args.bytes.now c.loop-i.i
      c.fill-filled.result.count c.loop-i.invariant.reached
      (filled_session c.loop-i.session c.fill-filled.result c.fill-filled.new.out c.loop-i.out
      c.args.bytes.now c.loop-i.i c.fill-filled.ensures.runs);
}

pub returns-clause-runs : goal.returns-clause-runs
returns-clause-runs g c =
    let n : c.loop-i.i ≡ length c.args.bytes.now = omega arith in
    after_all c.args.s c.loop-i.session c.args.bytes.now c.loop-i.i n c.loop-i.invariant.reached
