-- `tick` meets its contract: each return, by the tests and the answers that led there. Assumes nothing.
use mathlib.Core.Path.{sym, ◌∙◌}
use lib.ListN.{length}
use Rattle.machine.specs.Calls.{state}
use Rattle.machine.proofs.FitLaws.{fits}
use Rattle.controller.proofs.EntryTickLaws.{
  took,
  take_fits,
  waited_is,
  stop_is,
  stop_fits,
  run_was,
  run_wires,
  run_travels,
  tick_is,
  tick_refused,
  tick_roomy,
}
use Rattle.controller.proofs.ReachLaws.{tick_answers}
use Rattle.controller.proofs.state.Controller.tick.Goals as goal

pub returns-then-number-ne0 : goal.returns-then-number-ne0
returns-then-number-ne0 c =
    tick_answers c.args.self c.requires c.args.word c.args.buf.now _ _
    (λ s h e.
    let t = tick_refused (state s h) c.args.word c.args.buf.now (fits s h) c.args.self e _
    c.tick_number-number.ensures c.if-number-ne0.true in
    (c.refused.ensures ∙ t.0, t.1))

pub waits-waited-requires : goal.waits-waited-requires
waits-waited-requires c =
    let m = state c.requires.switch c.requires.history in
    let f = fits c.requires.switch c.requires.history in
    take_fits m c.args.word c.args.buf.now f c.args.self c.requires.made _
    (took m c.args.word c.args.buf.now f c.args.self c.requires.made _ c.takes-taken.ensures)

pub runs-ran-requires : goal.runs-ran-requires
runs-ran-requires c =
    let m = state c.requires.switch c.requires.history in
    let f = fits c.requires.switch c.requires.history in
    let t = took m c.args.word c.args.buf.now f c.args.self c.requires.made _
    c.takes-taken.ensures in
    let w = waited_is m c.args.word c.args.buf.now f c.args.self c.requires.made _ _ t
    c.waits-waited.ensures in
    stop_fits m c.args.word c.args.buf.now f c.args.self c.requires.made _
    (stop_is m c.args.word c.args.buf.now f c.args.self c.requires.made _ _ w c.stops-stopped.ensures)

pub rest-second-requires : goal.rest-second-requires
rest-second-requires c =
    let m = state c.requires.switch c.requires.history in
    let f = fits c.requires.switch c.requires.history in
    let et = took m c.args.word c.args.buf.now f c.args.self c.requires.made _ c.takes-taken.ensures in
    let ew = waited_is m c.args.word c.args.buf.now f c.args.self c.requires.made _ _ et c.waits-waited.ensures in
    let es = stop_is m c.args.word c.args.buf.now f c.args.self c.requires.made _ _ ew c.stops-stopped.ensures in
    run_wires m c.args.word c.args.buf.now f c.args.self c.requires.made _
    (run_was m c.args.word c.args.buf.now f c.args.self c.requires.made _ _ es c.runs-ran.ensures)

pub told-entry-requires : goal.told-entry-requires
told-entry-requires c =
    let m = state c.requires.switch c.requires.history in
    let f = fits c.requires.switch c.requires.history in
    let et = took m c.args.word c.args.buf.now f c.args.self c.requires.made _ c.takes-taken.ensures in
    let ew = waited_is m c.args.word c.args.buf.now f c.args.self c.requires.made _ _ et c.waits-waited.ensures in
    let es = stop_is m c.args.word c.args.buf.now f c.args.self c.requires.made _ _ ew c.stops-stopped.ensures in
    run_travels m c.args.word c.args.buf.now f c.args.self c.requires.made _
    (run_was m c.args.word c.args.buf.now f c.args.self c.requires.made _ _ es c.runs-ran.ensures)

pub tell-length-requires : goal.tell-length-requires
tell-length-requires c =
    tick_roomy (length c.args.buf.now) c.args.word (sym c.tick_number-number.ensures ∙ c.if-number-ne0.false)

pub returns : goal.returns
returns c =
    tick_answers c.args.self c.requires c.args.word c.args.buf.now _ _
    (λ s h e.
    let et = took (state s h) c.args.word c.args.buf.now (fits s h) c.args.self e _ c.takes-taken.ensures in
    let ew = waited_is (state s h) c.args.word c.args.buf.now (fits s h) c.args.self e _ _ et c.waits-waited.ensures in
    let es = stop_is (state s h) c.args.word c.args.buf.now (fits s h) c.args.self e _ _ ew c.stops-stopped.ensures in
    let er = run_was (state s h) c.args.word c.args.buf.now (fits s h) c.args.self e _ _ es c.runs-ran.ensures in
    tick_is (state s h) c.args.word c.args.buf.now (fits s h) c.args.self e _ _ _ _ _ _
    (sym c.tick_number-number.ensures ∙ c.if-number-ne0.false) ew er c.rest-second.ensures c.told-entry.ensures
    c.tell-length.ensures.value c.tell-length.ensures.buf_after)
