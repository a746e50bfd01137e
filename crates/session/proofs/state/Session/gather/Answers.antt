-- `gather` meets its contract: each return, by the tests and the answers that led there. Assumes nothing.
use native.Mathlib.Omega.{arith}
use mathlib.Core.Path.{sym}
use lib.Seq.{length-take-le}
use Rattle.receiver.proofs.Laws.{before_short}
use Rattle.session.specs.Stretch.{is_mark}
use Rattle.session.proofs.SessionLaws.{reached}
use Rattle.session.proofs.GatheredLaws.{none_gathered, kept_gathered, sent_gathered, gathered_told}
use Rattle.session.proofs.state.Session.gather.Goals as goal

pub bounds-bytes-0 : goal.bounds-bytes-0
bounds-bytes-0 c = omega (arith, c.before_mark-count.ensures, before_short is_mark c.args.bytes.now)

pub slice_bounds-push_all-end : goal.slice_bounds-push_all-end
slice_bounds-push_all-end c =
    sym (length-take-le _ _
    (omega (arith, c.before_mark-count.ensures, before_short is_mark c.args.bytes.now)))

pub slice_bounds-gather-end : goal.slice_bounds-gather-end
slice_bounds-gather-end c =
    sym (length-take-le _ _
    (omega (arith, c.before_mark-count.ensures, before_short is_mark c.args.bytes.now)))

pub gather-requires : goal.gather-requires
gather-requires c = reached c.args.self c.requires

pub returns-then-keeps : goal.returns-then-keeps
returns-then-keeps c =
    let s = c.args.self in
    let bs = c.args.bytes.now in
    let n = c.before_mark-count in
    let t = gathered_told s bs n.result n.ensures _ c.requires
    (kept_gathered s bs n.result n.ensures c.keeps.result c.push_all-kept.result
    c.keeps.ensures c.if-keeps.true c.if-count-gt0.true c.push_all-kept.ensures) in
    record { runs = t.0; runs_2 = t.1.0; running = t.1.1 }

pub returns-else-keeps : goal.returns-else-keeps
returns-else-keeps c =
    let s = c.args.self in
    let bs = c.args.bytes.now in
    let n = c.before_mark-count in
    let t = gathered_told s bs n.result n.ensures _ c.requires
    (sent_gathered s bs n.result n.ensures c.keeps.result c.gather.result
    c.keeps.ensures c.if-keeps.false c.if-count-gt0.true c.gather.ensures.0) in
    record { runs = t.0; runs_2 = t.1.0; running = t.1.1 }

pub returns-else-count-gt0 : goal.returns-else-count-gt0
returns-else-count-gt0 c =
    let s = c.args.self in
    let bs = c.args.bytes.now in
    let n = c.before_mark-count in
    let t = gathered_told s bs n.result n.ensures _ c.requires
    (none_gathered s bs n.result n.ensures (omega (arith, c.if-count-gt0.false))) in
    record { runs = t.0; runs_2 = t.1.0; running = t.1.1 }
