-- So many ticks. Assumes nothing.
use native.Mathlib.Omega.{arith}
use mathlib.Core.Path.{◌≡◌, refl, ap, ◌∙◌}
use Rattle.replay.specs.Replay.{seen, held_seen, ticks, lent_after}
use Rattle.replay.proofs.PlayLaws.{tick_none, lent_none, tick_reach, tick_next, lent_next}
use Rattle.replay.proofs.play.run.Goals as goal

pub loop-init : goal.loop-init
loop-init c =
    let d = c.args.buf.now in
    (c.requires, refl, tick_none c.args.word d c.args.was, lent_none c.args.word d c.args.was)

pub tick-played-requires : goal.tick-played-requires
tick-played-requires c =
    let v = c.loop.invariant in
    tick_reach c.args.word c.args.buf.now c.args.was c.loop.counter c.loop.played v.0 v.2

pub loop-preserved : goal.loop-preserved
loop-preserved c =
    let l = c.loop in
    let v = l.invariant in
    let w = c.args.word in
    let d = c.args.buf.now in
    let t = c.tick-played in (
      v.0,
      t.auto.buf ∙ v.1,
      tick_next w d c.args.was l.counter l.played t.result l.buf v.1 v.2 t.ensures.plays,
      lent_next w d c.args.was l.counter l.played l.buf _ v.1 v.2 v.3 t.ensures.lends,
    )

pub shape_of-buf : goal.shape_of-buf
shape_of-buf c = c.loop.invariant.1

pub returns : goal.returns
returns c =
    let v = c.loop.invariant in
    let d = c.args.buf.now in
    let g = c.args.was.digest in
    let n : c.loop.counter ≡ c.args.count = omega arith in record {
      plays = λ w h e. v.2 w h e ∙ ap (λ k. held_seen w (ticks w k c.args.word d (seen h g))) n;
      lends = λ w h e. v.3 w h e ∙ ap (λ k. lent_after w k c.args.word d (seen h g)) n;
    }
