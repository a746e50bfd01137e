-- So many ticks. Assumes nothing.
use native.Mathlib.Omega.{arith}
use mathlib.Core.List.{◌∷◌}
use mathlib.Core.Path.{◌≡◌, refl, sym, ap, ◌∙◌}
use Rattle.block.specs.Block.{over}
use Rattle.machine.specs.Calls.{tick, state, buffer, ticks}
use Rattle.controller.specs.Held.{held}
use Rattle.session.specs.Ticks.{blocks_of, ran_of}
use Rattle.session.proofs.BlockLaws.{none_yet}
use Rattle.session.proofs.SumLaws.{past_state, sums_small, none_ran, next_made, next_ran, next_buffer}
use Rattle.session.proofs.ticks.run_ticks.Goals as goal

pub loop-init : goal.loop-init
loop-init c = (
  c.requires.reachable,
  c.requires.reachable,
  c.requires.in_bounds,
  refl,
  λ s h e. none_ran s c.args.word h c.args.c e,
  λ s h e. none_yet c.args.word (state s h) c.args.buf.now,
)

pub ticked-ran-requires : goal.ticked-ran-requires
ticked-ran-requires c =
    let v = c.loop.invariant in
    let r = v.1 in
    record {
      reachable = v.0;
      small = sums_small r.switch c.args.word r.history c.loop.counter _
          (ap (λ x. x.sums) (v.4 r.switch r.history r.made));
      in_bounds = v.2;
    }

pub loop-preserved : goal.loop-preserved
loop-preserved c =
    let v = c.loop.invariant in
    let r = v.0 in
    let t = c.ticked-ran in
    let w = c.args.word in
    let n = c.loop.counter in (
      record {
        switch = r.switch;
        history = tick w buffer ∷ r.history;
        made = next_made r.switch w r.history t.result c.loop.ran (t.ensures.made r.switch r.history r.made);
      },
      v.1,
      omega (arith, t.auto.buf, v.2),
      t.auto.buf ∙ v.3,
      λ s h e. next_ran s w h n c.loop.ran t.result (v.4 s h e)
          (t.ensures.made s (ticks n w h)
          (ap held (past_state s w h n) ∙ sym (ap (λ x. x.controller) (v.4 s h e)))),
      λ s h e. next_buffer s w h n c.args.buf.now c.loop.buf _ (v.5 s h e)
          (t.ensures.made_2 s (ticks n w h)
          (ap held (past_state s w h n) ∙ sym (ap (λ x. x.controller) (v.4 s h e)))),
    )

pub shape_of-buf : goal.shape_of-buf
shape_of-buf c = c.loop.invariant.3

pub returns : goal.returns
returns c =
    let v = c.loop.invariant in
    let n : c.loop.counter ≡ c.args.count = omega arith in record {
      made = λ s h e. v.4 s h e ∙ ap (λ k. ran_of k c.args.word (state s h)) n;
      made_2 = λ s h e. v.5 s h e ∙ ap (λ k. over (blocks_of k c.args.word (state s h)) c.args.buf.now) n;
    }
