-- So many ticks, up to the end. Assumes nothing.
use Prim.Native.Nat.{◌+◌}
use native.Mathlib.Omega.{arith}
use mathlib.Core.Path.{◌≡◌, refl, sym, ap, ◌∙◌}
use Rattle.machine.specs.Calls.{state}
use Rattle.trial.specs.declared.ticking.Ticked.{Ticked}
use Rattle.trial.specs.Trial.{end_of}
use Rattle.trial.specs.Ticking.{ran_of}
use Rattle.trial.proofs.TrialLaws.{none_ran, ran_reached, next_ran}
use Rattle.trial.proofs.RunLaws.{last_is, told_next}
use Rattle.trial.proofs.ticking.run.Goals as goal

pub loop-n-init : goal.loop-n-init
loop-n-init c = (c.requires, refl, none_ran c.args.c c.args.word, omega arith, λ f. absurd (f refl))

pub tick-ran-requires-clause-reachable : goal.tick-ran-requires-clause-reachable
tick-ran-requires-clause-reachable c =
    let l = c.loop-n in
    ran_reached c.args.c c.args.word l.n l.ran l.invariant.0 l.invariant.2

pub loop-n-preserved : goal.loop-n-preserved
loop-n-preserved c =
    let l = c.loop-n in
    let q = c.requires in
    let m = state q.switch q.history in
    let next = next_ran c.args.c c.args.word l.n l.ran c.tick-ran.result l.invariant.2 c.tick-ran.ensures in
    let none = sym (ap (λ (x : Ticked). x.end) (l.invariant.2 q.switch q.history q.made)) ∙ c.if-ran-eq0.true in
    let r = ap (λ (x : Ticked). x.end) (next q.switch q.history q.made) in (
      l.invariant.0,
      c.tick-ran.auto.buf ∙ l.invariant.1,
      next,
      omega (arith, c.loop-n-test.true),
      λ f. r ∙ told_next m c.args.word l.n none (λ z. f (r ∙ z)),
    )

pub returns-after-loop-n : goal.returns-after-loop-n
returns-after-loop-n c =
    let l = c.loop-n in
    λ s h e.
    let r = l.invariant.2 s h e in
    let end = ap (λ (x : Ticked). x.end) r in
    r ∙ ap (ran_of (state s h) c.args.word)
    (last_is (state s h) c.args.word c.args.count l.n l.invariant.3
    (λ z. omega (arith, c.loop-n-test.false, l.invariant.3)) (λ f. sym end ∙ l.invariant.4 (λ z. f (sym end ∙ z))))

pub returns-else-ran-eq0 : goal.returns-else-ran-eq0
returns-else-ran-eq0 c =
    let l = c.loop-n in
    λ s h e.
    let r = l.invariant.2 s h e in
    let end = ap (λ (x : Ticked). x.end) r in
    r ∙ ap (ran_of (state s h) c.args.word)
    (last_is (state s h) c.args.word c.args.count l.n l.invariant.3 (λ z. absurd (c.if-ran-eq0.false (end ∙ z)))
    (λ f. sym end ∙ l.invariant.4 (λ z. f (sym end ∙ z))))
