-- One tick more, on every machine so held. What the buffer holds plays no part in it. Assumes nothing.
use mathlib.Core.List.{List}
use mathlib.Core.Path.{sym, ap, subst, ◌∙◌}
use lib.IntN.{ℤ}
use Rattle.block.specs.Block.{over}
use Rattle.machine.specs.Calls.{state}
use Rattle.machine.proofs.LentLaws.{any_lent}
use Rattle.controller.specs.Held.{held_tick}
use Rattle.session.specs.Ticks.{Rooms, added_of, later_of}
use Rattle.session.proofs.SumLaws.{rooms}
use Rattle.session.proofs.ticks.ticked.Goals as goal

pub added-requires : goal.added-requires
added-requires c =
    let r = c.requires.reachable in
    let m = state r.switch r.history in
    subst (λ (ps : List ℤ). Rooms c.args.ran.sums ps)
    (sym (ap (λ x. x.pulses) (c.tick-a.ensures.0 r.switch r.history r.made
    ∙ ap held_tick (any_lent m c.args.word c.args.buf.now c.requires.in_bounds))))
    (rooms r.switch c.args.word r.history c.args.ran.sums c.requires.small)

pub returns : goal.returns
returns c =
    let n = c.args.ran in
    let d = c.args.buf.now in
    let a = c.tick-a in record {
      made = λ s h e.
          let q = a.ensures.0 s h e ∙ ap held_tick (any_lent (state s h) c.args.word d c.requires.in_bounds) in
          λ i. record {
            controller = (q i).controller;
            sums = (c.added.ensures ∙ ap (λ x. added_of n.sums x.pulses) q) i;
            number = (c.later.ensures ∙ ap (λ x. later_of n.number x.number) q) i;
            length = (c.later-2.ensures ∙ ap (λ x. later_of n.length x.length) q) i;
          };
      made_2 = λ s h e. a.ensures.1.0 s h e
          ∙ ap (λ x. over x.reply d) (any_lent (state s h) c.args.word d c.requires.in_bounds);
    }
