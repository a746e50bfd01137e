-- A byte goes in: the reply that the controller leaves, made ready to print. Assumes nothing.
use native.Mathlib.Omega.{arith}
use mathlib.Core.Path.{ap}
use Rattle.machine.specs.Calls.{state}
use Rattle.session.proofs.PrintLaws.{reply_size, sent_is}
use Rattle.session.proofs.answer.send.Goals as goal

pub show-requires : goal.show-requires
show-requires c =
    let r = c.requires.reachable in
    omega (
      arith,
      ap (λ x. x.length) (c.byte-a.ensures.0 r.switch r.history r.made),
      c.byte-a.auto.buf,
      c.requires.in_bounds,
      reply_size (state r.switch r.history) c.args.b c.args.buf.now,
    )

pub returns : goal.returns
returns c =
    let a = c.byte-a in
    λ s h e. sent_is (state s h) c.args.b c.args.buf.now a.result a.new.buf c.show.new.buf c.requires.in_bounds
    (a.ensures.0 s h e) (a.ensures.1.0 s h e) c.show.ensures
