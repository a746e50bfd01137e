-- A character, by whether it is kept. Assumes nothing.
use mathlib.Core.Path.{subst}
use Rattle.machine.specs.Calls.{state}
use Rattle.session.specs.Session.{Told}
use Rattle.session.proofs.PartLaws.{sending_told}
use Rattle.session.proofs.PlaceLaws.{at_controller, character_kept, character_sent, keeps_told}
use Rattle.session.proofs.SessionLaws.{reached}
use Rattle.session.proofs.state.Session.pass.Goals as goal

pub returns-then-keeps : goal.returns-then-keeps
returns-then-keeps c =
    let s = c.args.self in
    let d = c.args.buf.now in
    λ w h p e. subst (λ x. Told c.keep.result d d x)
    (character_kept (state w h) p s e c.args.b _ c.keeps.ensures c.if-keeps.true)
    (keeps_told (state w h) p s e c.args.b c.keep.result d c.keep.ensures)

pub send-sent-requires : goal.send-sent-requires
send-sent-requires c = record {
  reachable = reached c.args.self c.requires.running;
  in_bounds = c.requires.in_bounds;
}

pub returns : goal.returns
returns c =
    let s = c.args.self in
    let a = c.send-sent in
    let r = c.stand in
    λ w h p e. subst (λ x. Told r.result a.new.buf c.args.buf.now x)
    (character_sent (state w h) p s e c.args.b _ c.keeps.ensures c.if-keeps.false)
    (sending_told (state w h) c.args.buf.now a.new.buf c.args.b a.result r.result
    (a.ensures w h (at_controller (state w h) p s e)) r.ensures)
