-- The end of a line, by where the input stands. Assumes nothing.
use mathlib.Core.Path.{subst}
use Rattle.machine.specs.Calls.{state}
use Rattle.session.specs.Session.{Told}
use Rattle.session.proofs.PartLaws.{sent_told}
use Rattle.session.proofs.PlaceLaws.{at_controller, asked_ended, sent_ended}
use Rattle.session.proofs.SessionLaws.{reached}
use Rattle.session.proofs.state.Session.end_line.Goals as goal

pub answer-requires : goal.answer-requires
answer-requires c = record {
  reachable = reached c.args.self c.requires.running;
  in_bounds = c.requires.in_bounds;
}

pub send-sent-requires : goal.send-sent-requires
send-sent-requires c = record {
  reachable = reached c.args.self c.requires.running;
  in_bounds = c.requires.in_bounds;
}

pub returns-in-Asking : goal.returns-in-Asking
returns-in-Asking c =
    let s = c.args.self in
    let a = c.answer in
    let asked = c.asked in
    λ w h p e. subst (λ x. Told a.result a.new.buf c.args.buf.now x)
    (asked_ended (state w h) p s e asked.result c.in-Asking.is asked.ensures.keeping)
    (a.ensures w h (at_controller (state w h) p s e))

pub returns-in-Start : goal.returns-in-Start
returns-in-Start c =
    let s = c.args.self in
    let a = c.send-sent in
    let r = c.stand in
    λ w h p e. subst (λ x. Told r.result a.new.buf c.args.buf.now x)
    (sent_ended (state w h) p s e c.in-Start.is)
    (sent_told (state w h) c.args.buf.now a.new.buf 13 a.result r.result
    (a.ensures w h (at_controller (state w h) p s e)) r.ensures)
