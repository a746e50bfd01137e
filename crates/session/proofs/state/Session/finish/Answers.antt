-- The end of the input, and that the session is again one that calls made. Assumes nothing.
use native.Mathlib.Omega.{arith}
use Rattle.machine.specs.Calls.{state}
use Rattle.session.proofs.PlaceLaws.{rests_told, short_told, long_told, start_finished, ended_finished}
use Rattle.session.proofs.SessionLaws.{finished_told}
use Rattle.session.proofs.state.Session.finish.Goals as goal

pub returns-then-buf-lt-REPLY_ROOM : goal.returns-then-buf-lt-REPLY_ROOM
returns-then-buf-lt-REPLY_ROOM c =
    let s = c.args.self in
    let d = c.args.buf.now in
    let r = c.untaken.result in
    let t = finished_told s r d d c.requires
    (λ w h p e. short_told (state w h) p s e r d _ (omega arith) c.untaken.ensures) in
    record { runs = t.0; running = t.1 }

pub returns-in-Start : goal.returns-in-Start
returns-in-Start c =
    let s = c.args.self in
    let d = c.args.buf.now in
    let t = finished_told s (record { session = s; length = 0; number = 0 }) d d c.requires
    (λ w h p e. long_told (state w h) p s e _ d d _ _ (omega arith)
    (start_finished (state w h) p s e c.in-Start.is) (rests_told (state w h) p s e d)) in
    record { runs = t.0; running = t.1 }

pub returns-in-Sending : goal.returns-in-Sending
returns-in-Sending c =
    let s = c.args.self in
    let d = c.args.buf.now in
    let r = c.end_line.result in
    let x = c.end_line.new.buf in
    let t = finished_told s r x d c.requires
    (λ w h p e. long_told (state w h) p s e r x d _ _ (omega arith)
    (ended_finished (state w h) p s e c.in-Sending.is) (c.end_line.ensures w h p e)) in
    record { runs = t.0; running = t.1 }
