-- A byte of the input, and that the next session is again one that calls made. Assumes nothing.
use native.Mathlib.Omega.{arith}
use mathlib.Core.Path.{refl}
use Rattle.laws.proofs.Pick.{on_eq, on_ne}
use Rattle.machine.specs.Calls.{state}
use Rattle.session.proofs.PlaceLaws.{short_told, long_told}
use Rattle.session.proofs.SessionLaws.{taken_told}
use Rattle.session.proofs.state.Session.take.Goals as goal

pub returns-then-buf-lt-REPLY_ROOM : goal.returns-then-buf-lt-REPLY_ROOM
returns-then-buf-lt-REPLY_ROOM c =
    let s = c.args.self in
    let d = c.args.buf.now in
    let r = c.untaken.result in
    let t = taken_told s r d d c.requires c.args.b
    (λ w h p e. short_told (state w h) p s e r d _ (omega arith) c.untaken.ensures) in
    record { runs = t.0; running = t.1 }

pub returns-then-b-eq-FEED : goal.returns-then-b-eq-FEED
returns-then-b-eq-FEED c =
    let s = c.args.self in
    let d = c.args.buf.now in
    let r = c.end_line.result in
    let x = c.end_line.new.buf in
    let t = taken_told s r x d c.requires c.args.b
    (λ w h p e. long_told (state w h) p s e r x d _ _ (omega arith)
    (on_eq c.args.b 10 _ _ _ c.if-b-eq-FEED.true refl) (c.end_line.ensures w h p e)) in
    record { runs = t.0; running = t.1 }

pub returns : goal.returns
returns c =
    let s = c.args.self in
    let d = c.args.buf.now in
    let r = c.pass.result in
    let x = c.pass.new.buf in
    let t = taken_told s r x d c.requires c.args.b
    (λ w h p e. long_told (state w h) p s e r x d _ _ (omega arith)
    (on_ne c.args.b 10 _ _ _ c.if-b-eq-FEED.false refl) (c.pass.ensures w h p e)) in
    record { runs = t.0; running = t.1 }
