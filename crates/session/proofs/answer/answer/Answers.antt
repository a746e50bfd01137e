-- A line that begins with T, by what it asks. Assumes nothing.
use mathlib.Core.Path.{sym, subst}
use native.Mathlib.Omega.{arith}
use Rattle.machine.specs.Calls.{state}
use Rattle.session.specs.Session.{asks, Told}
use Rattle.session.proofs.PartLaws.{question_told, ran_small, ticks_told}
use Rattle.session.proofs.answer.answer.Goals as goal

pub question-requires : goal.question-requires
question-requires c = c.requires.in_bounds

pub run_ticks-ran-requires : goal.run_ticks-ran-requires
run_ticks-ran-requires c =
    record { reachable = c.requires.reachable; in_bounds = c.requires.in_bounds }

pub show-requires : goal.show-requires
show-requires c =
    let r = c.requires.reachable in
    let k = ran_small _ _ _ _ (c.run_ticks-ran.ensures.made r.switch r.history r.made) in
    omega (arith, k, c.run_ticks-ran.auto.buf, c.requires.in_bounds)

pub write_behind-length-requires : goal.write_behind-length-requires
write_behind-length-requires c =
    let r = c.requires.reachable in
    let k = ran_small _ _ _ _ (c.run_ticks-ran.ensures.made r.switch r.history r.made) in
    omega (arith, k, c.run_ticks-ran.auto.buf, c.show.auto.buf, c.requires.in_bounds)

pub returns-in_default : goal.returns-in_default
returns-in_default c =
    let q = c.question in
    let d = c.args.buf.now in
    λ s h e. subst (λ a. Told q.result q.new.buf d (asks (state s h) a)) (sym c.in_default.is)
    (question_told (state s h) d q.new.buf c.args.c q.result e q.ensures.0 q.ensures.1)

pub returns : goal.returns
returns c =
    let r = c.run_ticks-ran in
    let w = c.write_behind-length in
    let d = c.args.buf.now in
    λ s h e. subst (λ a. Told c.stand.result w.new.buf d (asks (state s h) a)) (sym c.in-Some.is)
    (ticks_told (state s h) d w.new.buf _ _ r.result r.new.buf c.show.new.buf w.result c.stand.result
    (r.ensures.made s h e) (r.ensures.made_2 s h e) c.show.ensures w.ensures.value w.ensures.buf_after c.stand.ensures)
