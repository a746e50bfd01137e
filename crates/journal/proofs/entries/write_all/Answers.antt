-- Number by number, one behind the other. Assumes nothing.
use native.Mathlib.Omega.{arith}
use Rattle.journal.specs.Entries.{travel_range, ranges}
use Rattle.journal.specs.Inner.{capacity}
use Rattle.journal.proofs.RangeLaws.{fit_at, fit_length, within_small}
use Rattle.journal.proofs.SpellLaws as spell
use Rattle.journal.proofs.entries.write_all.Goals as goal

pub loop-n-init : goal.loop-n-init
loop-n-init c =
    let none = spell.none_written c.args.at c.args.values c.args.buf.now in
    record { place = none.0; buf = none.1 }

pub write-place-requires : goal.write-place-requires
unfolding capacity
write-place-requires c =
    let a = c.args in
    let l = c.loop-n in
    let seven = fit_length ranges a.values c.requires.1 in (
      spell.next_room a.at a.values a.buf.now c.requires.0 l.n-index l.place l.buf l.invariant.place l.invariant.buf
          (omega (arith, seven)),
      within_small l.n-index _ (fit_at ranges a.values travel_range l.n-index c.requires.1 (omega (arith, seven))),
    )

pub loop-n-preserved : goal.loop-n-preserved
loop-n-preserved c =
    let a = c.args in
    let l = c.loop-n in
    let w = c.write-place in
    let seven = fit_length ranges a.values c.requires.1 in
    let more = spell.one_more a.at a.values a.buf.now c.requires.0 l.n-index l.place l.buf l.invariant.place
    l.invariant.buf w.result w.new.buf (omega (arith, seven)) w.ensures.value w.ensures.buf_after in
    record { place = more.0; buf = more.1 }

pub shape_of-buf : goal.shape_of-buf
shape_of-buf c =
    let a = c.args in
    let l = c.loop-n in
    spell.same_length a.at a.values a.buf.now c.requires.0 l.n-index l.place l.buf l.invariant.place l.invariant.buf

pub returns : goal.returns
returns c =
    let a = c.args in
    let l = c.loop-n in
    let all =
    spell.all_written a.at a.values a.buf.now c.requires.0 l.n-index l.place l.buf l.invariant.place l.invariant.buf
    (omega arith) in
    record { value = all.0; buf_after = all.1 }
