-- A number with its sign and its mark. Assumes nothing.
use mathlib.Core.Path.{◌≡◌, ◌∙◌}
use native.Mathlib.Omega.{arith}
use Rattle.laws.proofs.Pick.{picks}
use Rattle.session.specs.Text.{mark_of}
use Rattle.session.proofs.TextLaws.{sign_room, mark_room, item_written}
use Rattle.session.proofs.sums.write_item.Goals.{then-k-eq4, else-k-eq4}
use Rattle.session.proofs.sums.write_item.Goals as goal

pub write_number-end-requires : goal.write_number-end-requires
write_number-end-requires c = sign_room c.args.at c.args.minus c.args.n c.args.buf.now c.ranges.n.fits c.requires

pub bounds-buf-end : goal.bounds-buf-end
bounds-buf-end c =
    let w = c.write_number-end in
    mark_room c.args.at c.args.minus c.args.n c.args.buf.now c.ranges.n.fits c.requires
    w.result w.new.buf w.ensures.value w.auto.buf

pub overflow_add-result : goal.overflow_add-result
overflow_add-result c =
    let w = c.write_number-end in
    let room = mark_room c.args.at c.args.minus c.args.n c.args.buf.now c.ranges.n.fits c.requires
    w.result w.new.buf w.ensures.value w.auto.buf in
    record { fits = omega (arith, w.auto.buf, room) }

pub returns : goal.returns
returns c =
    let w = c.write_number-end in
    let m : c.if-k-eq4.mark ≡ mark_of c.args.k =
    elim c.if-k-eq4.branch [
      | then-k-eq4 w ↦ w.mark-is ∙ search picks
      | else-k-eq4 w ↦ w.mark-is ∙ search picks
    ] in
    let t = item_written c.args.at c.args.minus c.args.n c.args.buf.now c.ranges.n.fits c.requires
    w.result w.new.buf w.ensures.value w.auto.buf c.args.k c.if-k-eq4.mark w.ensures.buf_after m in
    record { value = t.0; buf_after = t.1.0; upper_bound = t.1.1 }
