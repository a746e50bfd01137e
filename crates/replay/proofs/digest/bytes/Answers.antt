-- Byte by byte. Assumes nothing.
use native.Mathlib.Omega.{arith}
use mathlib.Core.Path.{◌≡◌, refl, ap, ◌∙◌}
use lib.ListN.{length, take}
use lib.Seq.{take-length}
use Rattle.replay.specs.Digest.{mixed_bytes}
use Rattle.replay.proofs.DigestLaws.{bytes_next}
use Rattle.replay.proofs.digest.bytes.Goals as goal

pub loop-b-init : goal.loop-b-init
unfolding mixed_bytes
loop-b-init c = refl

pub loop-b-preserved : goal.loop-b-preserved
loop-b-preserved c =
    bytes_next c.args.h c.loop-b.b-index c.args.buf.now c.loop-b.digest c.mix-digest.result (omega arith)
    c.loop-b.invariant c.mix-digest.ensures

pub returns : goal.returns
returns c =
    let e : c.loop-b.b-index ≡ length c.args.buf.now = omega arith in
    c.loop-b.invariant ∙ ap (λ k. mixed_bytes c.args.h (take k c.args.buf.now)) e
    ∙ ap (mixed_bytes c.args.h) (take-length c.args.buf.now)
