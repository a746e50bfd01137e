-- The five codes and the number, weighed. Assumes nothing.
use Prim.Native.Nat.{◌+◌, ◌*◌}
use borrow.Author.Rules.{rules}
use lib.IntN.{pos}
use lib.ListN.{get_or}
use mir.Syntax.{w8}
use mir.Val.{SFits}
use Rattle.replay.specs.Digest.{tick_code}
use Rattle.replay.proofs.DigestLaws.{pulse_sfits, code_passed}
use Rattle.replay.proofs.digest.tick_code.Goals as goal

pub returns : goal.returns
unfolding tick_code
returns c =
    let f0 : SFits w8 (get_or c.args.pulses 0 (pos 0)) = search (rules, pulse_sfits) in
    let f1 : SFits w8 (get_or c.args.pulses 1 (pos 0)) = search (rules, pulse_sfits) in
    let f2 : SFits w8 (get_or c.args.pulses 2 (pos 0)) = search (rules, pulse_sfits) in
    let f3 : SFits w8 (get_or c.args.pulses 3 (pos 0)) = search (rules, pulse_sfits) in
    let f4 : SFits w8 (get_or c.args.pulses 4 (pos 0)) = search (rules, pulse_sfits) in
    λ i.
    code_passed _ _ f0 c.code.ensures.value i
    + code_passed _ _ f1 c.code-2.ensures.value i * 3
    + code_passed _ _ f2 c.code-3.ensures.value i * 9
    + code_passed _ _ f3 c.code-4.ensures.value i * 27
    + code_passed _ _ f4 c.code-5.ensures.value i * 81
    + c.args.number * 256
