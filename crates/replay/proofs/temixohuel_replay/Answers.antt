-- Call by call. Assumes nothing.
use Prim.Native.Nat.{◌*◌, ◌+◌, ◌≤◌, ◌/◌}
use native.Mathlib.Nat.{div-eq_of_lt-le}
use native.Mathlib.Omega.{arith}
use mathlib.Core.Path.{◌≡◌, refl, sym, ap, ◌∙◌}
use mathlib.Core.List.{[], ◌∷◌, ◌++◌}
use lib.ListN.{length, drop, length-append, length-drop}
use Rattle.std.specs.Slice.Iter.{chunks_exact_rest, chunks_exact_size}
use Rattle.replay.specs.Replay.{kind_of, seen_after, held_seen, replayed}
use Rattle.replay.proofs.PlayLaws.{after_none, after_reach, after_next, byte_of, word_of, left_is, left_fits, cut_of, end_of}
use Rattle.replay.proofs.temixohuel_replay.Goals as goal

pub loop-bytes-init : goal.loop-bytes-init
loop-bytes-init c =
    let i = c.into_iter-bytes-iterator.ensures.into_iter_gives in
    let h = c.chunks_exact-bytes-items.ensures in (
      ap chunks_exact_size i ∙ h.size,
      omega arith,
      ap chunks_exact_rest i ∙ h.rest,
      after_none c.args.switch c.args.calls.now c.begin-played.result c.begin-played.ensures,
    )

pub call-played-requires : goal.call-played-requires
call-played-requires c =
    after_reach c.args.switch c.args.calls.now (length c.loop-bytes.yielded) c.loop-bytes.played
    c.loop-bytes.invariant.3

pub loop-bytes-preserved : goal.loop-bytes-preserved
loop-bytes-preserved c =
    let l = c.loop-bytes in
    let v = l.invariant in
    let bs = c.args.calls.now in
    let j = length l.yielded in
    let z : 9 * j ≡ 9 * j + 0 = omega arith in
    let d = c.next.ensures.steps in
    let k = cut_of l.bytes-iterator c.next.new.self d c.in-Some.is in
    let n = k.1 ∙ v.0 in
    let m : length (l.yielded ++ (c.in-Some.bytes ∷ [])) ≡ j + 1 = length-append l.yielded (c.in-Some.bytes ∷ []) in
    rw m (
      d.0 ∙ v.0,
      left_fits bs _ _ _ j v.2 k.0 n v.1,
      left_is bs _ _ _ j v.2 k.0 n v.1,
      after_next c.args.switch bs j l.played c.call-played.result _ _ _ v.3
          (c.from.ensures ∙ ap kind_of (byte_of bs _ _ _ j v.2 k.0 n v.1 0 (9 * j) (omega arith) z))
          (c.word_at-value.ensures ∙ word_of bs _ _ _ j v.2 k.0 n v.1 1 (omega arith))
          (c.word_at-count.ensures ∙ word_of bs _ _ _ j v.2 k.0 n v.1 5 (omega arith))
          c.call-played.ensures,
    )

pub returns : goal.returns
unfolding replayed
returns c =
    let l = c.loop-bytes in
    let v = l.invariant in
    let e = end_of l.bytes-iterator c.next.new.self c.next.ensures.steps c.in-None.is in
    let j : length l.yielded ≡ length c.args.calls.now / 9 =
    omega (arith, v.0, v.1, e, ap length v.2, length-drop (9 * length l.yielded) c.args.calls.now) in
    ap (λ p. p.digest) v.3 ∙ ap (λ k. (seen_after c.args.switch c.args.calls.now k).digest) j
