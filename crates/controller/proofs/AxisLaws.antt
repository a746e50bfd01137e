-- One axis at one master pulse more, over plain numbers: d its distance, M the master's, m the master's travel, t its
-- own. The remainder kept beside a travel says where the share grows. Assumes nothing.
use Prim.Native.Nat.{ℕ, ◌+◌, ◌-◌, ◌*◌, ◌/◌, ◌%◌, ◌≤◌, ◌<◌}
use mathlib.Core.Bool.{Bool, true, false, cond}
use mathlib.Core.Path.{◌≡◌, refl, sym, ap, subst, ◌∙◌}
use native.Mathlib.Omega.{arith}
use native.Mathlib.Nat.{
  mod-add-mod,
  div-add-mod',
  div-eq_of_lt-le,
  le-div_iff_mul-le,
  div-lt_iff_lt-mul,
  div-le_of_le-mul,
  mul-le-mul_right,
}
use borrow.Author.Tests.{lt-ltb, le-ltb, ltb-true, ltb-false, le-leb, leb-true, leb-false}
use lib.Dec.{ltb, leb}
use lib.IntN.{ℤ, pos, ◌+ℤ◌, +ℤ_idr}
use Rattle.laws.specs.Axes.{directed}
use Rattle.laws.proofs.Directed.{no_step}
use Rattle.reply.specs.Reply.{bias}
use Rattle.machine.specs.Starts.{outside}
use Rattle.machine.proofs.ShareLaws.{Share, share_grows, share_once}
use Rattle.machine.proofs.PositionLaws.{Room, lies}
use Rattle.controller.specs.declared.motion.Axis.{Axis}
use Rattle.controller.specs.Inner.Motion.{share_step_of, axis_step_position, axis_step_given}

-- The remainder after it.
remainder_next : (d M m : ℕ) → (m * d % M + d) % M ≡ (m + 1) * d % M
remainder_next d M m = mod-add-mod (m * d) M d ∙ ap (λ (x : ℕ). x % M) once
  where
    once : m * d + d ≡ (m + 1) * d
    once = omega arith

module _ (d M m t : ℕ) (p : m < M) (s : Share d M m t) where
  above : 0 < M
  above = omega arith

  -- The travel is the whole part, so the remainder is what is left.
  remainder_is : t * M + m * d % M ≡ m * d
  remainder_is =
      subst (λ (q : ℕ). q * M + m * d % M ≡ m * d) (div-eq_of_lt-le {k = t} M {m = m * d} s.low (s.high above))
      (div-add-mod' (m * d) M)

  -- The share grows where the remainder and the distance come to a whole length.
  grows_is : leb M (m * d % M + d) ≡ ltb t ((m + 1) * d / M)
  grows_is = when (leb M (m * d % M + d)) refl
    where
      when : (b : Bool) → leb M (m * d % M + d) ≡ b → b ≡ ltb t ((m + 1) * d / M)
      when true e =
          let h = leb-true M (m * d % M + d) e in
          let n = (le-div_iff_mul-le {k = M} {x = t + 1} {y = (m + 1) * d} above).1 (omega (arith, remainder_is)) in
          sym (lt-ltb t ((m + 1) * d / M) (omega arith))
      when false e =
          let h = leb-false M (m * d % M + d) e in
          let n = (div-lt_iff_lt-mul {k = M} {x = (m + 1) * d} {y = t + 1} above).1 (omega (arith, remainder_is)) in
          sym (le-ltb t ((m + 1) * d / M) (omega arith))

  -- No share passes its distance.
  share_short : (m + 1) * d / M ≤ d
  share_short = div-le_of_le-mul M (mul-le-mul_right d (omega arith))

  -- An axis that pulses is short of its distance.
  pub axis_grows : M ≤ m * d % M + d → t < d
  axis_grows h =
      let n = ltb-true t ((m + 1) * d / M) (sym grows_is ∙ le-leb M (m * d % M + d) h) in omega (arith, share_short)

  module _ (z : ℤ) (minus : Bool) (inside : outside z ≡ false) (room : Room minus (bias z) (d - t)) where
    -- The axis after the pulse, as it is held.
    abbrev axis_after : Axis
    axis_after = record {
      travel = record { 0 = (m + 1) * d / M };
      position = record { 0 = bias (z +ℤ directed minus ((m + 1) * d / M - t)) };
      remainder = (m + 1) * d % M;
      on = ltb t ((m + 1) * d / M);
      pulse = cond (ltb t ((m + 1) * d / M)) (directed minus 1) (pos 0);
    }

    moved_is : t < d → axis_step_position (record { 0 = bias z }) minus ≡ record { 0 = bias (z +ℤ directed minus 1) }
    moved_is h = when minus room
      where
        when : (b : Bool) → Room b (bias z) (d - t)
            → axis_step_position (record { 0 = bias z }) b ≡ record { 0 = bias (z +ℤ directed b 1) }
        when true r =
            let l = (lies true z 1 inside (omega arith)).held in
            let e : bias z - 1 ≡ bias (z +ℤ directed true 1) = omega arith in
            λ i. record { 0 = e i }
        when false r =
            let l = (lies false z 1 inside (omega arith)).held in
            let e : bias z + 1 ≡ bias (z +ℤ directed false 1) = omega arith in
            λ i. record { 0 = e i }

    rested_is : z ≡ z +ℤ directed minus 0
    rested_is = sym (ap (λ (y : ℤ). z +ℤ y) (no_step minus) ∙ +ℤ_idr z)

    pub axis_is : axis_step_given (share_step_of (m * d % M) d M) (record { 0 = t }) (record { 0 = bias z }) minus
        ≡ axis_after
    axis_is =
        (λ i. axis_step_given (record { remainder = remainder_next d M m i; on = grows_is i }) (record { 0 = t })
        (record { 0 = bias z }) minus)
        ∙ when (ltb t ((m + 1) * d / M)) refl
      where
        low : t ≤ (m + 1) * d / M
        low = share_grows d M m t above s

        high : (m + 1) * d / M ≤ t + 1
        high = share_once d M m t above s

        when : (b : Bool) → ltb t ((m + 1) * d / M) ≡ b
            → axis_step_given (record { remainder = (m + 1) * d % M; on = b }) (record { 0 = t }) (record { 0 = bias z })
            minus
            ≡ record {
              travel = record { 0 = (m + 1) * d / M };
              position = record { 0 = bias (z +ℤ directed minus ((m + 1) * d / M - t)) };
              remainder = (m + 1) * d % M;
              on = b;
              pulse = cond b (directed minus 1) (pos 0);
            }
        when true e =
            let h = ltb-true t ((m + 1) * d / M) e in
            let one : t + 1 ≡ (m + 1) * d / M = omega (arith, high) in
            let by : 1 ≡ (m + 1) * d / M - t = omega (arith, high) in
            let place = subst
            (λ (n : ℕ). axis_step_position (record { 0 = bias z }) minus ≡ record { 0 = bias (z +ℤ directed minus n) }) by
            (moved_is (omega (arith, share_short))) in
            λ i. record {
              travel = record { 0 = one i };
              position = place i;
              remainder = (m + 1) * d % M;
              on = true;
              pulse = directed minus 1;
            }
        when false e =
            let h = ltb-false t ((m + 1) * d / M) e in
            let same : t ≡ (m + 1) * d / M = omega (arith, low) in
            let by : 0 ≡ (m + 1) * d / M - t = omega (arith, low) in
            let place = rested_is ∙ ap (λ (n : ℕ). z +ℤ directed minus n) by in
            λ i. record {
              travel = record { 0 = same i };
              position = record { 0 = bias (place i) };
              remainder = (m + 1) * d % M;
              on = false;
              pulse = pos 0;
            }
