-- Laws of the sums: a pulse is added within 32 bits; over any number of ticks a sum is the way from one position to
-- another, and so stays small. Assumes nothing.
use Prim.Native.Nat.{ℕ, zero, suc, ◌+◌, ◌≤◌, ◌<◌}
use native.Mathlib.Numerals.{add-one}
use native.Mathlib.Omega.{arith}
use mathlib.Core.Bool.{false}
use mathlib.Core.List.{List, [], ◌∷◌}
use mathlib.Core.Path.{◌≡◌, sym, ap, subst, ◌∙◌}
use borrow.Author.Tests.{ltb-false}
use lib.IntN.{ℤ, pos, negsuc, neg_ℤ, sub_ℕ, nat_abs, ◌+ℤ◌, +ℤ_idl, +ℤ_idr, +ℤ_assoc, +ℤ_invl}
use lib.ListN.{get_or}
use mir.Syntax.{w8, w32}
use mir.Val.{SFits, to_z, of_z}
use mir.ValLaws.{to_z-of_z}
use Rattle.laws.specs.Axes.{each}
use Rattle.laws.proofs.Pick.{by_lt}
use Rattle.laws.proofs.Five.{five}
use Rattle.laws.proofs.Signs.{neg_size}
use Rattle.block.specs.Block.{over}
use Rattle.machine.specs.Steps.{tick_step}
use Rattle.machine.specs.Starts.{outside}
use Rattle.machine.specs.Calls.{Call, tick, run, state, buffer, ticks}
use Rattle.machine.specs.List.{signed, position, latest}
use Rattle.machine.proofs.LentLaws.{ticks_on}
use Rattle.machine.proofs.DemandLaws.{demand_3}
use Rattle.controller.specs.declared.state.Controller.{Controller}
use Rattle.controller.specs.Held.{held}
use Rattle.session.specs.declared.ticks.Ran.{Ran}
use Rattle.session.specs.Ticks.{
  after_ticks,
  sum_of,
  number_in,
  blocks_of,
  ran_of,
  ticked_of,
  Room,
  Rooms,
  Small,
}
use Rattle.session.proofs.BlockLaws.{block_length, block_over}

-- ---- what a sum's bits are

module _ (z p : ℤ) (fz : SFits w32 z) (fp : SFits w8 p) where
  wide : SFits w32 p
  wide = record { sfits = omega (arith, fp.sfits) }

  pub pulse_fits : SFits w32 (to_z w8 (of_z w8 p))
  pulse_fits = rw (to_z-of_z w8 p fp) wide

  bits : to_z w32 (of_z w32 z) +ℤ to_z w32 (of_z w32 (to_z w8 (of_z w8 p))) ≡ z +ℤ p
  bits = λ i. to_z-of_z w32 z fz i +ℤ (ap (λ (x : ℤ). to_z w32 (of_z w32 x)) (to_z-of_z w8 p fp) ∙ to_z-of_z w32 p wide) i

  pub sum_fits : SFits w32 (z +ℤ p) → SFits w32 (to_z w32 (of_z w32 z) +ℤ to_z w32 (of_z w32 (to_z w8 (of_z w8 p))))
  sum_fits h = subst (λ (x : ℤ). SFits w32 x) (sym bits) h

  pub sum_is : SFits w32 (z +ℤ p)
      → to_z w32 (of_z w32 (to_z w32 (of_z w32 z) +ℤ to_z w32 (of_z w32 (to_z w8 (of_z w8 p))))) ≡ z +ℤ p
  sum_is h = ap (λ (x : ℤ). to_z w32 (of_z w32 x)) bits ∙ to_z-of_z w32 (z +ℤ p) h

module _ (z p : ℤ) (room : Room z p) where
  passed : to_z w32 (of_z w32 z) +ℤ to_z w8 (of_z w8 p) ≡ z +ℤ p
  passed = λ i. to_z-of_z w32 z room.sum i +ℤ to_z-of_z w8 p room.pulse i

  pub pass_fits : SFits w32 (to_z w32 (of_z w32 z) +ℤ to_z w8 (of_z w8 p))
  pass_fits = subst (λ (x : ℤ). SFits w32 x) (sym passed) room.both

  pub pass_is : (r : ℤ) → r ≡ to_z w32 (of_z w32 z) +ℤ to_z w8 (of_z w8 p) → to_z w32 (of_z w32 r) ≡ z +ℤ p
  pass_is r e = ap (λ (x : ℤ). to_z w32 (of_z w32 x)) (e ∙ passed) ∙ to_z-of_z w32 (z +ℤ p) room.both

-- ---- sizes

sub_size : (a b : ℕ) → nat_abs (sub_ℕ a b) ≤ a + b
sub_size a b = by_lt (λ (z : ℤ). nat_abs z ≤ a + b) a b _ _ (λ h. omega arith) (λ h. omega arith)

add_size : (a b : ℤ) → nat_abs (a +ℤ b) ≤ nat_abs a + nat_abs b
add_size (pos m) (pos n) = omega arith
add_size (pos m) (negsuc n) = sub_size m (suc n)
add_size (negsuc m) (pos n) = omega (arith, sub_size n (suc m))
add_size (negsuc m) (negsuc n) = omega arith

-- What leads from one number to another is no larger than both.
way_size : (a x b : ℤ) → b ≡ a +ℤ x → nat_abs x ≤ nat_abs a + nat_abs b
way_size a x b e = omega (arith, add_size (neg_ℤ a) b, neg_size a, ap nat_abs back)
  where
    back : neg_ℤ a +ℤ b ≡ x
    back =
        ap (λ (y : ℤ). neg_ℤ a +ℤ y) e ∙ sym (+ℤ_assoc (neg_ℤ a) a x) ∙ ap (λ (y : ℤ). y +ℤ x) (+ℤ_invl a)
        ∙ +ℤ_idl x

inside_size : (z : ℤ) → outside z ≡ false → nat_abs z ≤ 524288
inside_size (pos n) h = omega (arith, ltb-false 524287 n h)
inside_size (negsuc n) h = omega (arith, ltb-false 524287 n h)

fits_of : (z : ℤ) → nat_abs z ≤ 1048577 → SFits w32 z
fits_of (pos n) h = record { sfits = omega arith }
fits_of (negsuc n) h = record { sfits = omega arith }

pulse_of : (z : ℤ) → nat_abs z ≤ 1 → SFits w8 z
pulse_of (pos n) h = record { sfits = omega arith }
pulse_of (negsuc n) h = record { sfits = omega arith }

room_of : (z p : ℤ) → nat_abs z ≤ 1048576 → nat_abs p ≤ 1 → Room z p
room_of z p h k = record {
  sum = fits_of z (omega arith);
  pulse = pulse_of p k;
  both = fits_of (z +ℤ p) (omega (arith, add_size z p));
}

-- ---- ticks on a list of calls

module _ (s w : ℕ) (h : List Call) where
  pub past_state : (n : ℕ) → state s (ticks n w h) ≡ after_ticks n w (state s h)
  past_state n = ticks_on s w h n

  past_sum : (n k : ℕ) → signed s (ticks n w h) k ≡ signed s h k +ℤ sum_of n w (state s h) k
  unfolding signed sum_of
  past_sum zero k = sym (+ℤ_idr (signed s h k))
  past_sum (suc n) k =
      (λ i. past_sum n k i +ℤ (tick_step (past_state n i) w buffer).pulse k)
      ∙ +ℤ_assoc (signed s h k) (sum_of n w (state s h) k) ((tick_step (after_ticks n w (state s h)) w buffer).pulse k)

  sum_size : (n k : ℕ) → k < 5 → nat_abs (sum_of n w (state s h) k) ≤ 1048576
  sum_size n k l =
      omega (
        arith,
        way_size (position s h k) (sum_of n w (state s h) k) (position s (ticks n w h) k) way,
        inside_size (position s h k) (demand_3 s h k l).within,
        inside_size (position s (ticks n w h) k) (demand_3 s (ticks n w h) k l).within,
      )
    where
      way : position s (ticks n w h) k ≡ position s h k +ℤ sum_of n w (state s h) k
      way =
          (demand_3 s (ticks n w h) k l).sums ∙ past_sum n k
          ∙ ap (λ (z : ℤ). z +ℤ sum_of n w (state s h) k) (sym (demand_3 s h k l).sums)

  pub sums_small : (n : ℕ) (sums : List ℤ) → sums ≡ each (sum_of n w (state s h)) → Small sums
  sums_small n sums e k l = subst (λ (x : List ℤ). nat_abs (get_or x k (pos 0)) ≤ 1048576) (sym e) (each_small k l)
    where
      each_small : Small (each (sum_of n w (state s h)))
      each_small =
          five (λ (j : ℕ). nat_abs (get_or (each (sum_of n w (state s h))) j (pos 0)) ≤ 1048576)
          (sum_size n 0 (omega arith)) (sum_size n 1 (omega arith)) (sum_size n 2 (omega arith))
          (sum_size n 3 (omega arith)) (sum_size n 4 (omega arith))

  single : (k : ℕ) → k < 5 → nat_abs ((tick_step (state s h) w buffer).pulse k) ≤ 1
  unfolding latest
  single k l = (demand_3 s (tick w buffer ∷ h) k l).answer.single

  -- A tick's pulses can be added to small sums.
  pub rooms : (sums : List ℤ) → Small sums → Rooms sums (each (tick_step (state s h) w buffer).pulse)
  rooms sums small =
      five (λ (j : ℕ). Room (get_or sums j (pos 0)) (get_or (each (tick_step (state s h) w buffer).pulse) j (pos 0)))
      (room_of _ _ (small 0 (omega arith)) (single 0 (omega arith)))
      (room_of _ _ (small 1 (omega arith)) (single 1 (omega arith)))
      (room_of _ _ (small 2 (omega arith)) (single 2 (omega arith)))
      (room_of _ _ (small 3 (omega arith)) (single 3 (omega arith)))
      (room_of _ _ (small 4 (omega arith)) (single 4 (omega arith)))

  pub none_ran : (c : Controller) → held (state s h) ≡ c
      → record { controller = c; sums = pos 0 ∷ pos 0 ∷ pos 0 ∷ pos 0 ∷ pos 0 ∷ []; number = 0; length = 0 }
      ≡ ran_of 0 w (state s h)
  unfolding run sum_of number_in blocks_of
  none_ran c e =
      λ i. record { controller = sym e i; sums = pos 0 ∷ pos 0 ∷ pos 0 ∷ pos 0 ∷ pos 0 ∷ []; number = 0; length = 0 }

  pub next_made : (r ran : Ran) → r ≡ ticked_of ran (tick_step (state s h) w buffer)
      → held (state s (tick w buffer ∷ h)) ≡ r.controller
  unfolding run
  next_made r ran e = sym (ap (λ (x : Ran). x.controller) e)

  -- One tick more.
  pub next_ran : (n : ℕ) (ran next : Ran) → ran ≡ ran_of n w (state s h)
      → next ≡ ticked_of ran (tick_step (state s (ticks n w h)) w buffer)
      → next ≡ ran_of (n + 1) w (state s h)
  unfolding run sum_of number_in
  next_ran n ran next p e =
      rw add-one
      (e
      ∙ ((λ i. ticked_of (p i) (tick_step (past_state n i) w buffer))
      ∙ (λ i. record {
        controller = held (after_ticks (suc n) w (state s h));
        sums = each (sum_of (suc n) w (state s h));
        number = number_in (suc n) w (state s h);
        length = block_length w (state s h) n i;
      })))

  -- What is in the buffer after it.
  pub next_buffer : (n : ℕ) (d before after : List ℕ) → before ≡ over (blocks_of n w (state s h)) d
      → after ≡ over (tick_step (state s (ticks n w h)) w buffer).reply before
      → after ≡ over (blocks_of (n + 1) w (state s h)) d
  next_buffer n d before after p e =
      rw add-one
      (e ∙ ((λ i. over (tick_step (past_state n i) w buffer).reply (p i)) ∙ block_over w (state s h) n d))
