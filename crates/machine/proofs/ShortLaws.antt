-- Which lists leave a move to carry on (paper 02, 6/14): what the machine tells of a move at rest, by its travel and
-- whether a distance line came since, is what is read off the list. Assumes nothing.
use Prim.Native.Nat.{ℕ}
use mathlib.Core.Bool.{Bool, true, false, not, ◌&&◌, ◌||◌}
use mathlib.Core.List.{List, [], ◌∷◌}
use mathlib.Core.Path.{◌≡◌, refl, sym, ap, ◌∙◌}
use native.Mathlib.Omega.{arith}
use borrow.Author.Tests.{le-ltb}
use lib.Dec.{ltb}
use Rattle.laws.proofs.Tests.{neither, either, and_true}
use Rattle.machine.specs.Shares as shares
use Rattle.machine.specs.Starts.{can_carry_on}
use Rattle.machine.specs.Calls.{Call, byte, tick, after, run, state}
use Rattle.machine.specs.Roles.{line_of, sets_distance, carries_by, begins}
use Rattle.machine.specs.List.{effect, start_or_carry, master, counted, stop_begun, ends, whole}
use Rattle.machine.specs.Carry.{stopped_short}
use Rattle.machine.proofs.FitLaws.{fits as in_range_lem}
use Rattle.machine.proofs.Told.{Calls, called_on}
use Rattle.machine.proofs.ListLaws.{by_flag, old_start, whole_end, told}
use Rattle.machine.proofs.DemandLaws.{same_whole}
use Rattle.machine.proofs.JournalLaws.{counted_gone, ending, ending_is}

-- ---- A call that leaves a move at rest as it was

without : (short set was : Bool) → short && not (set || was) ≡ not set && (true && (short && not was))
without true true was = refl
without true false was = refl
without false true was = refl
without false false was = refl

module _ (s : ℕ) (h : List Call) (x : Call) (d : start_or_carry s h x ≡ false) (e : (state s h).move.moving ≡ false) where
  c : Calls s h x
  c = called_on s h x (told s h)

  unbegun : begins (effect s h x) ≡ false
  unbegun = (neither (carries_by (line_of (state s h) x)) (begins (effect s h x)) d).1

  same_master : (after (state s h) x).move.master ≡ (state s h).move.master
  same_master = c.master ∙ old_start (effect s h x) _ _ unbegun

  same_gone : shares.gone (after (state s h) x).move ≡ shares.gone (state s h).move
  same_gone =
      ap (λ (j : ℕ). (after (state s h) x).move.travel j) same_master
      ∙ c.idle d e (state s h).move.master (in_range_lem s h).move.master

  same_length : shares.whole (after (state s h) x).move ≡ shares.whole (state s h).move
  same_length =
      ap (λ (j : ℕ). (after (state s h) x).move.plan.distance j) same_master
      ∙ (c.distance (state s h).move.master ∙ old_start (effect s h x) _ _ unbegun)

  same_replanned : (after (state s h) x).move.replanned
      ≡ sets_distance (line_of (state s h) x) || (state s h).move.replanned
  same_replanned =
      c.replanned
      ∙ ap (λ (b : Bool). sets_distance (line_of (state s h) x) || (not b && (state s h).move.replanned)) unbegun

  -- It can be carried on as before, unless the call is a distance line.
  at_rest : can_carry_on (after (state s h) x)
      ≡ not (sets_distance (line_of (state s h) x)) && (not (start_or_carry s h x) && can_carry_on (state s h))
  at_rest =
      (λ i. ltb (same_gone i) (same_length i) && not (same_replanned i))
      ∙ (without (ltb (shares.gone (state s h).move) (shares.whole (state s h).move))
      (sets_distance (line_of (state s h) x)) (state s h).move.replanned
      ∙ ap (λ (b : Bool). not (sets_distance (line_of (state s h) x)) && (not b && can_carry_on (state s h))) (sym d))

-- ---- The end of a move

-- Short of M only where a stop has begun.
by_stop : (begun short : Bool) → (begun ≡ false → short ≡ false) → short && true ≡ begun && short
by_stop true true f = refl
by_stop true false f = refl
by_stop false short f = ap (λ (b : Bool). b && true) (f refl)

not_below : (n m : ℕ) → n ≡ m → ltb n m ≡ false
not_below n m e = le-ltb n m (omega (arith, e))

module _ (s : ℕ) (h : List Call) (w : ℕ) (d : List ℕ)
    (b : begins (effect s h (tick w d)) || (state s h).move.moving ≡ true)
    (e : (after (state s h) (tick w d)).move.moving ≡ false) where
  -- No distance line came while it ran.
  fixed : (after (state s h) (tick w d)).move.replanned ≡ false
  fixed =
      (called_on s h (tick w d) (told s h)).replanned
      ∙ either (begins (effect s h (tick w d))) (state s h).move.moving b
      (λ q. ap (λ (t : Bool). not t && (state s h).move.replanned) q)
      (λ q r. ap (λ (t : Bool). not t && (state s h).move.replanned) q ∙ (told s h).good.fixed r)

  at_end : can_carry_on (after (state s h) (tick w d))
      ≡ stop_begun s (tick w d ∷ h)
      && ltb (counted s (tick w d ∷ h) (master s (tick w d ∷ h))) (whole s (tick w d ∷ h))
  unfolding run stop_begun
  at_end =
      let u = told s (tick w d ∷ h) in
      (λ i. ltb (shares.gone (after (state s h) (tick w d)).move) (shares.whole (after (state s h) (tick w d)).move)
      && not (fixed i))
      ∙ (by_stop (stop_begun s (tick w d ∷ h)) _
      (λ f. not_below _ _ (whole_end s h (tick w d) (told s h) b e f).reached)
      ∙ λ i. stop_begun s (tick w d ∷ h) && ltb (counted_gone s (tick w d ∷ h) i) (same_whole s (tick w d ∷ h) u i))

-- ---- Of a list

pub short_is : (s : ℕ) (h : List Call) → (state s h).move.moving ≡ false → can_carry_on (state s h) ≡ stopped_short s h
unfolding run stopped_short ends
short_is s [] e = refl
short_is s (byte b buffer ∷ h) e =
    at_rest s h (byte b buffer) n.0 n.1
    ∙ ap (λ (t : Bool). not (sets_distance (line_of (state s h) (byte b buffer)))
    && (not (start_or_carry s h (byte b buffer)) && t)) (short_is s h n.1)
  where
    n : (start_or_carry s h (byte b buffer) ≡ false) × ((state s h).move.moving ≡ false)
    n = neither _ _ (and_true _ (sym (called_on s h (byte b buffer) (told s h)).goes ∙ e))
short_is s (tick w d ∷ h) e =
    by_flag (begins (effect s h (tick w d)) || (state s h).move.moving)
    (λ b. at_end s h w d b e ∙ sym (rw (sym (ending_is s h w d) ∙ ended b)))
    (λ b. let n = neither (begins (effect s h (tick w d))) (state s h).move.moving b in
    at_rest s h (tick w d) n.0 n.1
    ∙ (ap (λ (t : Bool). not (start_or_carry s h (tick w d)) && t) (short_is s h n.1)
    ∙ sym (rw (sym (ending_is s h w d) ∙ unended b))))
  where
    ended : begins (effect s h (tick w d)) || (state s h).move.moving ≡ true → ending s h w d ≡ true
    ended b = rw (b, e)

    unended : begins (effect s h (tick w d)) || (state s h).move.moving ≡ false → ending s h w d ≡ false
    unended b = rw b
