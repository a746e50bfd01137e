-- What is read off a list of calls is what the machine holds after it, by induction on the list. Assumes nothing.
use Prim.Native.Nat.{ℕ, ◌+◌, ◌<◌}
use mathlib.Core.Bool.{Bool, true, false, cond, not, ◌&&◌, ◌||◌}
use mathlib.Core.List.{List, [], ◌∷◌}
use mathlib.Core.Path.{◌≡◌, refl, sym, ap, subst, ◌∙◌}
use native.Mathlib.Omega.{arith}
use lib.IntN.{ℤ, pos, ◌+ℤ◌}
use Rattle.laws.proofs.Tests.{true_false, both, neither, either, second}
use Rattle.machine.specs.State.{Machine}
use Rattle.machine.specs.Shares as shares
use Rattle.machine.specs.Steps.{Tried, untried, failed, began}
use Rattle.machine.specs.Calls.{Call, after, run, state}
use Rattle.machine.specs.Roles.{
  Role,
  line_of,
  stops_in,
  reset_by,
  carries_by,
  distance_by,
  minus_by,
  sent,
  is_tick,
  begins,
  at_start,
  pause_after,
  dwell_by,
}
use Rattle.machine.specs.List.{
  is_pulse,
  last_dwell,
  paused,
  effect,
  start_or_carry,
  last_distance,
  last_minus,
  started,
  distance,
  minus,
  master,
  counted,
  signed,
  stop_begun,
  goes_on,
}
use Rattle.machine.proofs.BitLaws.{status_moving}
use Rattle.machine.proofs.ShareLaws.{share_none}
use Rattle.machine.proofs.Runs.{Whole}
use Rattle.machine.proofs.Told.{Told, Calls, called_on}
use Rattle.machine.proofs.PauseLaws.{pause_next, dwell_next}

told_none : (s : ℕ) → Told s []
unfolding run last_dwell paused last_distance last_minus started distance minus master counted signed stop_begun goes_on
told_none s = record {
  good = record {
    axis = λ k h. share_none 0 0 (omega arith);
    under = λ q. true_false false q refl;
    fixed = λ q. refl;
  };
  pause = refl;
  dwell = refl;
  next_distance = λ k. refl;
  next_minus = λ k. refl;
  distances = λ k. refl;
  minuses = λ k. refl;
  masters = refl;
  counts = λ k h. refl;
  sums = λ k. refl;
  goes = refl;
  stops = λ q. refl;
  positive = λ q. true_false false q refl;
  rest = λ q. true_false false q refl;
}

same_start : {A : Type 0} (S : Tried) (f g : ℕ → A) (x y : A) → ((j : ℕ) → f j ≡ g j) → x ≡ y → at_start S f x ≡
    at_start S g y
same_start untried f g x y p q = q
same_start (failed n) f g x y p q = q
same_start (began j) f g x y p q = p j

same_stop : (P B X Y : Bool) → (B ≡ false → X ≡ Y) → P || (not B && X) ≡ P || (not B && Y)
same_stop P true X Y h = refl
same_stop P false X Y h = ap (λ (b : Bool). P || b) (h refl)

pub old_start : {A : Type 0} (S : Tried) (f : ℕ → A) (x : A) → begins S ≡ false → at_start S f x ≡ x
old_start untried f x e = refl
old_start (failed n) f x e = refl
old_start (began j) f x e = true_false true refl e

pub by_flag : {A : Type 0} (b : Bool) → (b ≡ true → A) → (b ≡ false → A) → A
by_flag true f g = f refl
by_flag false f g = g refl

-- A call after which the latest move does not run, though it did before or began in it, and no stop has begun in it.
pub whole_end : (s : ℕ) (h : List Call) (x : Call) → Told s h
    → start_or_carry s h x || (state s h).move.moving ≡ true → (after (state s h) x).move.moving ≡ false
    → stops_in (state s h) x || (not (start_or_carry s h x) && stop_begun s h) ≡ false
    → Whole (after (state s h) x).move (sent (state s h) x)
whole_end s h x t b e f = by_flag (is_tick x)
    (λ i. c.ending i b e
    (same_stop (stops_in (state s h) x) (start_or_carry s h x) _ _
    (λ n. t.stops (second (start_or_carry s h x) (state s h).move.moving b n)) ∙ f))
    (λ i. true_false (after (state s h) x).move.moving
    (c.goes ∙ (λ j. b j && (not (i j) || (after (state s h) x).move.moving))) e)
  where
    c : Calls s h x
    c = called_on s h x t

told_next : (s : ℕ) (h : List Call) (x : Call) → Told s h → Told s (x ∷ h)
unfolding run last_dwell paused last_distance last_minus started distance minus master counted signed stop_begun goes_on
told_next s h x t = record {
  good = c.good;
  pause = pause_next (state s h) x ∙ (λ i. pause_after (state s h) (t.pause i) (t.dwell i) x);
  dwell = dwell_next (state s h) x ∙ ap (dwell_by L) t.dwell;
  next_distance = λ k. c.next_distance k ∙ ap (λ (n : ℕ). distance_by L k n) (t.next_distance k);
  next_minus = λ k. c.next_minus k ∙ ap (λ (b : Bool). minus_by L k b) (t.next_minus k);
  distances = λ k. c.distance k ∙ same_start S _ _ _ _ (λ j. t.next_distance k) (t.distances k);
  minuses = λ k. c.minus k ∙ same_start S _ _ _ _ (λ j. t.next_minus k) (t.minuses k);
  masters = c.master ∙ same_start S _ _ _ _ (λ j. refl) t.masters;
  counts = λ k l. c.count k l ∙ ap (λ (n : ℕ). cond (begins S) 0 n + is_pulse (sent m x k)) (t.counts k l);
  sums = λ k. c.sum k ∙ ap (λ (z : ℤ). cond (reset_by L) (pos 0) (z +ℤ sent m x k)) (t.sums k);
  goes = c.goes ∙ (λ i. (start_or_carry s h x || t.goes i) && (not (is_tick x) || sym (status_moving (after m x)) i));
  stops = λ q. c.stopped q ∙ stop q;
  positive = λ q. either (begins S) (started s h) q (λ b. c.positive b)
      (λ b u. subst (λ (n : ℕ). 0 < n) (sym (size b)) (t.positive u));
  rest = λ q e f k l. by_flag (start_or_carry s h x || (state s h).move.moving)
      (λ b. (whole_end s h x t b e f).there k l)
      (λ b. let n = neither (start_or_carry s h x) (state s h).move.moving b in
      let o = (neither (carries_by L) (begins S) n.0).1 in
      c.idle n.0 n.1 k l
      ∙ (t.rest (second (begins S) (started s h) q o) n.1 (unstopped n.0 f) k l ∙ sym (kept o k)));
}
  where
    m : Machine
    m = state s h

    L : Role
    L = line_of (state s h) x

    S : Tried
    S = effect s h x

    c : Calls s h x
    c = called_on s h x t

    stop : (after (state s h) x).move.moving ≡ true
        → stops_in (state s h) x || (not (start_or_carry s h x) && (state s h).move.stopping)
        ≡ stops_in (state s h) x || (not (start_or_carry s h x) && stop_begun s h)
    stop q = same_stop (stops_in (state s h) x) (start_or_carry s h x) _ _
        (λ b. t.stops (second (start_or_carry s h x) (state s h).move.moving
        (both _ _ (sym c.goes ∙ q)).0 b))

    kept : begins (effect s h x) ≡ false → (k : ℕ)
        → (after (state s h) x).move.plan.distance k ≡ (state s h).move.plan.distance k
    kept b k = c.distance k ∙ old_start (effect s h x) _ _ b

    size : begins (effect s h x) ≡ false
        → shares.whole (after (state s h) x).move ≡ shares.whole (state s h).move
    size b = ap (λ (j : ℕ). (after (state s h) x).move.plan.distance j)
        (c.master ∙ old_start (effect s h x) _ _ b) ∙ kept b (state s h).move.master

    unstopped : start_or_carry s h x ≡ false
        → stops_in (state s h) x || (not (start_or_carry s h x) && stop_begun s h) ≡ false → stop_begun s h ≡ false
    unstopped b f =
        let n = neither (stops_in (state s h) x) _ f in
        subst (λ (w : Bool). not w && stop_begun s h ≡ false) b n.1

pub told : (s : ℕ) (h : List Call) → Told s h
told s [] = told_none s
told s (x ∷ h) = told_next s h x (told s h)
