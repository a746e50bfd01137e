-- Where an axis will stand once the move that runs has gone its whole distance, and what one call alters of it:
-- nothing, but for a start, which adds the distance set. Assumes nothing.
use Prim.Native.Nat.{ℕ, zero, suc, ◌+◌, ◌-◌, ◌≤◌, ◌<◌}
use mathlib.Core.Bool.{Bool, true, false, cond, not, ◌&&◌, ◌||◌}
use mathlib.Core.Path.{◌≡◌, refl, sym, ap, ◌∙◌}
use native.Mathlib.Omega.{arith}
use borrow.Author.Tests.{eqb-true}
use lib.Dec.{eqb}
use lib.IntN.{ℤ, pos, negsuc, ◌+ℤ◌, +ℤ_idr, +ℤ_assoc, neg_ℤ-+ℤ, nat_abs}
use Rattle.laws.specs.Axes.{directed}
use Rattle.laws.specs.Bits.{weight}
use Rattle.laws.proofs.Directed.{no_step}
use Rattle.laws.proofs.Tests.{true_false}
use Rattle.machine.specs.State.{Machine}
use Rattle.machine.specs.Steps.{Tried, untried, failed, began}
use Rattle.machine.specs.Roles.{Role, reset_by, carries_by, begins, at_start}
use Rattle.machine.specs.List.{is_pulse}
use Rattle.machine.proofs.CalledLaws.{Called}
use Rattle.machine.proofs.ListLaws.{by_flag, old_start}

-- The open distance of an axis: 0 where no move runs.
abbrev pub ahead : Machine → ℕ → ℕ
ahead m k = cond m.move.moving (m.move.plan.distance k - m.move.travel k) 0

-- The position, and the open distance in the move's direction.
abbrev pub due : Machine → ℕ → ℤ
due m k = m.position k +ℤ directed (m.move.plan.minus k) (ahead m k)

-- ---- Steps

directed_more : (b : Bool) (n j : ℕ) → directed b n +ℤ directed b j ≡ directed b (n + j)
directed_more true n j = sym (neg_ℤ-+ℤ (pos n) (pos j))
directed_more false n j = refl

-- An answer is one step in the direction, or none.
answer_is : (b : Bool) (z : ℤ) → nat_abs z ≤ 1 → (0 < nat_abs z → z ≡ directed b 1) → z ≡ directed b (is_pulse z)
answer_is b (pos zero) h s = sym (no_step b)
answer_is b (pos (suc zero)) h s = s (omega arith)
answer_is b (pos (suc (suc n))) h s = absurd (omega (arith, h))
answer_is b (negsuc zero) h s = s (omega arith)
answer_is b (negsuc (suc n)) h s = absurd (omega (arith, h))

-- The answer z takes its step from what is open, n of d, which leaves j.
step_due : (b : Bool) (p z : ℤ) (n j : ℕ) → z ≡ directed b (is_pulse z) → n ≡ is_pulse z + j
    → (p +ℤ z) +ℤ directed b j ≡ p +ℤ directed b n
step_due b p z n j e q =
    +ℤ_assoc p z (directed b j)
    ∙ ap (λ (y : ℤ). p +ℤ y) (ap (λ (y : ℤ). y +ℤ directed b j) e
    ∙ (directed_more b (is_pulse z) j ∙ ap (directed b) (sym q)))

no_size : (z : ℤ) → nat_abs z ≡ 0 → z ≡ pos 0
no_size (pos n) e = ap pos e
no_size (negsuc n) e = absurd (omega (arith, e))

no_answer : (z : ℤ) → is_pulse z ≡ 0 → z ≡ pos 0
no_answer z e = by_flag (eqb (nat_abs z) 0) (λ q. no_size z (eqb-true (nat_abs z) 0 q))
    (λ q. let f = ap (λ (b : Bool). weight (not b) 1) (sym q) ∙ e in absurd (omega (arith, f)))

-- The value of a start that takes effect.
new_start : {A : Type 0} (S : Tried) (x y : A) → begins S ≡ true → at_start S (λ j. x) y ≡ x
new_start untried x y e = true_false false e refl
new_start (failed n) x y e = true_false false e refl
new_start (began j) x y e = refl

-- ---- One call

module _ (m a : Machine) (L : Role) (S : Tried) (P t : Bool) (z : ℕ → ℤ) (c : Called m L S P t z a)
    (k : ℕ) (l : k < 5) (within : a.move.travel k ≤ a.move.plan.distance k) (carries : carries_by L ≡ false)
    (resets : reset_by L ≡ false) (stops : P ≡ false) (running : m.move.moving ≡ true → m.move.stopping ≡ false)
  where
    position_is : a.position k ≡ m.position k +ℤ z k
    position_is = c.sum k ∙ ap (λ (r : Bool). cond r (pos 0) (m.position k +ℤ z k)) resets

    -- A move that runs after it is not being stopped.
    pub runs_on : a.move.moving ≡ true → a.move.stopping ≡ false
    runs_on e = c.stopped e ∙ rest (begins S) m.move.moving refl
        (sym e ∙ c.goes ∙ (λ i. ((carries i || begins S) || m.move.moving) && (not t || a.move.moving)))
      where
        rest : (b r : Bool) → m.move.moving ≡ r → true ≡ (b || r) && (not t || a.move.moving)
            → P || (not (carries_by L || b) && m.move.stopping) ≡ false
        rest true r q f = rw (carries, stops) refl
        rest false true q f = rw (carries, stops) (running q)
        rest false false q f = true_false true refl f

    -- A call that begins no move leaves it; `began` is whether the move runs before and after.
    pub kept : begins S ≡ false → due a k ≡ due m k
    kept b = by_flag m.move.moving ran idle
      where
        minus_is : a.move.plan.minus k ≡ m.move.plan.minus k
        minus_is = c.minus k ∙ old_start S _ _ b

        distance_is : a.move.plan.distance k ≡ m.move.plan.distance k
        distance_is = c.distance k ∙ old_start S _ _ b

        travel_is : a.move.travel k ≡ m.move.travel k + is_pulse (z k)
        travel_is = c.count k l ∙ ap (λ (x : Bool). cond x 0 (m.move.travel k) + is_pulse (z k)) b

        begins_none : carries_by L || begins S ≡ false
        begins_none = (λ i. carries i || b i)

        idle : m.move.moving ≡ false → due a k ≡ due m k
        idle r =
            let same = c.idle begins_none r k l in
            let e = no_answer (z k) (omega (arith, same, travel_is)) in
            let rests = c.goes ∙ (λ i. (begins_none i || r i) && (not t || a.move.moving)) in
            rw (rests, r) (ap (λ (y : ℤ). y +ℤ directed (a.move.plan.minus k) 0)
            (position_is ∙ (ap (λ (y : ℤ). m.position k +ℤ y) e ∙ +ℤ_idr (m.position k)))
            ∙ (ap (λ (y : ℤ). m.position k +ℤ y) (no_step (a.move.plan.minus k)
            ∙ sym (no_step (m.move.plan.minus k)))))

        answer : z k ≡ directed (m.move.plan.minus k) (is_pulse (z k))
        answer = answer_is (m.move.plan.minus k) (z k) (c.single k l)
            (λ q. c.sign k l q ∙ ap (λ (x : Bool). directed x 1) minus_is)

        stepped : (j : ℕ) → m.move.plan.distance k - m.move.travel k ≡ is_pulse (z k) + j
            → a.position k +ℤ directed (a.move.plan.minus k) j
            ≡ m.position k +ℤ directed (m.move.plan.minus k) (m.move.plan.distance k - m.move.travel k)
        stepped j q =
            (λ i. position_is i +ℤ directed (minus_is i) j)
            ∙ step_due (m.move.plan.minus k) (m.position k) (z k) _ j answer q

        ran : m.move.moving ≡ true → due a k ≡ due m k
        ran r = by_flag a.move.moving
            (λ e. rw (e, r) (stepped _ (omega (arith, within, travel_is, distance_is))))
            (λ e. rw (e, r) (stepped 0 (there e)))
          where
            ticks : a.move.moving ≡ false → t ≡ true
            ticks e = by_flag t (λ q. q) (λ q. true_false a.move.moving
                (c.goes ∙ (λ i. (begins_none i || r i) && (not (q i) || a.move.moving))) e)

            there : a.move.moving ≡ false → m.move.plan.distance k - m.move.travel k ≡ is_pulse (z k) + 0
            there e =
                let w = (c.ending (ticks e) (λ i. begins_none i || r i) e
                (λ i. stops i || (not (begins_none i) && running r i))).there k l in
                omega (arith, w, travel_is, distance_is)

    -- A line that begins one adds the distance set.
    pub adds : begins S ≡ true → t ≡ false → z k ≡ pos 0 → m.move.moving ≡ false
        → due a k ≡ due m k +ℤ directed (m.next.minus k) (m.next.distance k)
    adds b u quiet r = rw (goes, r)
        ((λ i. position_is i +ℤ directed (minus_is i) (ahead_is i))
        ∙ ap (λ (y : ℤ). (m.position k +ℤ y) +ℤ directed (m.next.minus k) (m.next.distance k))
        (quiet ∙ sym (no_step (m.move.plan.minus k))))
      where
        goes : a.move.moving ≡ true
        goes = c.goes ∙ (λ i. ((carries i || b i) || m.move.moving) && (not (u i) || a.move.moving))

        minus_is : a.move.plan.minus k ≡ m.next.minus k
        minus_is = c.minus k ∙ new_start S _ _ b

        distance_is : a.move.plan.distance k ≡ m.next.distance k
        distance_is = c.distance k ∙ new_start S _ _ b

        travel_is : a.move.travel k ≡ 0
        travel_is = c.count k l ∙ (λ i. cond (b i) 0 (m.move.travel k) + is_pulse (quiet i))

        ahead_is : a.move.plan.distance k - a.move.travel k ≡ m.next.distance k
        ahead_is = omega (arith, distance_is, travel_is)
