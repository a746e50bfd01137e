-- Ticks up to the end, in the place of all that were asked for: the loop that stops there, and what is shown then.
-- Assumes nothing.
use Prim.Native.Nat.{ℕ, zero, suc, ◌+◌, ◌-◌, ◌≤◌, ◌<◌}
use native.Mathlib.Numerals.{add-one}
use native.Mathlib.Omega.{arith}
use mathlib.Core.Bool.{Bool, true, false, cond}
use mathlib.Core.List.{List}
use mathlib.Core.Path.{◌≡◌, refl, sym, ap, subst, ◌∙◌}
use borrow.Author.Tests.{eq-eqb, ne_eqb, eqb-true, eqb-false}
use lib.Dec.{eqb}
use Rattle.laws.proofs.Pick.{by_bool}
use Rattle.machine.specs.State.{Machine}
use Rattle.machine.specs.Calls.{Call, state, ticks}
use Rattle.machine.proofs.LentLaws.{ticks_on}
use Rattle.controller.specs.declared.state.Controller.{Controller}
use Rattle.controller.specs.declared.state.ByteAnswer.{ByteAnswer}
use Rattle.controller.specs.Held.{held, held_byte}
use Rattle.controller.specs.Reach.{Reachable, Made}
use Rattle.trial.specs.declared.Trial.{Trial}
use Rattle.trial.specs.declared.ticking.Ticked.{Ticked}
use Rattle.trial.specs.Trial.{start_answer, end_of, shown, run_of}
use Rattle.trial.specs.Ticking.{ran_of, last_of}
use Rattle.trial.proofs.EndLaws.{step}
use Rattle.trial.proofs.RestLaws.{begun_stays}
use Rattle.trial.proofs.TrialLaws.{ran_held, start_calls, start_state}

-- ---- The loop

-- Once told, the end stays.
kept : (m : Machine) (w i d : ℕ) → (end_of m w i ≡ 0 → ⊥) → end_of m w (d + i) ≡ end_of m w i
kept m w i zero f = ap (end_of m w) (omega arith)
kept m w i (suc d) f =
    ap (end_of m w) (omega arith)
    ∙ step m w (d + i) (λ x. x ≡ end_of m w i) (λ z b. absurd (f (sym (kept m w i d f) ∙ z)))
    (λ z b. absurd (f (sym (kept m w i d f) ∙ z))) (λ z. kept m w i d f)

-- Where none is left, n are as many as there are to be.
pub last_is : (m : Machine) (w count n : ℕ) → n ≤ count → (end_of m w n ≡ 0 → n ≡ count)
    → ((end_of m w n ≡ 0 → ⊥) → end_of m w n ≡ n) → n ≡ last_of m w count
last_is m w count n within whole at =
    by_bool (λ (t : Bool). n ≡ last_of m w count) (eqb (end_of m w n) 0) true false
    (λ q.
    let z = eqb-true (end_of m w n) 0 q in
    let c : n ≡ count = whole z in
    c ∙ sym (ap (λ (t : Bool). cond t count (end_of m w count))
    (eq-eqb (end_of m w count) 0 (ap (end_of m w) (sym c) ∙ z))))
    (λ q.
    let f = eqb-false (end_of m w n) 0 q in
    let d = count - n in
    let g : d + n ≡ count = omega (arith, within) in
    let k : end_of m w count ≡ end_of m w n = ap (end_of m w) (sym g) ∙ kept m w n d f in
    sym (at f) ∙ (sym k ∙ sym (ap (λ (t : Bool). cond t count (end_of m w count))
    (ne_eqb (end_of m w count) 0 (λ z. f (sym k ∙ z))))))

-- The end that the next tick tells is that tick.
pub told_next : (m : Machine) (w n : ℕ) → end_of m w n ≡ 0 → (end_of m w (n + 1) ≡ 0 → ⊥) → end_of m w (n + 1) ≡ n + 1
told_next m w n z =
    subst (λ (x : ℕ). (end_of m w x ≡ 0 → ⊥) → end_of m w x ≡ x) (sym (add-one n))
    (step m w n (λ x. (x ≡ 0 → ⊥) → x ≡ suc n) (λ e b h. refl) (λ e b h. absurd (h refl)) (λ e h. absurd (e z)))

-- ---- After the start

module _ (c : Controller) (k w n : ℕ) (r : ByteAnswer) (e : Made c (λ m. r ≡ held_byte (start_answer m k))) where
  start_held : (s : ℕ) (h : List Call) → held (state s h) ≡ c → held (state s (start_calls s h k)) ≡ r.controller
  start_held s h q = ap held (start_state s h k) ∙ sym (ap (λ (x : ByteAnswer). x.controller) (e s h q))

  module _ (ran : Ticked) (t : Made r.controller (λ m. ran ≡ ran_of m w (last_of m w n))) where
    pub run_reached : Reachable r.controller → Reachable ran.controller
    run_reached q =
        let j = last_of (state q.switch q.history) w n in
        record {
          switch = q.switch;
          history = ticks j w q.history;
          made = ran_held r.controller w q.switch q.history j ran (t q.switch q.history q.made);
        }

    pub run_is : (x : Trial) → Made ran.controller (λ m. x ≡ shown m ran.end) → k < 5 → r.number ≡ 0
        → Made c (λ m. x ≡ run_of (start_answer m k).machine w n)
    run_is x p l z s h q =
        let g = start_calls s h k in
        let j = last_of (state s g) w n in
        let y = t s g (start_held s h q) in
        p s (ticks j w g) (ran_held r.controller w s g j ran y)
        ∙ ((λ i. shown (ticks_on s w g j i) (y i).end)
        ∙ (ap (λ (m : Machine). run_of m w (last_of m w n)) (start_state s h k)
        ∙ same (state s h) (sym (ap (λ (a : ByteAnswer). a.number) (e s h q)) ∙ z)))
      where
        same : (m : Machine) → (start_answer m k).number ≡ 0
            → run_of (start_answer m k).machine w (last_of (start_answer m k).machine w n)
            ≡ run_of (start_answer m k).machine w n
        same m f =
            by_bool (λ (i : ℕ). run_of S w i ≡ run_of S w n) (eqb (end_of S w n) 0) n (end_of S w n) (λ d. refl)
            (λ d. sym (begun_stays m k w n l f (eqb-false (end_of S w n) 0 d)))
          where
            S : Machine
            S = (start_answer m k).machine
