-- The sum of a move's answers for an axis is their count in the move's direction. Assumes nothing.
use Prim.Native.Nat.{ℕ, zero, suc, ◌+◌, ◌<◌}
use mathlib.Core.Bool.{Bool, true, false, cond}
use mathlib.Core.List.{List, [], ◌∷◌}
use mathlib.Core.Path.{◌≡◌, refl, sym, ap, subst, ◌∙◌}
use native.Mathlib.Omega.{arith}
use lib.IntN.{ℤ, pos, negsuc, ◌+ℤ◌, +ℤ_idr, neg_ℤ-+ℤ, nat_abs}
use Rattle.laws.specs.Axes.{directed}
use Rattle.laws.proofs.Directed.{no_step}
use Rattle.machine.specs.Steps.{Tried, untried, failed, began}
use Rattle.machine.specs.Calls.{Call, run, state}
use Rattle.machine.specs.Roles.{begins, at_start, sent}
use Rattle.machine.specs.List.{is_pulse, effect, minus, counted, last_minus}
use Rattle.machine.specs.Journal.{moved}
use Rattle.machine.proofs.Runs.{no_pulse}
use Rattle.machine.proofs.Told.{called_on}
use Rattle.machine.proofs.ListLaws.{told}

-- One step more in a direction.
step_more : (b : Bool) (n : ℕ) → directed b n +ℤ directed b 1 ≡ directed b (n + is_pulse (directed b 1))
step_more true n = sym (neg_ℤ-+ℤ (pos n) (pos 1))
step_more false n = refl

-- An answer in the move's direction counts one, and none counts nothing.
answer_counts : (b : Bool) (n : ℕ) (z : ℤ) → (0 < nat_abs z → z ≡ directed b 1)
    → directed b n +ℤ z ≡ directed b (n + is_pulse z)
answer_counts b n (pos zero) h = +ℤ_idr (directed b n) ∙ ap (directed b) (no_pulse n)
answer_counts b n (pos (suc k)) h =
    subst (λ (y : ℤ). directed b n +ℤ y ≡ directed b (n + is_pulse y)) (sym (h (omega arith))) (step_more b n)
answer_counts b n (negsuc k) h =
    subst (λ (y : ℤ). directed b n +ℤ y ≡ directed b (n + is_pulse y)) (sym (h (omega arith))) (step_more b n)

-- One call more, in which the start S takes effect: M and n are the sum and the count before it, old and new the
-- directions of the move that there was and of one that begins.
moved_next : (S : Tried) (new old : Bool) (n : ℕ) (M z : ℤ)
    → (0 < nat_abs z → z ≡ directed (at_start S (λ j. new) old) 1) → M ≡ directed old n
    → cond (begins S) (pos 0) M +ℤ z ≡ directed (at_start S (λ j. new) old) (cond (begins S) 0 n + is_pulse z)
moved_next untried new old n M z h e = ap (λ (y : ℤ). y +ℤ z) e ∙ answer_counts old n z h
moved_next (failed k) new old n M z h e = ap (λ (y : ℤ). y +ℤ z) e ∙ answer_counts old n z h
moved_next (began k) new old n M z h e =
    ap (λ (y : ℤ). y +ℤ z) (sym (no_step new)) ∙ answer_counts new 0 z h

-- The sum of a move's answers is their count in the move's direction.
pub moved_is : (s : ℕ) (h : List Call) (k : ℕ) → k < 5 → moved s h k ≡ directed (minus s h k) (counted s h k)
unfolding run moved minus counted
moved_is s [] k l = refl
moved_is s (x ∷ h) k l =
    moved_next (effect s h x) (last_minus s h k) (minus s h k) (counted s h k) (moved s h k) (sent (state s h) x k)
    (λ q. (called_on s h x (told s h)).sign k l q ∙ ap (λ (b : Bool). directed b 1) ((told s (x ∷ h)).minuses k))
    (moved_is s h k l)
