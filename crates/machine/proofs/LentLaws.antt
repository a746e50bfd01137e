-- Of a tick's lent buffer the length alone plays a part; and a tick that answers a block leaves none to come, so that
-- of ticks with no line between them one answers a block at most. Ticks from a machine on leave what they leave in its
-- list. Assumes nothing.
use Prim.Native.Nat.{ℕ, zero, suc, ◌≤◌}
use mathlib.Core.Bool.{Bool, true, false}
use mathlib.Core.List.{List, []}
use mathlib.Core.Path.{◌≡◌, refl, ap, ◌∙◌}
use native.Mathlib.Omega.{arith}
use borrow.Author.Tests.{le-ltb, eqb-true}
use lib.Dec.{ltb, eqb}
use lib.ListN.{length}
use Rattle.laws.proofs.Pick.{by_bool}
use Rattle.reply.proofs.Replies.{inputs_most}
use Rattle.machine.specs.State.{Settle, Machine}
use Rattle.machine.specs.Steps.{TickAnswer, is_short, too_large, tick_by, tick_step}
use Rattle.machine.specs.Calls.{Call, run, state, from, buffer, ticks}
use Rattle.machine.proofs.SettleStageLaws.{ran_kept}

module _ (m : Machine) (w : ℕ) (d : List ℕ) where
  pub same_lent : (x : List ℕ) → length d ≡ length x → tick_step m w d ≡ tick_step m w x
  same_lent x e = ap (λ (n : ℕ). tick_by m w (ltb n 120) (too_large w)) e

  pub any_lent : 120 ≤ length d → tick_step m w d ≡ tick_step m w buffer
  any_lent h = ap (λ (t : Bool). tick_by m w t (too_large w)) (le-ltb (length d) 120 h)

  pub block_most : length (tick_step m w d).reply ≤ 10
  block_most =
      by_bool (λ (a : TickAnswer). length a.reply ≤ 10) (is_short d) _ _ (λ e. omega arith)
      (λ e. by_bool (λ (a : TickAnswer). length a.reply ≤ 10) (too_large w) _ _ (λ q. omega arith)
      (λ q. by_bool (λ (l : List ℕ). length l ≤ 10) (eqb m.settle.left 1) _ _
      (λ p. inputs_most m.switch w m.settle.ident) (λ p. omega arith)))

  -- Where none is to come, a tick answers none, and none is to come after it.
  pub none_comes : m.settle.left ≡ 0
      → ((tick_step m w d).reply ≡ []) × ((tick_step m w d).machine.settle.left ≡ 0)
  none_comes z = when (is_short d) (too_large w)
    where
      when : (a b : Bool) → ((tick_by m w a b).reply ≡ []) × ((tick_by m w a b).machine.settle.left ≡ 0)
      when true b = (refl, z)
      when false true = (refl, z)
      when false false = (rw z, ap (λ (x : Settle). x.left) (ran_kept m w).settle ∙ omega (arith, z))

  -- A tick answers none, or none is to come after it.
  pub one_comes : (P : Type 0) → ((tick_step m w d).reply ≡ [] → P) → ((tick_step m w d).machine.settle.left ≡ 0 → P) → P
  one_comes P f g = when (is_short d) (too_large w) f g
    where
      due : (t : Bool) → eqb m.settle.left 1 ≡ t → ((tick_by m w false false).reply ≡ [] → P)
          → ((tick_by m w false false).machine.settle.left ≡ 0 → P) → P
      due true e f g =
          let q = eqb-true m.settle.left 1 e in
          g (ap (λ (x : Settle). x.left) (ran_kept m w).settle ∙ omega (arith, q))
      due false e f g = f (rw e)

      when : (a b : Bool) → ((tick_by m w a b).reply ≡ [] → P) → ((tick_by m w a b).machine.settle.left ≡ 0 → P) → P
      when true b f g = f refl
      when false true f g = f refl
      when false false f g = due (eqb m.settle.left 1) refl f g

-- ---- So many ticks

pub ticks_on : (s w : ℕ) (h : List Call) (n : ℕ) → state s (ticks n w h) ≡ from (state s h) (ticks n w [])
unfolding run
ticks_on s w h zero = refl
ticks_on s w h (suc n) = ap (λ (m : Machine). (tick_step m w buffer).machine) (ticks_on s w h n)
