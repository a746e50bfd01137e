-- Laws of the block that ticks answer: there is one at most, so that it stands alone at the front of the buffer.
-- Assumes nothing.
use Prim.Native.Nat.{ℕ, zero, suc, ◌≤◌}
use native.Mathlib.Omega.{arith}
use mathlib.Core.Bool.{Bool, true, false, cond}
use mathlib.Core.List.{List, [], ◌++◌, append-nil}
use mathlib.Core.Path.{◌≡◌, refl, sym, ap, ◌∙◌}
use borrow.Author.Tests.{eqb-true}
use lib.Dec.{eqb}
use lib.ListN.{length}
use Rattle.block.specs.Block.{over}
use Rattle.block.proofs.Buffers.{over_nil}
use Rattle.machine.specs.State.{Machine}
use Rattle.machine.specs.Steps.{tick_step}
use Rattle.machine.specs.Calls.{run, buffer}
use Rattle.machine.proofs.LentLaws.{none_comes, one_comes, block_most}
use Rattle.session.specs.Ticks.{after_ticks, blocks_of, later_of}

module _ (w : ℕ) (m : Machine) where
  -- What the tick after n ticks answers.
  abbrev block_at : ℕ → List ℕ
  block_at n = (tick_step (after_ticks n w m) w buffer).reply

  -- Before the first tick there is none.
  pub none_yet : (d : List ℕ) → d ≡ over (blocks_of 0 w m) d
  unfolding blocks_of
  none_yet d = sym (over_nil d)

  -- After n ticks there was no block, or none is to come.
  alone : (n : ℕ) (P : Type 0) → (blocks_of n w m ≡ [] → P) → ((after_ticks n w m).settle.left ≡ 0 → P) → P
  unfolding run blocks_of
  alone zero P f g = f refl
  alone (suc n) P f g =
      alone n P
      (λ e. one_comes (after_ticks n w m) w buffer P (λ q. f (λ i. e i ++ q i)) g)
      (λ z. g (none_comes (after_ticks n w m) w buffer z).1)

  -- So of what was there and what comes one is empty.
  parts : (n : ℕ) (P : List ℕ → List ℕ → Type 0) → ((r : List ℕ) → P [] r) → ((b : List ℕ) → P b [])
      → P (blocks_of n w m) (block_at n)
  parts n P f g =
      alone n (P (blocks_of n w m) (block_at n)) (λ e. rw e (f (block_at n)))
      (λ z. rw (none_comes (after_ticks n w m) w buffer z).0 (g (blocks_of n w m)))

  pub block_length : (n : ℕ) → later_of (length (blocks_of n w m)) (length (block_at n)) ≡ length (blocks_of (suc n) w m)
  unfolding blocks_of
  block_length n =
      parts n (λ (b r : List ℕ). later_of (length b) (length r) ≡ length (b ++ r)) (λ r. from_none (length r))
      (λ b. sym (ap length (append-nil b)))
    where
      from_none : (k : ℕ) → later_of 0 k ≡ k
      from_none k = when (eqb k 0) refl
        where
          when : (t : Bool) → eqb k 0 ≡ t → cond t 0 k ≡ k
          when true e = sym (eqb-true k 0 e)
          when false e = refl

  pub block_over : (n : ℕ) (d : List ℕ) → over (block_at n) (over (blocks_of n w m) d) ≡ over (blocks_of (suc n) w m) d
  unfolding blocks_of
  block_over n d =
      parts n (λ (b r : List ℕ). over r (over b d) ≡ over (b ++ r) d)
      (λ r. ap (over r) (over_nil d))
      (λ b. over_nil (over b d) ∙ sym (ap (λ (x : List ℕ). over x d) (append-nil b)))

  pub blocks_most : (n : ℕ) → length (blocks_of n w m) ≤ 10
  unfolding blocks_of
  blocks_most zero = omega arith
  blocks_most (suc n) =
      alone n (length (blocks_of n w m ++ block_at n) ≤ 10)
      (λ e. rw e (block_most (after_ticks n w m) w buffer))
      (λ z. rw ((none_comes (after_ticks n w m) w buffer z).0, append-nil (blocks_of n w m)) (blocks_most n))
