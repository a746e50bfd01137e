-- `blocked` meets its contract: no limit set, or the axes in their order in words shifted down. Assumes nothing.
use Prim.Native.Nat.{ℕ, ◌*◌, ◌/◌, ◌^◌}
use mathlib.Core.Bool.{Bool, false}
use mathlib.Core.List.{List}
use mathlib.Core.Path.{◌≡◌, refl, sym, ◌∙◌}
use native.Mathlib.Omega.{arith}
use lib.ListN.{get_or}
use Rattle.laws.proofs.Some.{some_1, some_2, some_3, some_4}
use Rattle.inputs.specs.Inputs.{blocked_at}
use Rattle.inputs.proofs.Laws.{axis_down, none_blocked}
use Rattle.inputs.proofs.blocked.Goals as goal

module _ (low high inputs : ℕ) (distances : List ℕ) (minus : List Bool) where
  abbrev blocks : ℕ → Bool
  blocks k = blocked_at low high inputs (get_or distances k 0) (get_or minus k false) k

  -- An answer b for axis k, in words shifted down to it.
  told : (k : ℕ) (r b : Bool)
      → r ≡ blocked_at (low / 2 ^ (2 * k)) (high / 2 ^ (2 * k)) (inputs / 2 ^ (2 * k)) (get_or distances k 0)
      (get_or minus k false) 0
      → r ≡ b → blocks k ≡ b
  told k r b e f =
      sym (e ∙ axis_down low high inputs (get_or distances k 0) (get_or minus k false) k) ∙ f

pub returns-then-high-eq0 : goal.returns-then-high-eq0
returns-then-high-eq0 c =
    none_blocked c.args.low c.args.high c.args.inputs (λ k. get_or c.args.distances k 0)
    (λ k. get_or c.args.minus k false) (omega arith) (omega arith)

pub returns-then-blocked_at-2 : goal.returns-then-blocked_at-2
returns-then-blocked_at-2 c =
    let a = c.args in
    let t = told a.low a.high a.inputs a.distances a.minus in
    some_1 (blocks a.low a.high a.inputs a.distances a.minus) (sym c.blocked_at.ensures ∙ c.if-blocked_at.false)
    (t 1 _ _ c.blocked_at-2.ensures c.if-blocked_at-2.true)

pub returns-then-blocked_at-3 : goal.returns-then-blocked_at-3
returns-then-blocked_at-3 c =
    let a = c.args in
    let t = told a.low a.high a.inputs a.distances a.minus in
    some_2 (blocks a.low a.high a.inputs a.distances a.minus) (sym c.blocked_at.ensures ∙ c.if-blocked_at.false)
    (t 1 _ _ c.blocked_at-2.ensures c.if-blocked_at-2.false) (t 2 _ _ c.blocked_at-3.ensures c.if-blocked_at-3.true)

pub returns-then-blocked_at-4 : goal.returns-then-blocked_at-4
returns-then-blocked_at-4 c =
    let a = c.args in
    let t = told a.low a.high a.inputs a.distances a.minus in
    some_3 (blocks a.low a.high a.inputs a.distances a.minus) (sym c.blocked_at.ensures ∙ c.if-blocked_at.false)
    (t 1 _ _ c.blocked_at-2.ensures c.if-blocked_at-2.false) (t 2 _ _ c.blocked_at-3.ensures c.if-blocked_at-3.false)
    (t 3 _ _ c.blocked_at-4.ensures c.if-blocked_at-4.true)

pub returns : goal.returns
returns c =
    let a = c.args in
    let t = told a.low a.high a.inputs a.distances a.minus in
    some_4 (blocks a.low a.high a.inputs a.distances a.minus) (sym c.blocked_at.ensures ∙ c.if-blocked_at.false)
    (t 1 _ _ c.blocked_at-2.ensures c.if-blocked_at-2.false) (t 2 _ _ c.blocked_at-3.ensures c.if-blocked_at-3.false)
    (t 3 _ _ c.blocked_at-4.ensures c.if-blocked_at-4.false) (sym (t 4 _ _ c.blocked_at-5.ensures refl))
