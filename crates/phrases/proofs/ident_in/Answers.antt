-- A line whose last five characters are ` as ` and one more has an identification, no other. Assumes nothing.
use Prim.Native.Nat.{ℕ, ◌-◌, ◌≤◌}
use native.Mathlib.Omega.{arith}
use mathlib.Core.Bool.{Bool, false}
use mathlib.Core.Path.{◌≡◌, refl, sym, ap, ◌∙◌}
use mathlib.Core.List.{List}
use lib.ListN.{length, take, drop}
use Rattle.laws.proofs.Pick.{on_ge, on_true}
use Rattle.text.specs.Parts.{same}
use Rattle.machine.specs.Calls.{chars}
use Rattle.phrases.specs.Phrases.{has_ident}
use Rattle.phrases.proofs.ident_in.Goals as goal

-- The test of the four characters before the last.
tested : (l : List ℕ) (r : Bool) → 5 ≤ length l
    → r ≡ same (take (length l - 1 - (length l - 5)) (drop (length l - 5) l)) (chars " as ") → r ≡ has_ident l
tested l r h p =
    let e : length l - 1 - (length l - 5) ≡ 4 = omega (arith, h) in
    on_ge (length l) 5 r false _ h (p ∙ ap (λ (n : ℕ). same (take n (drop (length l - 5) l)) (chars " as ")) e)

pub returns-then-same : goal.returns-then-same
returns-then-same c =
    let l = c.args.line.now in
    on_true (has_ident l) _ _ _ (sym (tested l _ c.if-n-ge5.true c.same.ensures) ∙ c.if-same.true) refl
