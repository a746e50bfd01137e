-- The opposite of a number of 31 bits fits. Assumes nothing.
use Rattle.std.proofs.Common.{ℕ, zero, suc, ◌%◌, ◌<◌, ℤ, pos, ◌-ℤ◌, neg_ℤ, sym, ap, ◌∙◌, subst, arith, w32, SFits, to_z}
use lib.IntN.{+ℤ_idl}
use mir.ValLaws.{to_z_pos}
use Rattle.vectors.proofs.journal_lines.travel.Goals as goal

small : (n : ℕ) → n < 2147483648 → SFits w32 (neg_ℤ (pos n))
small zero h = record { sfits = omega arith }
small (suc n) h = record { sfits = omega arith }

opposite_fits : (m : ℕ) → SFits w32 (pos 0 -ℤ to_z w32 (m % 2147483648))
opposite_fits m =
    let n = m % 2147483648 in
    let h : n < 2147483648 = omega arith in
    let e = ap (λ (z : ℤ). pos 0 -ℤ z) (to_z_pos w32 n h) ∙ +ℤ_idl (neg_ℤ (pos n)) in
    subst (λ (z : ℤ). SFits w32 z) (sym e) (small n h)

pub overflow_sub-result : goal.overflow_sub-result
overflow_sub-result c = opposite_fits c.number.result
