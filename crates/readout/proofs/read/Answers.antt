-- `read` meets its contract: the line's characters with 0D behind them; one too long is no block. Assumes nothing.
use Prim.Native.Nat.{ℕ, zero, suc, ◌≤◌}
use native.Mathlib.Numerals.{add-one}
use native.Mathlib.Omega.{arith}
use mathlib.Core.List.{List, [], ◌∷◌, ◌++◌}
use mathlib.Core.Path.{◌≡◌, refl, ap, ◌∙◌}
use lib.ListN.{length, take, drop, replicate, length-append}
use Rattle.reader.specs.Reader.{read_of}
use Rattle.reader.proofs.ReadLaws.{too_long}
use Rattle.readout.proofs.read.Goals as goal

-- A line at the front of a longer row of 0D, and one byte more.
row_is : (l : List ℕ) (n : ℕ) → length l ≤ n
    → take (suc (length l)) (l ++ drop (length l) (replicate (suc n) 13)) ≡ l ++ (13 ∷ [])
row_is [] n h = refl
row_is (a ∷ l) zero h = absurd (omega arith)
row_is (a ∷ l) (suc n) h = ap (λ (k : List ℕ). a ∷ k) (row_is l n (omega arith))

pub returns-then-n-gt-LONGEST : goal.returns-then-n-gt-LONGEST
returns-then-n-gt-LONGEST c =
    too_long (c.args.line.now ++ (13 ∷ [])) (simp length-append (omega (arith, c.if-n-gt-LONGEST.true)))

pub returns : goal.returns
returns c =
    rw (c.copy_from_slice.ensures.after, add-one) at c.read_block.ensures.result_value
    ∙ ap read_of (row_is c.args.line.now 9 c.if-n-gt-LONGEST.false)
