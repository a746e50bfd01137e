-- Laws of a reply block and of a row of blocks: their lengths, one block more, and the stores that write one.
-- Assumes nothing.
use Rattle.std.proofs.Common.{Option, None, Some}
use Prim.Native.Nat.{ℕ, zero, suc, ◌+◌, ◌*◌, ◌≤◌}
use mathlib.Core.List.{List, [], ◌∷◌, ◌++◌}
use mathlib.Core.Path.{◌≡◌, refl, ap, ◌∙◌}
use native.Mathlib.Numerals.{add-one}
use native.Mathlib.Omega.{arith}
use lib.Dec.{lit≤}
use lib.ListN.{length, get_or, length-append}
use lib.Seq.{sets}
use Rattle.digits.specs.Digits.{capital_of, six_of}
use Rattle.block.specs.declared.Block.{Block}
use Rattle.block.specs.Block.{ident_chars, length_with, block_of, row_block, row_of, over}
use Rattle.block.proofs.Buffers.{stores}

-- ---- the length of a block

pub length_least : (ident : Option ℕ) → 9 ≤ length_with ident
length_least None = lit≤ tt
length_least (Some c) = lit≤ tt

pub length_most : (ident : Option ℕ) → length_with ident ≤ 10
length_most None = lit≤ tt
length_most (Some c) = lit≤ tt

length_end : (ident : Option ℕ) → 8 + length (ident_chars ident ++ (13 ∷ [])) ≡ length_with ident
length_end None = refl
length_end (Some c) = refl

pub length_block : (b : Block) → length (block_of b) ≡ length_with b.ident
unfolding block_of six_of
length_block b = omega (arith, length_end b.ident)

pub block_least : (b : Block) → 9 ≤ length (block_of b)
block_least b = omega (arith, length_block b, length_least b.ident)

pub block_most : (b : Block) → length (block_of b) ≤ 10
block_most b = omega (arith, length_block b, length_most b.ident)

pub block_absent : (b : Block) → b.ident ≡ None → length (block_of b) ≡ 9
block_absent b e = length_block b ∙ ap length_with e

pub block_given : (b : Block) (c : ℕ) → b.ident ≡ Some c → length (block_of b) ≡ 10
block_given b c e = length_block b ∙ ap length_with e

-- ---- rows

module _ (letters numbers : List ℕ) (switch : ℕ) (ident : Option ℕ) where
  pub row_none : row_of 0 letters numbers switch ident ≡ []
  unfolding row_of
  row_none = refl

  -- One block more.
  pub row_next : (k : ℕ)
      → row_of (k + 1) letters numbers switch ident
      ≡ row_of k letters numbers switch ident ++ block_of (row_block letters numbers switch ident k)
  unfolding row_of
  row_next k = rw add-one

  pub length_row : (n : ℕ) → length (row_of n letters numbers switch ident) ≡ n * length_with ident
  unfolding row_of
  length_row zero = omega arith
  length_row (suc n) =
      rw length-append (omega (arith, length_row n, length_block (row_block letters numbers switch ident n)))

  pub row_least : 108 ≤ length (row_of 12 letters numbers switch ident)
  row_least = omega (arith, length_row 12, length_least ident)

  pub row_most : length (row_of 12 letters numbers switch ident) ≤ 120
  row_most = omega (arith, length_row 12, length_most ident)

-- ---- the stores that write a block

-- A letter, the switch's digit s, the six digits d, and what ends the block.
abbrev pub stored : ℕ → ℕ → List ℕ → List ℕ → List ℕ
stored letter s d end =
    letter ∷ s ∷ get_or d 0 0 ∷ get_or d 1 0 ∷ get_or d 2 0 ∷ get_or d 3 0 ∷ get_or d 4 0 ∷ get_or d 5 0 ∷ end

module _ (b : Block) (s : ℕ) (d : List ℕ) (p : s ≡ capital_of b.switch) (q : d ≡ six_of b.number) where
  stored_is : (ident : Option ℕ) → b.ident ≡ ident → stored b.letter s d (ident_chars ident ++ (13 ∷ [])) ≡ block_of b
  unfolding block_of six_of
  stored_is ident e = rw (← e, p, q)

  pub stored_over : (ident : Option ℕ) (l : List ℕ) → b.ident ≡ ident → length (block_of b) ≤ length l
      → sets l 0 (stored b.letter s d (ident_chars ident ++ (13 ∷ []))) ≡ over (block_of b) l
  stored_over ident l e h = rw (stored_is ident e) (stores (block_of b) l h)
