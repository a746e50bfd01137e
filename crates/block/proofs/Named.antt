-- Blocks with an identification have its character in the ninth place of each ten bytes. Assumes nothing.
use Rattle.std.proofs.Common.{Some}
use Prim.Native.Nat.{ℕ, zero, suc, ◌+◌, ◌*◌, ◌<◌}
use mathlib.Core.Bool.{Bool, true, false}
use mathlib.Core.List.{List, ◌++◌}
use mathlib.Core.Path.{◌≡◌, refl, ap, ◌∙◌}
use native.Mathlib.Omega.{arith}
use borrow.Author.Tests.{ltb-true, ltb-false}
use lib.ListN.{length, get_or, get_or-append}
use lib.Seq.{get_or-append-add}
use lib.Dec.{ltb}
use Rattle.digits.specs.Digits.{six_of}
use Rattle.block.specs.Block.{block_of, row_block, row_of, Blocks}
use Rattle.block.proofs.Blocks.{length_row}

pub block_ninth : (letter switch n c : ℕ)
    → get_or (block_of (record { letter = letter; switch = switch; number = n; ident = Some c })) 8 0 ≡ c
unfolding block_of six_of
block_ninth letter switch n c = refl

module _ (letters numbers : List ℕ) (switch c : ℕ) where
  row_bears : (n i : ℕ) → i < n → get_or (row_of n letters numbers switch (Some c)) (i * 10 + 8) 0 ≡ c
  unfolding row_of
  row_bears zero i h = absurd (omega (arith, h))
  row_bears (suc n) i h = when (ltb i n) refl (row_bears n i)
    where
      front : List ℕ
      front = row_of n letters numbers switch (Some c)

      last : List ℕ
      last = block_of (row_block letters numbers switch (Some c) n)

      when : (t : Bool) → ltb i n ≡ t → (i < n → get_or front (i * 10 + 8) 0 ≡ c)
          → get_or (front ++ last) (i * 10 + 8) 0 ≡ c
      when true e f =
          let q = ltb-true i n e in
          get_or-append front last 0 (i * 10 + 8) (omega (arith, q, length_row letters numbers switch (Some c) n))
          ∙ f q
      when false e f =
          let q = ltb-false i n e in
          let k : i * 10 + 8 ≡ length front + 8 = omega (arith, q, h, length_row letters numbers switch (Some c) n) in
          ap (λ (j : ℕ). get_or (front ++ last) j 0) k
          ∙ (get_or-append-add front last 8 0 ∙ block_ninth (get_or letters n 0) switch (get_or numbers n 0) c)

pub bears : (switch c : ℕ) (bytes : List ℕ) → Blocks switch (Some c) bytes
    → (i : ℕ) → i * 10 + 8 < length bytes → get_or bytes (i * 10 + 8) 0 ≡ c
bears switch c bytes b i h =
    let n = length_row b.letters b.numbers switch (Some c) b.count in
    let l = ap length b.whole in
    ap (λ (l : List ℕ). get_or l (i * 10 + 8) 0) b.whole
    ∙ row_bears b.letters b.numbers switch c b.count i (omega (arith, h, n, l))
