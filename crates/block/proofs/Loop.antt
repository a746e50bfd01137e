-- The loop that writes a row: after k turns the first k blocks stand over the front of the buffer. Assumes nothing.
use Rattle.std.proofs.Common.{Option}
use Prim.Native.Nat.{ℕ, ◌+◌, ◌*◌, ◌≤◌, ◌<◌}
use mathlib.Core.List.{List}
use mathlib.Core.Path.{◌≡◌, sym, ap, ◌∙◌}
use native.Mathlib.Nat.{mul-le-mul_right}
use native.Mathlib.Omega.{arith}
use lib.Dec.{lit≤}
use lib.ListN.{length, length-append}
use Rattle.block.specs.Block.{length_with, block_of, row_block, row_of, over, put, laid, laid_length}
use Rattle.block.proofs.Blocks.{length_block, length_most, length_row, row_none, row_next}
use Rattle.block.proofs.Buffers.{over_nil, length_over, put_over, laid_over, laid_over_length}

-- buf is d with k blocks over its front, at bytes long; all twelve have room.
pub record Written (letters numbers : List ℕ) (switch : ℕ) (ident : Option ℕ) (d : List ℕ) (k at : ℕ) (buf : List ℕ)
    : Type 0 where
  pub few : k ≤ 12
  pub room : 12 * length_with ident ≤ length d
  pub long : at ≡ length (row_of k letters numbers switch ident)
  pub bytes : buf ≡ over (row_of k letters numbers switch ident) d

module _ {letters numbers : List ℕ} {switch : ℕ} {ident : Option ℕ} {d : List ℕ} where
  pub none_written : 12 * length_with ident ≤ length d → Written letters numbers switch ident d 0 0 d
  none_written h = record {
    few = lit≤ tt;
    room = h;
    long = rw row_none;
    bytes = rw row_none (sym (over_nil d));
  }

  module _ {k at : ℕ} {buf : List ℕ} (w : Written letters numbers switch ident d k at buf) where
    pub same_length : length buf ≡ length d
    same_length =
        let h : length (row_of k letters numbers switch ident) ≤ length d =
        omega (arith, length_row letters numbers switch ident k, mul-le-mul_right (length_with ident) w.few) in
        ap length w.bytes ∙ length_over (row_of k letters numbers switch ident) d h

    -- The next block has room.
    pub next_room : k < 12 → at + length (block_of (row_block letters numbers switch ident k)) ≤ length buf
    next_room h =
        let j : k + 1 ≤ 12 = omega arith in
        omega (
          arith,
          same_length,
          length_row letters numbers switch ident k,
          mul-le-mul_right (length_with ident) j,
          length_block (row_block letters numbers switch ident k),
        )

    pub one_more : {n : ℕ} {last : List ℕ} → k < 12 → n ≡ length (block_of (row_block letters numbers switch ident k))
        → last ≡ put at (block_of (row_block letters numbers switch ident k)) buf
        → Written letters numbers switch ident d (k + 1) (at + n) last
    one_more h p q = record {
      few = omega arith;
      room = w.room;
      long = rw (row_next letters numbers switch ident k, length-append, w.long, p);
      bytes =
          rw (row_next letters numbers switch ident k, q, w.long, w.bytes)
          (put_over (row_of k letters numbers switch ident) (block_of (row_block letters numbers switch ident k)) d);
    }

    pub most : at ≤ 120
    most =
        omega (
          arith,
          length_row letters numbers switch ident k,
          mul-le-mul_right (length_with ident) w.few,
          length_most ident,
        )

    pub all_written : 12 ≤ k
        → (at ≡ laid_length 0 (row_of 12 letters numbers switch ident) d)
        × (buf ≡ laid 0 (row_of 12 letters numbers switch ident) d)
    all_written h =
        let f = w.few in
        let e : k ≡ 12 = omega arith in
        let m : length (row_of 12 letters numbers switch ident) ≤ length d =
        omega (arith, length_row letters numbers switch ident 12) in (
          w.long ∙ ap (λ (n : ℕ). length (row_of n letters numbers switch ident)) e
              ∙ sym (laid_over_length (row_of 12 letters numbers switch ident) d m),
          w.bytes ∙ ap (λ (n : ℕ). over (row_of n letters numbers switch ident) d) e
              ∙ sym (laid_over (row_of 12 letters numbers switch ident) d m),
        )
