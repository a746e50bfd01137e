-- Laws of the writer's answer: turned away by 18 or 19 with the buffer as it was, or the line over the buffer's front.
-- Assumes nothing.
use Prim.Native.Nat.{ℕ, ◌≤◌, ◌<◌}
use mathlib.Core.Bool.{Bool, true, false}
use mathlib.Core.List.{List, [], ◌∷◌}
use mathlib.Core.Path.{◌≡◌, sym, ap, ◌∙◌}
use native.Mathlib.Omega.{arith}
use borrow.Author.Tests.{lt-ltb, le-ltb}
use lib.ListN.{length}
use lib.Seq.{sets}
use Rattle.digits.specs.Digits.{capital_of}
use Rattle.block.specs.declared.Block.{Block}
use Rattle.block.specs.Block.{block_of, over, laid, laid_length}
use Rattle.block.proofs.Blocks.{block_most}
use Rattle.block.proofs.Buffers.{stores, laid_over, laid_over_length}
use Rattle.line.specs.Codes.{letter_w, is_query}
use Rattle.host.specs.declared.Request.{Request}
use Rattle.host.specs.declared.content.Content.{Content}
use Rattle.host.specs.Writer.{
  letter_of,
  digits_of,
  has_line,
  switch_of,
  query_of,
  full_of,
  line_of,
  line,
  refused,
  written_of,
  buffer_of,
  content_of,
}

-- ---- the line of a request

query_line : (r : Request) → is_query r.command ≡ true → line_of r ≡ query_of r.silent
unfolding line_of
query_line r e = rw e

full_line : (r : Request) → is_query r.command ≡ false
    → line_of r ≡ full_of r.silent (letter_of r.command) (digits_of r.command) r.ident
unfolding line_of
full_line r e = rw e

-- ---- the answer

module _ (r : Request) (d : List ℕ) where
  -- The block of a letter and digits with this switch and the request's identification.
  abbrev block_with : Content → ℕ → Block
  block_with k s = record { letter = k.letter; switch = s; number = k.number; ident = r.ident }

  pub too_short : length d < 10 → (refused 18 ≡ written_of r d) × (d ≡ buffer_of r d)
  unfolding written_of buffer_of
  too_short h = (rw (lt-ltb (length d) 10 h), rw (lt-ltb (length d) 10 h))

  module _ (room : 10 ≤ length d) where
    pub no_line : has_line r ≡ false → (refused 19 ≡ written_of r d) × (d ≡ buffer_of r d)
    unfolding written_of buffer_of
    no_line e = (rw (le-ltb (length d) 10 room, e), rw (le-ltb (length d) 10 room, e))

    module _ (e : has_line r ≡ true) where
      with_line : {n : ℕ} {buf : List ℕ} → n ≡ length (line_of r) → buf ≡ over (line_of r) d
          → (line n ≡ written_of r d) × (buf ≡ buffer_of r d)
      unfolding written_of buffer_of
      with_line p q = (rw (le-ltb (length d) 10 room, e) (ap line p), rw (le-ltb (length d) 10 room, e) q)

      pub query_written : {buf : List ℕ} → is_query r.command ≡ true → buf ≡ over (query_of r.silent) d
          → (line 3 ≡ written_of r d) × (buf ≡ buffer_of r d)
      query_written q w =
          let whole = query_line r q in
          with_line (ap length (sym whole)) (w ∙ ap (λ (s : List ℕ). over s d) (sym whole))

      pub full_written : (k : Content) (s : ℕ) {size : ℕ} {buf : List ℕ} → is_query r.command ≡ false
          → k ≡ content_of r.command → s ≡ switch_of r.silent
          → size ≡ laid_length 0 (block_of (block_with k s)) d → buf ≡ laid 0 (block_of (block_with k s)) d
          → (line size ≡ written_of r d) × (buf ≡ buffer_of r d)
      full_written k s q p o w z =
          let b = block_with k s in
          let whole : block_of b ≡ line_of r = (λ i. block_of (block_with (p i) (o i))) ∙ sym (full_line r q) in
          let m : length (block_of b) ≤ length d = omega (arith, block_most b) in
          with_line (w ∙ laid_over_length (block_of b) d m ∙ ap length whole)
          (z ∙ laid_over (block_of b) d m ∙ ap (λ (x : List ℕ). over x d) whole)

-- ---- the stores of a W query

pub query_stored : (silent : Bool) (v c : ℕ) (l : List ℕ) → v ≡ switch_of silent → c ≡ capital_of v → 10 ≤ length l
    → sets l 0 (letter_w ∷ c ∷ 13 ∷ []) ≡ over (query_of silent) l
query_stored silent v c l p q h =
    let e : c ≡ capital_of (switch_of silent) = q ∙ ap capital_of p in
    ap (λ (x : ℕ). sets l 0 (letter_w ∷ x ∷ 13 ∷ [])) e ∙ stores (query_of silent) l (omega arith)
