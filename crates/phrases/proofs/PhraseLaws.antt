-- What the writer's answer is as text: its line without 0D, or its number and sentence. Assumes nothing.
use Prim.Native.Nat.{ℕ, ◌≤◌}
use native.Mathlib.Omega.{arith}
use mathlib.Core.Bool.{Bool, true, false, cond, not, false≢true}
use mathlib.Core.List.{List}
use mathlib.Core.Path.{◌≡◌, sym, ap, ◌∙◌}
use lib.ListN.{length, replicate}
use Rattle.laws.proofs.Pick.{by_bool}
use Rattle.digits.specs.Digits.{end_byte}
use Rattle.block.specs.Block.{front_of, over}
use Rattle.block.proofs.Blocks.{block_most}
use Rattle.block.proofs.Buffers.{front_over}
use Rattle.line.specs.Codes.{is_query}
use Rattle.host.specs.declared.Request.{Request}
use Rattle.host.specs.Writer.{Written, line, refused, has_line, line_of, written_of, buffer_of}
use Rattle.text.specs.Parts.{part}
use Rattle.sentences.specs.Sentences.{turned_text}
use Rattle.phrases.specs.Phrases.{line_text}

-- No line is longer than 10.
pub line_most : (r : Request) → length (line_of r) ≤ 10
unfolding line_of
line_most r =
    by_bool (λ (l : List ℕ). length l ≤ 10) (is_query r.command) _ _ (λ _. omega arith) (λ _. block_most _)

-- ---- An answer by its cases, with the number that it holds

abbrev is_line : Written → Bool
is_line (line n) = true
is_line (refused n) = false

abbrev number_in : Written → ℕ
number_in (line n) = n
number_in (refused n) = n

module _ {n : ℕ} (l d : List ℕ) where
  fronted : (t : Bool) {b : List ℕ} → length l ≤ length d → line n ≡ cond (not t) (refused 19) (line (length l))
      → b ≡ cond (not t) d (over l d) → part end_byte 0 (front_of b n) ≡ cond t (part end_byte 0 l) (turned_text 19)
  fronted true h p q = ap (part end_byte 0) ((λ i. front_of (q i) (number_in (p i))) ∙ front_over l d h)
  fronted false h p q = absurd (false≢true (sym (ap is_line p)))

  turned : (t : Bool) → refused n ≡ cond (not t) (refused 19) (line (length l))
      → turned_text n ≡ cond t (part end_byte 0 l) (turned_text 19)
  turned true p = absurd (false≢true (ap is_line p))
  turned false p = ap turned_text (ap number_in p)

-- ---- The writer's answer with a buffer of 10 zeros

pub line_fronted : (r : Request) {n : ℕ} {b : List ℕ} → line n ≡ written_of r (replicate 10 0)
    → b ≡ buffer_of r (replicate 10 0) → part end_byte 0 (front_of b n) ≡ line_text r
unfolding written_of buffer_of
line_fronted r p q = fronted (line_of r) (replicate 10 0) (has_line r) (line_most r) p q

pub line_turned : (r : Request) {n : ℕ} → refused n ≡ written_of r (replicate 10 0) → turned_text n ≡ line_text r
unfolding written_of
line_turned r p = turned (line_of r) (replicate 10 0) (has_line r) p
