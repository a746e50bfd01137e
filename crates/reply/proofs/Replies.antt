-- Laws of replies: what is written is the reply, its length, that a buffer of 120 bytes holds it, and that it depends
-- on no more than what the command reads. Assumes nothing.
use Rattle.std.proofs.Common.{Option}
use Prim.Native.Nat.{ℕ, ◌≤◌, ◌<◌}
use mathlib.Core.Bool.{true}
use mathlib.Core.List.{List, [], ◌∷◌}
use mathlib.Core.Path.{◌≡◌, refl, sym, ap, ◌∙◌}
use native.Mathlib.Omega.{arith}
use lib.Dec.{lit<}
use lib.ListN.{length}
use Rattle.block.specs.Block.{row_of, over, laid, laid_length}
use Rattle.block.proofs.Blocks.{block_least, block_most, row_most}
use Rattle.block.proofs.Buffers.{laid_over, laid_over_length, over_nil}
use Rattle.line.specs.declared.command.Command.{Command}
use Rattle.line.specs.declared.command.Command.TheVariants as C
use Rattle.line.specs.declared.command.Reading.{Reading}
use Rattle.line.specs.declared.command.Reading.TheVariants as R
use Rattle.line.specs.Ranges.{reading_fits, fits}
use Rattle.line.proofs.Ranges.{axis}
use Rattle.reply.specs.declared.Answer.{Answer}
use Rattle.reply.specs.declared.Answer.TheVariants.{One, All, Later}
use Rattle.reply.specs.Reply.{
  Told,
  coded,
  letter_u,
  letter_s,
  letter_small_s,
  letter_r,
  block_for,
  letters,
  numbers,
  reading_of,
  answer_of,
  bytes_of,
  reply_of,
  refusal_ident,
  refusal_of,
  inputs_of,
}

-- ---- what is written

-- Nothing was laid into d.
pub laid_none : (d : List ℕ) → laid 0 [] d ≡ d
laid_none d = laid_over [] d (omega arith) ∙ over_nil d

pub nothing_laid : (d : List ℕ) → (0 ≡ laid_length 0 [] d) × (d ≡ laid 0 [] d)
nothing_laid d = (sym (laid_over_length [] d (omega arith)), sym (laid_none d))

-- ---- lengths

module _ (t : Told) (ident : Option ℕ) where
  bytes_most : (a : Answer) → length (bytes_of t a ident) ≤ 120
  bytes_most (One letter n) =
      omega (arith, block_most (record { letter = letter; switch = t.switch; number = n; ident = ident }))
  bytes_most All = row_most letters (numbers t) t.switch ident
  bytes_most Later = omega arith

module _ (t : Told) (c : Command) (digits : ℕ) (ident : Option ℕ) where
  pub reply_most : length (reply_of t c digits ident) ≤ 120
  unfolding reply_of
  reply_most = bytes_most t ident (answer_of t c digits)

  -- A buffer of 120 bytes or more has the reply over its front.
  pub reply_over : (d : List ℕ) → 120 ≤ length d
      → laid 0 (reply_of t c digits ident) d ≡ over (reply_of t c digits ident) d
  reply_over d h = laid_over (reply_of t c digits ident) d (omega (arith, reply_most))

  pub reply_length : (d : List ℕ) → 120 ≤ length d
      → laid_length 0 (reply_of t c digits ident) d ≡ length (reply_of t c digits ident)
  reply_length d h = laid_over_length (reply_of t c digits ident) d (omega (arith, reply_most))

module _ (switch n : ℕ) (ident : Option ℕ) where
  pub refusal_least : 9 ≤ length (refusal_of switch n ident)
  unfolding refusal_of
  refusal_least =
      block_least (record { letter = letter_u; switch = switch; number = n; ident = refusal_ident n ident })

  pub refusal_most : length (refusal_of switch n ident) ≤ 120
  unfolding refusal_of
  refusal_most =
      omega (arith, block_most (record { letter = letter_u; switch = switch; number = n; ident = refusal_ident n ident }))

  pub refusal_over : (d : List ℕ) → 120 ≤ length d
      → laid 0 (refusal_of switch n ident) d ≡ over (refusal_of switch n ident) d
  refusal_over d h = laid_over (refusal_of switch n ident) d (omega (arith, refusal_most))

  pub refusal_length : (d : List ℕ) → 120 ≤ length d
      → laid_length 0 (refusal_of switch n ident) d ≡ length (refusal_of switch n ident)
  refusal_length d h = laid_over_length (refusal_of switch n ident) d (omega (arith, refusal_most))

module _ (switch w : ℕ) (ident : Option ℕ) where
  pub inputs_most : length (inputs_of switch w ident) ≤ 10
  unfolding inputs_of
  inputs_most = block_most (record { letter = letter_r; switch = switch; number = w; ident = ident })

  pub inputs_over : (d : List ℕ) → 120 ≤ length d
      → laid 0 (inputs_of switch w ident) d ≡ over (inputs_of switch w ident) d
  inputs_over d h = laid_over (inputs_of switch w ident) d (omega (arith, inputs_most))

  pub inputs_length : (d : List ℕ) → 120 ≤ length d
      → laid_length 0 (inputs_of switch w ident) d ≡ length (inputs_of switch w ident)
  inputs_length d h = laid_over_length (inputs_of switch w ident) d (omega (arith, inputs_most))

-- ---- what a reply depends on

-- What two can tell of the five axes, the status and the inputs is the same.
module _ (t u : Told) (switch : t.switch ≡ u.switch) (travels : (k : ℕ) → k < 5 → t.travel k ≡ u.travel k)
    (positions : (k : ℕ) → k < 5 → t.position k ≡ u.position k)
    (status : t.status ≡ u.status) (inputs : t.inputs ≡ u.inputs) where
  same_reading : (r : Reading) → reading_fits r ≡ true → reading_of t r ≡ reading_of u r
  same_reading (R.Travel k) e = ap (λ (x : ℕ). One letter_s (coded k x)) (travels k (axis k e))
  same_reading (R.Position k) e = ap (λ (x : ℕ). One letter_small_s (coded k x)) (positions k (axis k e))
  same_reading R.Status e = ap (λ (x : ℕ). One letter_s (coded 6 x)) status
  same_reading R.Everything e = refl
  same_reading R.Inputs e = refl

  same_answer : (c : Command) (digits : ℕ) → fits c ≡ true → answer_of t c digits ≡ answer_of u c digits
  same_answer (C.Distance k minus d) digits e = refl
  same_answer (C.Set code v) digits e = refl
  same_answer (C.Start k waits) digits e = refl
  same_answer (C.Order code) digits e = refl
  same_answer (C.Outputs v) digits e = refl
  same_answer (C.Read r) digits e = same_reading r e

  same_numbers : numbers t ≡ numbers u
  same_numbers =
      λ i. coded 0 (travels 0 (lit< tt) i) ∷ coded 1 (travels 1 (lit< tt) i) ∷ coded 2 (travels 2 (lit< tt) i)
      ∷ coded 3 (travels 3 (lit< tt) i) ∷ coded 4 (travels 4 (lit< tt) i)
      ∷ coded 6 (status i)
      ∷ coded 0 (positions 0 (lit< tt) i) ∷ coded 1 (positions 1 (lit< tt) i) ∷ coded 2 (positions 2 (lit< tt) i)
      ∷ coded 3 (positions 3 (lit< tt) i) ∷ coded 4 (positions 4 (lit< tt) i) ∷ inputs i ∷ []

  same_bytes : (a : Answer) (ident : Option ℕ) → bytes_of t a ident ≡ bytes_of u a ident
  same_bytes (One letter n) ident = ap (λ (s : ℕ). block_for s letter n ident) switch
  same_bytes All ident = λ i. row_of 12 letters (same_numbers i) (switch i) ident
  same_bytes Later ident = refl

  pub reply_same : (c : Command) → fits c ≡ true → (digits : ℕ) (ident : Option ℕ)
      → reply_of t c digits ident ≡ reply_of u c digits ident
  unfolding reply_of
  reply_same c e digits ident =
      same_bytes (answer_of t c digits) ident ∙ ap (λ (a : Answer). bytes_of u a ident) (same_answer c digits e)
