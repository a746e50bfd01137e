-- What the reader takes is exactly the blocks: each block is read as the figures that it says, and whatever is read is
-- a block that says just this. All else is 20. Assumes nothing.
use Rattle.std.proofs.Common.{Option, None, Some}
use Prim.Native.Nat.{ℕ, ◌<◌}
use native.Mathlib.Omega.{arith}
use mathlib.Core.Bool.{Bool, true, false}
use mathlib.Core.List.{List, [], ◌∷◌}
use mathlib.Core.Path.{◌≡◌, refl, sym, ap, subst, ◌∙◌}
use borrow.Author.Tests.{eqb-true, eqb-false}
use lib.Dec.{eqb}
use Rattle.laws.proofs.Pick.{by_bool, by_eq}
use Rattle.digits.specs.Digits.{six_digits, digit_of, number_of}
use Rattle.digits.proofs.CharacterLaws.{one_to_one}
use Rattle.digits.proofs.Laws.{digit_tells}
use Rattle.line.specs.Line.{is_ident}
use Rattle.reader.specs.Reader.{Figures, refused, verdict, travelled, status, echo, placed, inputs, switch_in, read_of}
use Rattle.reader.proofs.NamedLaws as named
use Rattle.reader.specs.Blocks.{VerdictFits, InRange, spelling, Says, Spelt, BlocksRead}
use Rattle.reader.proofs.ReadLaws.{too_long}
use Rattle.reader.proofs.EchoLaws.{echo_taken}
use Rattle.reader.proofs.VerdictLaws.{turned_most}
use Rattle.reader.proofs.BlockLaws.{
  verdict_read,
  travel_read,
  status_read,
  echo_read,
  place_read,
  inputs_read,
}
use Rattle.reader.proofs.SwitchLaws.{switch_spelt}

-- Every row of bytes.
pub only_blocks : (s : List ℕ) → Spelt s (read_of s)
unfolding read_of
only_blocks [] = refl
only_blocks (a ∷ []) = refl
only_blocks (a ∷ b ∷ []) = refl
only_blocks (a ∷ b ∷ c1 ∷ []) = refl
only_blocks (a ∷ b ∷ c1 ∷ c2 ∷ []) = refl
only_blocks (a ∷ b ∷ c1 ∷ c2 ∷ c3 ∷ []) = refl
only_blocks (a ∷ b ∷ c1 ∷ c2 ∷ c3 ∷ c4 ∷ []) = refl
only_blocks (a ∷ b ∷ c1 ∷ c2 ∷ c3 ∷ c4 ∷ c5 ∷ []) = refl
only_blocks (a ∷ b ∷ c1 ∷ c2 ∷ c3 ∷ c4 ∷ c5 ∷ c6 ∷ []) = refl
only_blocks (a ∷ b ∷ c1 ∷ c2 ∷ c3 ∷ c4 ∷ c5 ∷ c6 ∷ z ∷ []) =
    by_eq (Spelt (a ∷ b ∷ c1 ∷ c2 ∷ c3 ∷ c4 ∷ c5 ∷ c6 ∷ z ∷ [])) z 13 _ _
    (λ e. subst (λ (x : ℕ). Spelt (a ∷ b ∷ c1 ∷ c2 ∷ c3 ∷ c4 ∷ c5 ∷ c6 ∷ x ∷ [])
    (switch_in a (digit_of b) (number_of (c1 ∷ c2 ∷ c3 ∷ c4 ∷ c5 ∷ c6 ∷ [])) None)) (sym e)
    (switch_spelt a b c1 c2 c3 c4 c5 c6 None refl (digit_of b) (digit_tells b)))
    (λ _. refl)
only_blocks (a ∷ b ∷ c1 ∷ c2 ∷ c3 ∷ c4 ∷ c5 ∷ c6 ∷ y ∷ z ∷ []) =
    by_eq (Spelt (a ∷ b ∷ c1 ∷ c2 ∷ c3 ∷ c4 ∷ c5 ∷ c6 ∷ y ∷ z ∷ [])) z 13 _ _
    (λ e. by_bool (Spelt (a ∷ b ∷ c1 ∷ c2 ∷ c3 ∷ c4 ∷ c5 ∷ c6 ∷ y ∷ z ∷ [])) (is_ident (digit_of y)) _ _
    (λ k. subst (λ (x : ℕ). Spelt (a ∷ b ∷ c1 ∷ c2 ∷ c3 ∷ c4 ∷ c5 ∷ c6 ∷ y ∷ x ∷ [])
    (switch_in a (digit_of b) (number_of (c1 ∷ c2 ∷ c3 ∷ c4 ∷ c5 ∷ c6 ∷ [])) (Some y))) (sym e)
    (switch_spelt a b c1 c2 c3 c4 c5 c6 (Some y) k (digit_of b) (digit_tells b)))
    (λ _. refl))
    (λ _. refl)
only_blocks (a ∷ b ∷ c1 ∷ c2 ∷ c3 ∷ c4 ∷ c5 ∷ c6 ∷ y ∷ z ∷ x ∷ l) =
    subst (Spelt (a ∷ b ∷ c1 ∷ c2 ∷ c3 ∷ c4 ∷ c5 ∷ c6 ∷ y ∷ z ∷ x ∷ l))
    (too_long (a ∷ b ∷ c1 ∷ c2 ∷ c3 ∷ c4 ∷ c5 ∷ c6 ∷ y ∷ z ∷ x ∷ l) (omega arith)) refl

-- ---- every block, and nothing else

number_low : (n : ℕ) (ident : Option ℕ) → VerdictFits n ident → n < six_digits
number_low n ident f =
    by_bool (λ (x : Bool). n < six_digits) (eqb n 0) true false (λ e. let z = eqb-true n 0 e in omega arith)
    (λ e. let h = turned_most n (f (eqb-false n 0 e)).high in omega arith)

block_is : (f : Figures) → InRange f → read_of (spelling f) ≡ f
block_is (refused n) h = absurd h
block_is (verdict switch n ident) h = verdict_read switch ident h.0 n (number_low n ident h.1) h.1
block_is (travelled switch k minus t ident) h = travel_read switch ident h.0 k minus t h.1.0 h.1.1
block_is (status switch v ident) h = status_read switch ident h.0 v h.1
block_is (echo switch n ident) h =
    let o = h.1 in
    echo_read switch ident h.0 n o.six (record {
      axes = o.no_travel;
      six = o.no_status;
      echo = sym (echo_taken n o.no_travel o.no_status) ∙ o.taken;
    })
block_is (placed switch k z ident) h = place_read switch ident h.0 k z h.1.0 h.1.1
block_is (inputs switch w ident) h = inputs_read switch ident h.0 w h.1

says_read : (s : List ℕ) (f : Figures) → Says s f → read_of s ≡ f
says_read s f b = ap read_of (sym b.bytes) ∙ block_is f b.fits

others : (s : List ℕ) → ((f : Figures) → Says s f → ⊥) → read_of s ≡ refused 20
others s none = when (read_of s) (only_blocks s)
  where
    when : (f : Figures) → Spelt s f → f ≡ refused 20
    when (refused n) t = ap refused t
    when (verdict switch n ident) t = absurd (none _ t)
    when (travelled switch k minus d ident) t = absurd (none _ t)
    when (status switch v ident) t = absurd (none _ t)
    when (echo switch n ident) t = absurd (none _ t)
    when (placed switch k z ident) t = absurd (none _ t)
    when (inputs switch w ident) t = absurd (none _ t)

apart : (s t : List ℕ) → (read_of s ≡ refused 20 → ⊥) → read_of s ≡ read_of t → s ≡ t
apart s t n e = when (read_of s) (only_blocks s) (subst (Spelt t) (sym e) (only_blocks t)) n
  where
    when : (f : Figures) → Spelt s f → Spelt t f → (f ≡ refused 20 → ⊥) → s ≡ t
    when (refused k) p q n = absurd (n (ap refused p))
    when (verdict switch k ident) p q n = sym p.bytes ∙ q.bytes
    when (travelled switch k minus d ident) p q n = sym p.bytes ∙ q.bytes
    when (status switch v ident) p q n = sym p.bytes ∙ q.bytes
    when (echo switch k ident) p q n = sym p.bytes ∙ q.bytes
    when (placed switch k z ident) p q n = sym p.bytes ∙ q.bytes
    when (inputs switch w ident) p q n = sym p.bytes ∙ q.bytes

pub blocks_read : BlocksRead
blocks_read = record {
  read = says_read;
  only = only_blocks;
  without = λ s e f b. subst InRange (sym (says_read s f b) ∙ e) b.fits;
  others = others;
  named = one_to_one.digits;
  alike = λ l w a b c d e f x y. named.alike x y l w a b c d e f;
  none = named.none;
  apart = apart;
}
