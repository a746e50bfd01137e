-- Eight bytes, an identification and 0D, as the reader takes them by their switch digit: a block that says just what is
-- read, or 20. Assumes nothing.
use Rattle.std.proofs.Common.{Option, Some, None}
use Prim.Native.Nat.{ℕ}
use mathlib.Core.Bool.{true, not}
use mathlib.Core.List.{List, [], ◌∷◌, ◌++◌}
use mathlib.Core.Path.{◌≡◌, refl, ap, subst, ◌∙◌}
use borrow.Author.Tests.{eqb-false, not-true}
use lib.Dec.{eqb}
use Rattle.laws.proofs.Pick.{by_bool}
use Rattle.digits.specs.Digits.{six_digits, capital_of, number_of, Under, numbered}
use Rattle.digits.specs.declared.Digit.{Digit}
use Rattle.digits.specs.declared.Digit.TheVariants.{Capital, Small}
use Rattle.digits.specs.declared.Number.{Number}
use Rattle.digits.proofs.Laws.{Tells}
use Rattle.digits.proofs.Six.{number_six, under_six}
use Rattle.block.specs.Block.{ident_chars, block_of}
use Rattle.host.specs.Writer.{ident_fits}
use Rattle.reader.specs.Reader.{digits_in, switch_in}
use Rattle.reader.specs.Blocks.{Framed, Spelt}
use Rattle.reader.proofs.FieldLaws.{fields_spelt}

module _ (a b c1 c2 c3 c4 c5 c6 : ℕ) (ident : Option ℕ) (named : ident_fits ident ≡ true) where
  -- The bytes with this identification.
  abbrev pub bytes : List ℕ
  bytes = a ∷ b ∷ c1 ∷ c2 ∷ c3 ∷ c4 ∷ c5 ∷ c6 ∷ (ident_chars ident ++ (13 ∷ []))

  digits_spelt : (v : ℕ) → Framed v ident → capital_of v ≡ b → (n : Option Number)
      → number_of (c1 ∷ c2 ∷ c3 ∷ c4 ∷ c5 ∷ c6 ∷ []) ≡ n
      → Spelt bytes (digits_in a v n ident)
  unfolding block_of
  digits_spelt v f p None e = refl
  digits_spelt v f p (Some n) e =
      by_bool (Spelt bytes) n.small _ _ (λ _. refl)
      (λ q. let whole = number_six c1 c2 c3 c4 c5 c6 n.value (e ∙ ap (numbered n.value) q) in
      fields_spelt v n.value ident bytes f (subst (Under six_digits) e (under_six c1 c2 c3 c4 c5 c6)) a
      (λ i. a ∷ p i ∷ (whole i ++ (ident_chars ident ++ (13 ∷ [])))))

  pub switch_spelt : (d : Option Digit) → Tells b d
      → Spelt bytes (switch_in a d (number_of (c1 ∷ c2 ∷ c3 ∷ c4 ∷ c5 ∷ c6 ∷ [])) ident)
  switch_spelt None t = refl
  switch_spelt (Some (Capital v)) t =
      by_bool (Spelt bytes) (not (eqb v 12)) _ _
      (λ q. digits_spelt v
      (record { digit = t.0; other = eqb-false v 12 (not-true (eqb v 12) q); named = named }) t.1 _ refl)
      (λ _. refl)
  switch_spelt (Some (Small v)) t = refl
