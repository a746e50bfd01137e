-- A block is read alike with each identification. Assumes nothing.
use Rattle.std.proofs.Common.{Some, Option, None}
use Prim.Native.Nat.{ℕ}
use mathlib.Core.Bool.{Bool, true, false, cond, not}
use mathlib.Core.List.{[], ◌∷◌}
use mathlib.Core.Path.{◌≡◌, refl, sym, ap, ◌∙◌}
use lib.Dec.{ltb, eqb}
use Rattle.digits.specs.Digits.{digit_of, number_of}
use Rattle.digits.specs.Characters.{digit_characters, is_one}
use Rattle.digits.proofs.CharacterLaws.{one_to_one}
use Rattle.digits.specs.declared.Digit.{Digit}
use Rattle.digits.specs.declared.Digit.TheVariants.{Capital, Small}
use Rattle.digits.specs.declared.Number.{Number}
use Rattle.line.specs.Ranges.{is_axis}
use Rattle.line.specs.Codes.{code, five}
use Rattle.reply.specs.Reply.{letter_u, letter_s, letter_small_s, letter_r}
use Rattle.host.specs.Writer.{ident_fits}
use Rattle.reader.specs.Reader.{Figures, refused, is_verdict, is_echo, only_if, fields_in, digits_in, switch_in, read_of}
use Rattle.reader.specs.Blocks.{renamed, ten_with}

module _ (x y : ℕ) where
  pick : (t : Bool) (a b c d : Figures) → c ≡ renamed a y → d ≡ renamed b y → cond t c d ≡ renamed (cond t a b) y
  pick true a b c d p q = p
  pick false a b c d p q = q

  fields : (letter switch n : ℕ) → fields_in letter switch n (Some y) ≡ renamed (fields_in letter switch n (Some x)) y
  unfolding fields_in
  fields letter switch n =
      pick (eqb letter letter_u) _ _ _ _ (pick (is_verdict n (Some x)) _ _ _ _ refl refl)
      (pick (eqb letter letter_s) _ _ _ _
      (pick (is_axis (code n)) _ _ _ _ refl
      (pick (eqb (code n) 6) _ _ _ _ (pick (ltb (five n) 128) _ _ _ _ refl refl) (pick (is_echo n) _ _ _ _ refl refl)))
      (pick (eqb letter letter_small_s) _ _ _ _ (pick (is_axis (code n)) _ _ _ _ refl refl)
      (pick (eqb letter letter_r) _ _ _ _ refl refl)))

  digits : (letter switch : ℕ) (m : Option Number)
      → digits_in letter switch m (Some y) ≡ renamed (digits_in letter switch m (Some x)) y
  digits letter switch None = refl
  digits letter switch (Some n) = pick n.small _ _ _ _ refl (fields letter switch n.value)

  switched : (letter : ℕ) (d : Option Digit) (m : Option Number)
      → switch_in letter d m (Some y) ≡ renamed (switch_in letter d m (Some x)) y
  switched letter None m = refl
  switched letter (Some (Capital v)) m = pick (not (eqb v 12)) _ _ _ _ (digits letter v m) refl
  switched letter (Some (Small v)) m = refl

  pub alike : (l w a b c d e f : ℕ) → is_one x digit_characters ≡ true → is_one y digit_characters ≡ true
      → read_of (ten_with l w a b c d e f y) ≡ renamed (read_of (ten_with l w a b c d e f x)) y
  unfolding read_of
  alike l w a b c d e f p q =
      let g : ident_fits (Some x) ≡ true = one_to_one.digits x ∙ p in
      let h : ident_fits (Some y) ≡ true = one_to_one.digits y ∙ q in
      let n = number_of (a ∷ b ∷ c ∷ d ∷ e ∷ f ∷ []) in
      ap (λ (t : Bool). only_if t (switch_in l (digit_of w) n (Some y))) h
      ∙ (switched l (digit_of w) n
      ∙ ap (λ (t : Bool). renamed (only_if t (switch_in l (digit_of w) n (Some x))) y) (sym g))

pub none : (l w a b c d e f x : ℕ) → is_one x digit_characters ≡ false → read_of (ten_with l w a b c d e f x) ≡ refused 20
unfolding read_of
none l w a b c d e f x p =
    ap (λ (t : Bool). only_if t (switch_in l (digit_of w) (number_of (a ∷ b ∷ c ∷ d ∷ e ∷ f ∷ [])) (Some x)))
    (one_to_one.digits x ∙ p)
