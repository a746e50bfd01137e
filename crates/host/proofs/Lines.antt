-- The line of every request that has one, as characters: none of them is 0D, and they are judged as the same command,
-- silent or not, with the same identification. Assumes nothing.
use Rattle.std.proofs.Common.{Option, None, Some}
use Prim.Native.Nat.{ℕ, ◌+◌, ◌/◌, ◌%◌, ◌<◌}
use native.Mathlib.Omega.{arith}
use mathlib.Core.Bool.{Bool, true, false, cond, false≢true}
use mathlib.Core.List.{List, [], ◌∷◌, ◌++◌}
use mathlib.Core.Path.{◌≡◌, refl, sym, ap, ◌∙◌}
use borrow.Author.Tests.{ne_eqb}
use lib.Dec.{ltb, eqb}
use Rattle.laws.proofs.Pick.{by_lt, by_bool}
use Rattle.digits.specs.Digits.{four_digits, five_digits, six_digits, digit_of, capital_of, six_of, number_of}
use Rattle.digits.proofs.Six.{six_number}
use Rattle.block.specs.Block.{block_of}
use Rattle.line.specs.declared.command.Reading.TheVariants as R
use Rattle.line.specs.declared.command.Command.{Command}
use Rattle.line.specs.declared.command.Command.TheVariants as C
use Rattle.line.specs.Ranges.{fits}
use Rattle.line.specs.Codes.{letter_p, letter_q, letterq, letter_w, is_query}
use Rattle.line.specs.Line.{is_letter, is_ident, judge_row, judge_value, judge_of, accepting}
use Rattle.line.specs.Fits.{CommandFits}
use Rattle.laws.proofs.Tests.{both}
use Rattle.receiver.specs.Receiver.{heard_line, line_heard}
use Rattle.host.specs.declared.Request.{Request}
use Rattle.host.specs.Writer.{
  letter_of,
  digits_of,
  ident_fits,
  is_absent,
  has_line,
  switch_of,
  query_of,
  full_of,
  line_of,
}
use Rattle.host.proofs.JudgeLaws.{absent_is, query_is}
use Rattle.host.proofs.Accepts.{accepts, digits_fit}

-- No character is 0D.
abbrev pub NoEnd : List ℕ → Type 0
NoEnd [] = 0 < 1
NoEnd (c ∷ cs) = (eqb c 13 ≡ false) × NoEnd cs

-- ---- no character of a full line is 0D

capital_no_end : (v : ℕ) → eqb (capital_of v) 13 ≡ false
capital_no_end v =
    by_lt (λ (x : ℕ). eqb x 13 ≡ false) (v % 16) 10 _ _
    (λ h. ne_eqb (48 + v % 16) 13 (λ e. omega arith)) (λ h. ne_eqb (55 + v % 16) 13 (λ e. omega arith))

-- A fact about the letter of a command, of each of the four.
by_letter : (P : ℕ → Type 0) → P letter_p → P letter_q → P letterq → P letter_w → (c : Command) → P (letter_of c)
by_letter P p q s w (C.Distance k minus d) = p
by_letter P p q s w (C.Set k v) = by_bool P (ltb k 13) letter_p letter_q (λ _. p) (λ _. q)
by_letter P p q s w (C.Start k waits) = q
by_letter P p q s w (C.Order k) = q
by_letter P p q s w (C.Outputs v) = w
by_letter P p q s w (C.Read (R.Travel k)) = q
by_letter P p q s w (C.Read (R.Position k)) = s
by_letter P p q s w (C.Read R.Status) = q
by_letter P p q s w (C.Read R.Everything) = s
by_letter P p q s w (C.Read R.Inputs) = w

letter_no_end : (c : Command) → eqb (letter_of c) 13 ≡ false
letter_no_end = by_letter (λ (l : ℕ). eqb l 13 ≡ false) refl refl refl refl

letter_is : (c : Command) → is_letter (letter_of c) ≡ true
letter_is = by_letter (λ (l : ℕ). is_letter l ≡ true) refl refl refl refl

-- An identification is no 0D.
ident_no_end : (c : ℕ) → is_ident (digit_of c) ≡ true → eqb c 13 ≡ false
ident_no_end c e = ne_eqb c 13 (λ p. false≢true (ap (λ (x : ℕ). is_ident (digit_of x)) (sym p) ∙ e))

-- ---- a full line judged

-- Its characters.
abbrev chars : ℕ → Bool → ℕ → List ℕ → List ℕ
chars letter silent n ident = letter ∷ capital_of (switch_of silent) ∷ (six_of n ++ ident)

chars_no_end : (c : Command) (silent : Bool) (n : ℕ) (end : List ℕ) → NoEnd end
    → NoEnd (chars (letter_of c) silent n end)
unfolding six_of
chars_no_end c silent n end h = (
  letter_no_end c,
  (
    capital_no_end (switch_of silent),
    (
      capital_no_end (n / five_digits % 16),
      (
        capital_no_end (n / four_digits % 16),
        (
          capital_no_end (n / 4096 % 16),
          (
            capital_no_end (n / 256 % 16),
            (capital_no_end (n / 16 % 16), (capital_no_end (n % 16), h)),
          ),
        ),
      ),
    ),
  ),
)

module _ (letter n : ℕ) (low : n < six_digits) (known : is_letter letter ≡ true) where
  judged_bare : (silent : Bool) → judge_of (chars letter silent n []) ≡ judge_value letter 6 n
  unfolding judge_of six_of
  judged_bare true = rw (known, six_number n low)
  judged_bare false = rw (known, six_number n low)

  judged_named : (silent : Bool) (c : ℕ) → is_ident (digit_of c) ≡ true
      → judge_of (chars letter silent n (c ∷ [])) ≡ judge_value letter 6 n
  unfolding judge_of six_of
  judged_named true c e = rw (known, e, six_number n low)
  judged_named false c e = rw (known, e, six_number n low)

-- ---- the whole line heard

-- The bytes are characters and a 0D, and the characters are this line.
pub record Lined (bytes : List ℕ) (silent : Bool) (ident : Option ℕ) (c : Command) (n : ℕ) : Type 0 where
  pub chars : List ℕ
  pub ended : bytes ≡ chars ++ (13 ∷ [])
  pub no_end : NoEnd chars
  pub heard : heard_line chars ≡ line_heard silent ident (accepting c n)

query_lined : (silent : Bool) → Lined (query_of silent) silent None (C.Read R.Inputs) 0
unfolding judge_of judge_row number_of
query_lined true =
    record { chars = letter_w ∷ 52 ∷ []; ended = refl; no_end = (refl, (refl, omega arith)); heard = refl }
query_lined false =
    record { chars = letter_w ∷ 48 ∷ []; ended = refl; no_end = (refl, (refl, omega arith)); heard = refl }

module _ (c : Command) (fits : CommandFits c) (full : is_query c ≡ false) where
  judged : (cs : List ℕ) → judge_of cs ≡ judge_value (letter_of c) 6 (digits_of c)
      → judge_of cs ≡ accepting c (digits_of c)
  judged cs e = e ∙ accepts c fits full

  bare_line : (silent : Bool) → heard_line (chars (letter_of c) silent (digits_of c) [])
      ≡ line_heard silent None (accepting c (digits_of c))
  unfolding six_of
  bare_line true =
      λ i. line_heard true None (judged _ (judged_bare (letter_of c) (digits_of c) (digits_fit c fits) (letter_is c) true) i)
  bare_line false =
      λ i. line_heard false None
      (judged _ (judged_bare (letter_of c) (digits_of c) (digits_fit c fits) (letter_is c) false) i)

  named_line : (silent : Bool) (x : ℕ) → is_ident (digit_of x) ≡ true
      → heard_line (chars (letter_of c) silent (digits_of c) (x ∷ []))
      ≡ line_heard silent (Some x) (accepting c (digits_of c))
  unfolding six_of
  named_line true x e =
      λ i. line_heard true (Some x)
      (judged _ (judged_named (letter_of c) (digits_of c) (digits_fit c fits) (letter_is c) true x e) i)
  named_line false x e =
      λ i. line_heard false (Some x)
      (judged _ (judged_named (letter_of c) (digits_of c) (digits_fit c fits) (letter_is c) false x e) i)

  full_lined : (silent : Bool) (ident : Option ℕ) → ident_fits ident ≡ true
      → Lined (full_of silent (letter_of c) (digits_of c) ident) silent ident c (digits_of c)
  unfolding block_of six_of
  full_lined silent None e = record {
    chars = chars (letter_of c) silent (digits_of c) [];
    ended = refl;
    no_end = chars_no_end c silent (digits_of c) [] (omega arith);
    heard = bare_line silent;
  }
  full_lined silent (Some x) e = record {
    chars = chars (letter_of c) silent (digits_of c) (x ∷ []);
    ended = refl;
    no_end = chars_no_end c silent (digits_of c) (x ∷ []) (ident_no_end x e, omega arith);
    heard = named_line silent x e;
  }

whole_lined : (silent : Bool) (c : Command) (ident : Option ℕ) (query : Bool) → is_query c ≡ query → CommandFits c
    → cond query (is_absent ident) (ident_fits ident) ≡ true
    → Lined (cond query (query_of silent) (full_of silent (letter_of c) (digits_of c) ident)) silent ident c (digits_of c)
whole_lined silent c ident true q h e = rw (query_is c q, absent_is ident e) (query_lined silent)
whole_lined silent c ident false q h e = full_lined c h q silent ident e

-- Every request with a line, whole: its bytes are so many characters and a 0D, and the characters are the same command,
-- silent or not, with the same identification.
pub request_lined : (r : Request) → has_line r ≡ true
    → Lined (line_of r) r.silent r.ident r.command (digits_of r.command)
unfolding line_of
request_lined r e =
    let t = both (fits r.command) _ e in
    whole_lined r.silent r.command r.ident (is_query r.command) refl t.0 t.1
