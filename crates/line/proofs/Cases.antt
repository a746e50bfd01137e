-- A line's judgement by its cases: turned away by a number from 4 to 10, or accepted. Assumes nothing.
use Rattle.line.specs.declared.Accepted.{Accepted}
use Rattle.line.specs.declared.Refusal.{Refusal}
use Rattle.line.specs.declared.Refusal.TheVariants as N
use Rattle.line.specs.Codes.{listed}
use Rattle.std.proofs.Common.{Option, Some, None, Result, Err}
use Prim.Native.Nat.{ℕ}
use mathlib.Core.Bool.{true, not, ◌||◌}
use mathlib.Core.List.{List}
use mathlib.Core.Path.{◌≡◌, refl}
use borrow.Author.Tests.{not-false}
use lib.Dec.{ltb}
use lib.ListN.{length}
use Rattle.laws.proofs.Pick.{by_bool}
use Rattle.laws.proofs.Tests.{neither}
use Rattle.digits.specs.Digits.{digit_of, number_of}
use Rattle.line.specs.declared.command.Command.{Command}
use Rattle.line.specs.declared.row.Row.{Row}
use Rattle.line.specs.Ranges.{is_within, fits}
use Rattle.line.specs.Line.{
  char_at,
  is_letter,
  is_switch,
  is_ident,
  is_number,
  value_of,
  digit_count,
  digit_chars,
  judge_row,
  judge_value,
  judge_of,
  accepting,
}

-- ---- P of a judgement

module _ (P : Result Accepted Refusal → Type 0) where
  pub by_row : (row : Option Row) (count n : ℕ) → P (Err N.Code) → P (Err N.Count) → P (Err N.Range)
      → ((least : ℕ) (c : Command) → row ≡ listed least c → fits c ≡ true → P (accepting c n))
      → P (judge_row row count n)
  unfolding judge_row
  by_row None count n p8 p9 p10 p = p8
  by_row (Some row) count n p8 p9 p10 p =
      by_bool P (not (is_within count row.least 6)) _ _ (λ _. p9)
      λ _. by_bool P (not (fits row.command)) _ _ (λ _. p10)
      λ q. p row.least row.command refl (not-false (fits row.command) q)

  pub by_judge : (cs : List ℕ) → P (Err N.Length) → P (Err N.Letter) → P (Err N.Switch) → P (Err N.Digits)
      → (is_ident (digit_of (char_at cs 8)) ≡ true
      → P (judge_value (char_at cs 0) (digit_count cs) (value_of (number_of (digit_chars cs)))))
      → P (judge_of cs)
  unfolding judge_of
  by_judge cs p4 p5 p6 p7 p =
      let number = number_of (digit_chars cs) in
      by_bool P (ltb (length cs) 2 || ltb 9 (length cs)) _ _ (λ _. p4)
      λ _. by_bool P (not (is_letter (char_at cs 0))) _ _ (λ _. p5)
      λ _. by_bool P (not (is_switch (char_at cs 1))) _ _ (λ _. p6)
      λ _. by_bool P (not (is_ident (digit_of (char_at cs 8))) || not (is_number number)) _ _ (λ _. p7)
      λ q. p (not-false (is_ident (digit_of (char_at cs 8)))
      (neither (not (is_ident (digit_of (char_at cs 8)))) (not (is_number number)) q).0)
