-- A judgement has the number and values that the paper gives its line. Assumes nothing.
use Rattle.line.specs.declared.Accepted.{Accepted}
use Rattle.line.specs.declared.Refusal.{Refusal}
use Rattle.line.specs.declared.Refusal.TheVariants as N
use Rattle.std.proofs.Common.{Option, Some, None, Result}
use Prim.Native.Nat.{ℕ}
use mathlib.Core.Bool.{Bool, true, false, cond, not, ◌||◌}
use mathlib.Core.List.{List, [], ◌∷◌}
use mathlib.Core.Path.{◌≡◌, refl, ap, ◌∙◌}
use lib.Dec.{ltb, eqb}
use lib.ListN.{length}
use Rattle.digits.specs.Digits.{digit_of, number_of}
use Rattle.line.specs.declared.command.Command.{Command}
use Rattle.line.specs.declared.row.Row.{Row}
use Rattle.line.specs.Ranges.{is_within, fits}
use Rattle.line.specs.Codes.{row_of}
use Rattle.line.specs.Line.{
  char_at,
  is_letter,
  is_switch,
  is_ident,
  is_number,
  value_of,
  digit_chars,
  digit_count,
  turned_away,
  judge_row,
  judge_of,
  accepting,
}
use Rattle.line.specs.Case.{CaseIgnored}
use Rattle.line.proofs.CaseLaws.{case_ignored}
use Rattle.line.specs.Verdict.{
  verdict_of,
  is_listed,
  has_count,
  in_range,
  asked_by,
  line_number,
  line_asked,
  line_verdict,
}

-- The checks 9 and 10, whatever each says.
late : (f g : Bool) (c : Command) (n : ℕ)
    → verdict_of (turned_away N.Count f (turned_away N.Range g (accepting c n))) ≡ record {
      number = cond f 9 (cond g 10 0);
      asked = cond (eqb (cond f 9 (cond g 10 0)) 0) (record { command = c; digits = n } ∷ []) [];
    }
late true g c n = refl
late false true c n = refl
late false false c n = refl

-- All checks as one number, whatever each says.
abbrev number : Bool → Bool → Bool → Bool → Option Row → ℕ → ℕ
number a b c d row count =
    cond a 4 (cond b 5 (cond c 6 (cond d 7
    (cond (not (is_listed row)) 8 (cond (not (has_count row count)) 9 (cond (not (in_range row)) 10 0))))))

checks : (a b c d : Bool) (row : Option Row) (count n : ℕ)
    → verdict_of (turned_away N.Length a (turned_away N.Letter b (turned_away N.Switch c (turned_away N.Digits d (judge_row row count n)))))
    ≡ record {
      number = number a b c d row count;
      asked = cond (eqb (number a b c d row count) 0) (asked_by row n) [];
    }
unfolding judge_row
checks true b c d row count n = refl
checks false true c d row count n = refl
checks false false true d row count n = refl
checks false false false true row count n = refl
checks false false false false None count n = refl
checks false false false false (Some row) count n =
    late (not (is_within count row.least 6)) (not (fits row.command)) row.command n

verdict : (cs : List ℕ) → verdict_of (judge_of cs) ≡ line_verdict cs
unfolding judge_of line_number line_asked
verdict cs =
    let digits = number_of (digit_chars cs) in
    let n = value_of digits in
    checks (ltb (length cs) 2 || ltb 9 (length cs)) (not (is_letter (char_at cs 0))) (not (is_switch (char_at cs 1)))
    (not (is_ident (digit_of (char_at cs 8))) || not (is_number digits)) (row_of (char_at cs 0) (digit_count cs) n)
    (digit_count cs) n

-- All promises of `judge`, from the first.
pub judged : {r : Result Accepted Refusal} (cs : List ℕ) → r ≡ judge_of cs
    → (r ≡ judge_of cs) × ((verdict_of r ≡ line_verdict cs) × CaseIgnored)
judged cs e = (e, (ap verdict_of e ∙ verdict cs, case_ignored))
