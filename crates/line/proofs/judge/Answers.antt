-- Checks 4 to 7 in order, each by its law, over the characters of the line. Assumes nothing.
use Rattle.line.specs.declared.Accepted.{Accepted}
use Rattle.line.specs.declared.Refusal.{Refusal}
use Rattle.std.proofs.Common.{Result, inl, inr, subst, sym, ◌≡◌, ℕ, List, arith}
use Rattle.digits.specs.Digits.{digit_of, Under}
use Rattle.digits.proofs.Six.{under_six}
use Rattle.line.specs.Line.{is_letter, is_switch, is_ident, judge_of}
use Rattle.line.specs.Case.{CaseIgnored}
use Rattle.line.specs.Verdict.{verdict_of, line_verdict}
use Rattle.line.proofs.Laws.{too_short, too_long, was_true, was_false, wrong_letter, wrong_switch, wrong_ident, then_digits}
use Rattle.line.proofs.Verdict.{judged}
use Rattle.line.proofs.judge.Goals as goal

-- All promises, by their names, from the first.
told : {r : Result Accepted Refusal} (cs : List ℕ) → r ≡ judge_of cs
    → record { value : r ≡ judge_of cs; result_value : verdict_of r ≡ line_verdict cs; case_ignored : CaseIgnored }
told cs e = let k = judged cs e in record { value = k.0; result_value = k.1.0; case_ignored = k.1.1 }

pub returns-then-line-lt2 : goal.returns-then-line-lt2
returns-then-line-lt2 c =
    let l = c.args.line.now in
    told l (elim c.then-line-lt2.either [
      | inl h ↦ too_short l h
      | inr h ↦ too_long l h.1
    ])

pub returns-then-not-is_letter : goal.returns-then-not-is_letter
returns-then-not-is_letter c =
    told _ (wrong_letter c.args.line.now (omega arith) (omega arith)
    (was_false is_letter c.is_letter.ensures c.char_at-letter.ensures c.if-not-is_letter.true-raw))

pub returns-then-not-is_switch : goal.returns-then-not-is_switch
returns-then-not-is_switch c =
    told _ (wrong_switch c.args.line.now (omega arith) (omega arith)
    (was_true is_letter c.is_letter.ensures c.char_at-letter.ensures c.if-not-is_letter.false-raw)
    (was_false is_switch c.is_switch.ensures c.char_at.ensures c.if-not-is_switch.true-raw))

pub returns-then-not-is_ident : goal.returns-then-not-is_ident
returns-then-not-is_ident c =
    told _ (wrong_ident c.args.line.now (omega arith) (omega arith)
    (was_true is_letter c.is_letter.ensures c.char_at-letter.ensures c.if-not-is_letter.false-raw)
    (was_true is_switch c.is_switch.ensures c.char_at.ensures c.if-not-is_switch.false-raw)
    (was_false (λ (k : ℕ). is_ident (digit_of k)) c.is_ident.ensures.value c.char_at-2.ensures
    c.if-not-is_ident.true-raw))

pub judge_number-requires : goal.judge_number-requires
judge_number-requires c = subst (Under 16777216) (sym c.read_digits.ensures) (under_six _ _ _ _ _ _)

pub returns : goal.returns
returns c =
    told _ (then_digits c.args.line.now (omega arith) (omega arith)
    (was_true is_letter c.is_letter.ensures c.char_at-letter.ensures c.if-not-is_letter.false-raw)
    (was_true is_switch c.is_switch.ensures c.char_at.ensures c.if-not-is_switch.false-raw)
    (was_true (λ (k : ℕ). is_ident (digit_of k)) c.is_ident.ensures.value c.char_at-2.ensures
    c.if-not-is_ident.false-raw)
    cc)
