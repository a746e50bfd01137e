-- The form `T n hhhhhh`, part by part. Assumes nothing.
use Rattle.std.proofs.Common.{sym, ◌∙◌}
use native.Mathlib.Omega.{arith}
use Rattle.session.specs.Asked.{asked_by}
use Rattle.session.proofs.AskedLaws.{long_line, short_line, no_letter, no_first, no_second, no_count, line_asked}
use Rattle.session.proofs.asked.parse_tick.Goals.{
  then-letter-ne-LETTER-via-then-letter-ne-LETTER,
  then-letter-ne-LETTER-via-else-letter-ne-LETTER+then-first-ne-SPACE,
  then-letter-ne-LETTER-via-else-letter-ne-LETTER+else-first-ne-SPACE+then-second-ne-SPACE,
}
use Rattle.session.proofs.asked.parse_tick.Goals as goal

pub returns-then-line-gt16 : goal.returns-then-line-gt16
returns-then-line-gt16 c = long_line c.args.line.now c.if-line-gt16.true

pub returns-in_default : goal.returns-in_default
returns-in_default c = short_line c.args.line.now (omega arith)

pub returns-then-letter-ne-LETTER : goal.returns-then-letter-ne-LETTER
returns-then-letter-ne-LETTER c =
    let l = c.args.line.now in
    let low = c.in-len9-up.len_at_least in
    let high = c.if-line-gt16.false in
    elim c.then-letter-ne-LETTER.branch [
      | then-letter-ne-LETTER-via-then-letter-ne-LETTER w ↦ no_letter l low high w.if-letter-ne-LETTER.true
      | then-letter-ne-LETTER-via-else-letter-ne-LETTER+then-first-ne-SPACE w ↦
          no_first l low high w.if-letter-ne-LETTER.false w.if-first-ne-SPACE.true
      | then-letter-ne-LETTER-via-else-letter-ne-LETTER+else-first-ne-SPACE+then-second-ne-SPACE w ↦
          no_second l low high w.if-letter-ne-LETTER.false w.if-first-ne-SPACE.false w.if-second-ne-SPACE.true
    ]

pub returns-in_err-count : goal.returns-in_err-count
returns-in_err-count c =
    c.from_residual.ensures
    ∙ no_count c.args.line.now c.in-len9-up.len_at_least c.if-line-gt16.false c.if-letter-ne-LETTER.false
    c.if-first-ne-SPACE.false c.if-second-ne-SPACE.false _ c.read_count.ensures c.in_err-count.was

pub returns-in_err-word : goal.returns-in_err-word
returns-in_err-word c =
    c.from_residual-in_err-word.ensures
    ∙ line_asked c.args.line.now c.in-len9-up.len_at_least c.if-line-gt16.false c.if-letter-ne-LETTER.false
    c.if-first-ne-SPACE.false c.if-second-ne-SPACE.false _ _ _ c.read_count.ensures c.read_six.ensures
    (λ i. asked_by (sym c.in_ok-count.was i) (sym c.in_err-word.was i))

pub returns : goal.returns
returns c =
    line_asked c.args.line.now c.in-len9-up.len_at_least c.if-line-gt16.false c.if-letter-ne-LETTER.false
    c.if-first-ne-SPACE.false c.if-second-ne-SPACE.false _ _ _ c.read_count.ensures c.read_six.ensures
    (λ i. asked_by (sym c.in_ok-count.was i) (sym c.in_ok-word.was i))
