-- What a W line prints, and what the tick that has its block does, by computation. Assumes nothing.
use mathlib.Core.List.{[], ◌∷◌}
use mathlib.Core.Path.{◌≡◌, refl, ap, ◌∙◌}
use Rattle.digits.specs.Digits.{number_of, six_of}
use Rattle.block.specs.Block.{block_of}
use Rattle.line.specs.Line.{judge_of, judge_row}
use Rattle.reply.specs.Reply.{reply_of, inputs_of}
use Rattle.text.specs.Decimal.{spell, decimal_of}
use Rattle.machine.specs.State.{Machine, put, with_settings}
use Rattle.machine.specs.Steps.{power_on}
use Rattle.machine.specs.Calls.{run}
use Rattle.session.specs.Asked.{read_on, count_of, asked_of}
use Rattle.session.specs.Session.{fresh}
use Rattle.session.specs.Ticks.{sum_of, blocks_of}
use Rattle.session.specs.Text.{sums_text}
use Rattle.session.specs.Lines.{prints, fed, settling, at_line}
use Rattle.session.proofs.OpeningLaws.{off_is}

silent_told : prints (at_line (with_settings (power_on 0) (put (power_on 0).settings 11 0))) (fed ("W0ABCDEF1" ∷ []))
    ≡ []
unfolding prints judge_of judge_row number_of reply_of
silent_told = refl

pub silent_is : prints fresh (fed ("W0ABCDEF1" ∷ [])) ≡ []
silent_is = ap (λ (m : Machine). prints (at_line m) (fed ("W0ABCDEF1" ∷ []))) off_is ∙ silent_told

pub settles_is : prints (at_line settling) (fed ("T 1 123456" ∷ [])) ≡ fed ("R01234561" ∷ "1 0 0 0 0" ∷ [])
unfolding
    run prints judge_of judge_row number_of inputs_of block_of six_of blocks_of sum_of sums_text decimal_of spell asked_of
    count_of read_on
settles_is = refl
