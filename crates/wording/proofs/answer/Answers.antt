-- The answer with its line feed, as a text holds it. Assumes nothing.
use mathlib.Core.List.{[]}
use mathlib.Core.Path.{ap, ◌∙◌}
use Rattle.text.specs.Text.{holding, writes}
use Rattle.text.specs.declared.Text.{Text}
use Rattle.text.proofs.TextLaws.{writes_last, writes_holding}
use Rattle.wording.specs.Wording.{answer_text, answer_of}
use Rattle.wording.proofs.PageLaws.{page}
use Rattle.wording.proofs.AnswerLineLaws.{answer_lines}
use Rattle.wording.proofs.ToldLaws.{told}
use Rattle.wording.proofs.WholeLaws.{whole}
use Rattle.wording.proofs.answer.Goals as goal

pub returns : goal.returns
returns c =
    record {
      value = writes_last (holding []) (answer_text c.args.line.now) 10
          (c.answer_text.ensures
          ∙ ap (λ (t : Text). writes t (answer_text c.args.line.now)) c.new.ensures) c.with.ensures
          ∙ writes_holding [] (answer_of c.args.line.now);
      whole = whole;
      answer_lines = answer_lines;
      told = told;
      page = page;
    }
