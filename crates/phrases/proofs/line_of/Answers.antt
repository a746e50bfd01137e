-- The line that the writer gives, without 0D, or the number that refuses the request. Assumes nothing.
use mathlib.Core.Path.{sym, ap, ◌∙◌}
use Rattle.host.specs.Writer.{result_of}
use Rattle.text.specs.Text.{writes}
use Rattle.text.specs.Parts.{part}
use Rattle.sentences.specs.Sentences.{turned_text}
use Rattle.phrases.proofs.PhraseLaws.{line_fronted, line_turned}
use Rattle.phrases.proofs.line_of.Goals as goal

pub returns-in-Ok : goal.returns-in-Ok
returns-in-Ok c =
    c.characters.ensures
    ∙ ap (writes c.args.text)
    (c.part.ensures
    ∙ (ap (part 13 0) c.front.ensures
    ∙ line_fronted c.args.request (sym (ap result_of c.in-Ok.is) ∙ c.write_line.ensures.result_value)
    c.write_line.ensures.buf_after))

pub returns-in-Err : goal.returns-in-Err
returns-in-Err c =
    c.turned_away.ensures
    ∙ ap (writes c.args.text)
    (ap turned_text c.from.ensures
    ∙ line_turned c.args.request (sym (ap result_of c.in-Err.is) ∙ c.write_line.ensures.result_value))
