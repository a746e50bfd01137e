-- A number and its sentence, one part behind another. Assumes nothing.
use mathlib.Core.Path.{ap, ◌∙◌}
use Rattle.text.specs.Decimal.{decimal_of}
use Rattle.text.specs.Text.{writes}
use Rattle.text.proofs.TextLaws.{joined}
use Rattle.machine.specs.Calls.{chars}
use Rattle.sentences.specs.Sentences.{sentence_text}
use Rattle.sentences.proofs.turned_away.Goals as goal

pub returns : goal.returns
returns c =
    joined c.args.text (chars "turned away by ") _ c.characters.ensures
    (joined _ (decimal_of c.args.n) _
    (c.decimal-number.ensures ∙ ap (λ n. writes c.characters.result (decimal_of n)) c.from.ensures)
    (joined _ (chars ": ") (sentence_text c.args.n) c.characters-2.ensures c.sentence.ensures))
