-- The parts of a T line one behind another. Assumes nothing.
use mathlib.Core.Path.{refl, ap, ◌∙◌}
use Rattle.laws.proofs.Pick.{on_ge}
use Rattle.digits.specs.Digits.{six_of}
use Rattle.text.specs.Text.{writes}
use Rattle.text.specs.Decimal.{decimal_of}
use Rattle.text.proofs.TextLaws.{joined}
use Rattle.machine.specs.Calls.{chars}
use Rattle.sentences.specs.Sentences.{turned_text}
use Rattle.phrases.proofs.programs.tick_line.Goals as goal

pub returns : goal.returns
returns c =
    joined c.args.text (chars "T ") _ c.characters.ensures
    (joined _ (decimal_of c.args.n) _ c.decimal.ensures
    (joined _ (chars " ") (six_of c.args.word) c.characters-2.ensures c.six.ensures))
    ∙ ap (writes c.args.text) (on_ge 16777215 c.args.word _ (turned_text 3) _ c.if-word-gt-LAST_WORD.false refl)
