-- A question mark and the row of the nearest form, and what holds of every word and of the tables. Assumes nothing.
use Prim.Native.Nat.{ℕ}
use mathlib.Core.Path.{ap, ◌∙◌}
use Rattle.text.specs.Parts.{part}
use Rattle.text.specs.Text.{writes}
use Rattle.text.proofs.TextLaws.{joined}
use Rattle.machine.specs.Calls.{chars}
use Rattle.sentences.specs.Sentences.{forms}
use Rattle.sentences.proofs.NearestLaws.{nearest}
use Rattle.sentences.proofs.TableLaws.{tables}
use Rattle.sentences.proofs.question.Goals as goal

pub returns : goal.returns
unfolding forms
returns c =
    record {
      value = joined c.args.text (chars "? ") _ c.characters.ensures
          (c.row.ensures ∙ ap (λ (k : ℕ). writes c.characters.result (part 10 k forms)) c.closest.ensures);
      nearest = nearest c.args.w.now;
      tables = tables;
    }
