-- A line of words by the place of its first, and what holds of every line that is printed. Assumes nothing.
use Prim.Native.Nat.{ℕ}
use mathlib.Core.Path.{ap, ◌∙◌}
use Rattle.text.specs.Text.{writes}
use Rattle.sentences.specs.Sentences.{place_of}
use Rattle.phrases.specs.Phrases.{text_at, words_text}
use Rattle.phrases.proofs.SameLineLaws.{same_line}
use Rattle.phrases.proofs.TickLineLaws.{tick_line}
use Rattle.phrases.proofs.TrialLineLaws.{trial_line}
use Rattle.phrases.proofs.words.Goals as goal

pub returns : goal.returns
unfolding words_text
returns c =
    let k = c.place_of-k.ensures.value ∙ ap place_of c.part.ensures in record {
      value = c.words_at.ensures ∙ ap (λ (n : ℕ). writes c.args.text (text_at n c.args.line.now)) k;
      same_line = same_line;
      tick_line = tick_line;
      trial_line = trial_line;
    }
