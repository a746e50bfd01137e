-- The trials of docs/PROTOCOL.md, computed; but for the digits of 1,000,000, which are more than the checker computes.
-- Assumes nothing.
use Prim.Native.Nat.{ℕ}
use native.Mathlib.Omega.{arith}
use mathlib.Core.List.{List, [], ◌∷◌, ◌++◌}
use mathlib.Core.Path.{◌≡◌, refl, ap, ◌∙◌}
use Rattle.digits.specs.Digits.{six_of}
use Rattle.machine.specs.Calls.{chars}
use Rattle.receiver.specs.Receiver.{before}
use Rattle.text.specs.Decimal.{spell, decimal_of}
use Rattle.text.specs.Parts.{behind, marks, same}
use Rattle.text.proofs.DecimalLaws.{decimal_more}
use Rattle.numerals.specs.Numerals.{read_on}
use Rattle.sentences.specs.Sentences.{sentences, keywords, place_in}
use Rattle.phrases.specs.Phrases.{trial_line_text, words_text}
use Rattle.wording.specs.Stations.{is_station}
use Rattle.wording.specs.Wording.{answer_text}
use Rattle.wording.specs.Page.{TrialRows}

-- ---- The digits of 1,000,000

thousand : decimal_of 1000 ≡ chars "1000"
unfolding spell decimal_of
thousand = refl

nought : (n : ℕ) (ds : List ℕ) → decimal_of n ≡ ds → decimal_of n ++ (48 ∷ []) ≡ ds ++ (48 ∷ [])
nought n ds e = ap (λ (x : List ℕ). x ++ (48 ∷ [])) e

million : decimal_of 1000000 ≡ chars "1000000"
million =
    decimal_more 1000000 (omega arith)
    ∙ nought 100000 (chars "100000")
    (decimal_more 100000 (omega arith)
    ∙ nought 10000 (chars "10000") (decimal_more 10000 (omega arith) ∙ nought 1000 (chars "1000") thousand))

-- ---- The rows

alone_text : answer_text (chars "trial 0") ≡ trial_line_text 0 1000000 0
unfolding before behind marks same read_on keywords place_in words_text is_station answer_text
alone_text = refl

alone_ends : chars "D " ++ (decimal_of 0 ++ (chars " " ++ (chars "1000000" ++ (chars " " ++ six_of 0))))
    ≡ chars "D 0 1000000 000000"
unfolding six_of spell decimal_of
alone_ends = refl

alone_row : answer_text (chars "trial 0") ≡ chars "D 0 1000000 000000"
alone_row =
    alone_text
    ∙ (ap (λ (x : List ℕ). chars "D " ++ (decimal_of 0 ++ (chars " " ++ (x ++ (chars " " ++ six_of 0))))) million
    ∙ alone_ends)

pub trials : TrialRows
unfolding six_of before behind marks same spell decimal_of read_on sentences keywords place_in words_text is_station
    answer_text
trials = record {
  alone = alone_row;
  with_ticks = refl;
  with_word = refl;
  over_word = refl;
  over_ticks = refl;
  over_master = refl;
}
