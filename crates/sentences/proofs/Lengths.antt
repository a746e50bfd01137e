-- How long what the desk says in fixed words is at most: each row of a table by a computed test. Assumes nothing.
use Prim.Native.Nat.{ℕ, ◌≤◌, ◌<◌}
use native.Mathlib.Omega.{arith}
use mathlib.Core.Bool.{true}
use mathlib.Core.List.{List, ◌++◌}
use mathlib.Core.Path.{◌≡◌, refl}
use lib.ListN.{length}
use Rattle.text.specs.Decimal.{decimal_of}
use Rattle.text.specs.Parts.{part}
use Rattle.text.proofs.DecimalLaws.{decimal_ten}
use Rattle.text.proofs.LengthLaws.{within, part_within, joined_length}
use Rattle.machine.specs.Calls.{chars}
use Rattle.sentences.specs.Sentences.{
  sentences,
  states,
  forms,
  closest,
  sentence_text,
  turned_text,
  state_text,
  question_text,
}

sentences_within : within 10 70 70 sentences ≡ true
unfolding within sentences
sentences_within = refl

states_within : within 10 40 40 states ≡ true
unfolding within states
states_within = refl

forms_within : within 10 198 198 forms ≡ true
unfolding within forms
forms_within = refl

-- A sentence; none has no bytes.
pub sentence_length : (n : ℕ) → length (sentence_text n) ≤ 70
sentence_length n = part_within 10 70 70 n sentences (omega arith) sentences_within

-- What a status says at a place.
pub state_length : (k : ℕ) → length (state_text k) ≤ 40
state_length k = part_within 10 40 40 k states (omega arith) states_within

-- A number and its sentence.
pub turned_length : (n : ℕ) → n < 4294967296 → length (turned_text n) ≤ 100
turned_length n h =
    let l : length (turned_text n) ≤ 97 =
    joined_length (chars "turned away by ") (decimal_of n ++ (chars ": " ++ sentence_text n)) 15 82 (omega arith)
    (joined_length (decimal_of n) (chars ": " ++ sentence_text n) 10 72 (decimal_ten n h)
    (joined_length (chars ": ") (sentence_text n) 2 70 (omega arith) (sentence_length n))) in
    omega (arith, l)

-- A question mark and the nearest form.
pub question_length : (w : List ℕ) → length (question_text w) ≤ 200
question_length w =
    joined_length (chars "? ") (part 10 (closest 23 w) forms) 2 198 (omega arith)
    (part_within 10 198 198 (closest 23 w) forms (omega arith) forms_within)
