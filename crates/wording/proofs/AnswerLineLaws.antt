-- How many lines an answer has: a station's command that is converted one for each command value, and any other line
-- one. Assumes nothing.
use Prim.Native.Nat.{ℕ, ◌<◌}
use native.Mathlib.Omega.{arith}
use mathlib.Core.Bool.{Bool, true, false, cond}
use mathlib.Core.List.{List}
use mathlib.Core.Path.{◌≡◌, refl}
use borrow.Author.Tests.{lt-ltb, le-ltb, eqb-true}
use lib.Dec.{eqb}
use lib.ListN.{length}
use Rattle.laws.proofs.Pick.{by_le}
use Rattle.station.specs.Station.{number_of, values_in}
use Rattle.station.proofs.WritableLaws.{writable}
use Rattle.text.specs.Parts.{parts}
use Rattle.sentences.specs.Sentences.{turned_text}
use Rattle.readout.specs.Readout.{is_block}
use Rattle.wording.specs.Promises.{lines_to, AnswerLines}
use Rattle.wording.specs.Stations.{is_station, command_in, lines_text, station_text}
use Rattle.wording.specs.Wording.{are_sums, answer_text}
use Rattle.wording.proofs.OneLineLaws.{is_line, Clean}
use Rattle.wording.proofs.ReplyLineLaws.{block}
use Rattle.wording.proofs.StationLineLaws.{clean_marks, marks_clean, lines_parts}
use Rattle.wording.proofs.WordLineLaws.{turned, said, overlong}
use Rattle.wording.proofs.WordingLaws.{overlong_is, station_is, block_is, sums_are, words_are}

-- A text without a line feed is one line.
one_part : (x : List ℕ) → Clean x → parts 10 x ≡ 1
one_part x h = omega (arith, clean_marks x h)

-- What is answered to a command, by its number.
command_lines : (l : List ℕ) (t : Bool) → eqb (number_of (command_in l)) 0 ≡ t
    → parts 10 (cond t (lines_text (values_in (command_in l))) (turned_text (number_of (command_in l))))
    ≡ cond t (length (values_in (command_in l))) 1
command_lines l true e =
    lines_parts (values_in (command_in l)) ((writable (command_in l)).some (eqb-true (number_of (command_in l)) 0 e))
command_lines l false e = one_part (turned_text (number_of (command_in l))) (turned (number_of (command_in l)))

module _ (l : List ℕ) (c : Clean l) (h : length l < 100) where
  -- A line that is neither over-long nor a command, by what it is.
  plain_line : is_station l ≡ false → (b s : Bool) → is_block l ≡ b → are_sums l ≡ s → Clean (answer_text l)
  unfolding is_line
  plain_line n true s p q = rw (block_is l h n p) (block l)
  plain_line n false true p q = rw (sums_are l h n p q) c
  plain_line n false false p q = rw (words_are l h n p q) (said l)

  short_lines : (t : Bool) → is_station l ≡ t → parts 10 (answer_text l) ≡ lines_to l
  unfolding station_text
  short_lines true e =
      rw (station_is l h e, lt-ltb (length l) 100 h, e) (command_lines l (eqb (number_of (command_in l)) 0) refl)
  short_lines false e =
      rw (lt-ltb (length l) 100 h, e)
      (one_part (answer_text l) (plain_line e (is_block l) (are_sums l) refl refl))

pub answer_lines : AnswerLines
answer_lines l p =
    by_le {A = ℕ} (λ (x : ℕ). parts 10 (answer_text l) ≡ lines_to l) 100 (length l) 0 0
    (λ h. rw (overlong_is l h, le-ltb (length l) 100 h) (one_part _ (overlong l)))
    (λ h. short_lines l (marks_clean l (omega (arith, p))) h (is_station l) refl)
