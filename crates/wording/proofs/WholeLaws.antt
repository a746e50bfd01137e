-- No answer is cut, and so a desk prints to an input the answer to each of its lines, whole and in order. Assumes
-- nothing.
use Prim.Native.Nat.{ℕ, ◌≤◌, ◌<◌}
use native.Mathlib.Omega.{arith}
use mathlib.Core.Bool.{Bool, true, false, cond}
use mathlib.Core.List.{List, [], ◌∷◌, ◌++◌}
use mathlib.Core.Path.{◌≡◌, refl, ap, ◌∙◌}
use lib.Dec.{eqb}
use lib.ListN.{length, length-append}
use Rattle.laws.proofs.Pick.{by_bool, by_le}
use Rattle.machine.specs.Calls.{chars}
use Rattle.text.specs.Text.{holding}
use Rattle.station.specs.Station.{number_of, values_in}
use Rattle.station.proofs.WritableLaws.{writable}
use Rattle.sentences.specs.Sentences.{turned_text}
use Rattle.sentences.proofs.Lengths.{turned_length}
use Rattle.readout.specs.Readout.{is_block}
use Rattle.readout.proofs.Lengths.{fits}
use Rattle.wording.specs.declared.Desk.{Desk}
use Rattle.wording.specs.declared.Taken.{Taken}
use Rattle.wording.specs.Wording.{are_sums, answer_text, answer_of, desk_of}
use Rattle.wording.specs.Stations.{is_station, command_in, lines_text, station_text}
use Rattle.wording.specs.Promises.{Whole, bytes_of, prints, answers, AnswersInOrder}
use Rattle.wording.proofs.WordingLaws.{
  held_whole,
  overlong_is,
  station_is,
  block_is,
  sums_are,
  words_are,
  taken_held,
  finished_held,
}
use Rattle.wording.proofs.StationLineLaws.{lines_most}
use Rattle.wording.proofs.WordsLengths.{words_most, overlong_most}

-- ---- no answer is cut

-- A command: six lines at most, or a number with its sentence.
station_most : (l : List ℕ) → length (station_text l) ≤ 249
unfolding station_text
station_most l =
    let m = command_in l in
    let w = writable m in
    by_bool (λ (x : List ℕ). length x ≤ 249) (eqb (number_of m) 0) (lines_text (values_in m)) (turned_text (number_of m))
    (λ _. omega (arith, lines_most (values_in m) w.lined, w.most))
    (λ _. omega (arith, turned_length (number_of m) (omega (arith, w.number))))

-- A line under 100 characters, by what it is.
short_most : (l : List ℕ) → length l < 100 → (c b s : Bool) → is_station l ≡ c → is_block l ≡ b → are_sums l ≡ s
    → length (answer_text l) ≤ 249
short_most l h true b s e p q = rw (station_is l h e) (station_most l)
short_most l h false true s e p q = rw (block_is l h e p) (omega (arith, fits.most l))
short_most l h false false true e p q =
    rw (sums_are l h e p q) (omega (arith, length-append (chars "pulses ") l))
short_most l h false false false e p q = rw (words_are l h e p q) (omega (arith, words_most l))

text_most : (l : List ℕ) → length (answer_text l) ≤ 249
text_most l =
    by_le {A = ℕ} (λ (x : ℕ). length (answer_text l) ≤ 249) 100 (length l) 0 0
    (λ (h : 100 ≤ length l). rw (overlong_is l h) (omega (arith, overlong_most l)))
    (λ (h : length l < 100). short_most l h (is_station l) (is_block l) (are_sums l) refl refl refl)

pub whole : Whole
whole l = omega (arith, length-append (answer_text l) (10 ∷ []), text_most l)

-- ---- a whole input

-- What is told with an answer.
abbrev told : Desk → List ℕ → Taken
told d a = record { desk = d; text = holding a }

-- A desk that holds l prints what is answered to l and the lines behind it.
prints_are : (bs l : List ℕ) → prints (desk_of l) bs ≡ answers l bs
unfolding prints answers
prints_are [] l = ap bytes_of (finished_held l) ∙ when (eqb (length l) 0)
  where
    when : (t : Bool) → bytes_of (cond t (holding []) (holding (answer_of l))) ≡ cond t [] (answer_of l)
    when true = held_whole [] (omega arith)
    when false = held_whole (answer_of l) (whole l)
prints_are (b ∷ bs) l =
    ap (λ (r : Taken). bytes_of r.text ++ prints r.desk bs) (taken_held l b)
    ∙ when (eqb b 10) (prints_are bs []) (prints_are bs (l ++ (b ∷ [])))
  where
    when : (t : Bool) → prints (desk_of []) bs ≡ answers [] bs
        → prints (desk_of (l ++ (b ∷ []))) bs ≡ answers (l ++ (b ∷ [])) bs
        → bytes_of (cond t (told (desk_of []) (answer_of l)) (told (desk_of (l ++ (b ∷ []))) [])).text
        ++ prints (cond t (told (desk_of []) (answer_of l)) (told (desk_of (l ++ (b ∷ []))) [])).desk bs
        ≡ cond t (answer_of l ++ answers [] bs) (answers (l ++ (b ∷ [])) bs)
    when true p q = λ i. held_whole (answer_of l) (whole l) i ++ p i
    when false p q = λ i. held_whole [] (omega arith) i ++ q i

pub answers_are : AnswersInOrder
answers_are bs = prints_are bs []
