-- The desk and the line that it holds: its first 250 characters, which decide the answer as the whole line does.
-- Assumes nothing.
use Prim.Native.Nat.{ℕ, ◌-◌, min, ◌≤◌, ◌<◌}
use native.Mathlib.Omega.{arith}
use mathlib.Core.Bool.{Bool, true, false, cond}
use mathlib.Core.List.{List, [], ◌∷◌, ◌++◌}
use mathlib.Core.Path.{◌≡◌, refl, sym, ap, ◌∙◌}
use borrow.Author.Tests.{le-leb, lt-leb, ne_eqb}
use lib.Dec.{eqb}
use lib.ListN.{length, take, replicate, length-take, length-append}
use lib.Seq.{take_all, take-take, take-append_seam}
use Rattle.laws.proofs.Pick.{by_le, by_eq}
use Rattle.block.specs.Block.{front_of}
use Rattle.text.specs.Text.{holding, push_of}
use Rattle.text.specs.declared.Text.{Text}
use Rattle.text.proofs.TextLaws.{push_holding}
use Rattle.sentences.specs.Sentences.{question_text}
use Rattle.phrases.specs.Meanings.{word}
use Rattle.phrases.specs.Phrases.{unsilenced, overlong_text, words_text}
use Rattle.readout.specs.Readout.{is_block, block_text}
use Rattle.machine.specs.Calls.{chars}
use Rattle.wording.specs.declared.Desk.{Desk}
use Rattle.wording.specs.declared.Taken.{Taken}
use Rattle.wording.specs.Stations.{is_station, station_text}
use Rattle.wording.specs.Wording.{
  are_sums,
  answer_text,
  answer_of,
  desk_of,
  taken_by,
  finished_by,
  Desks,
  held_line,
  taken_of,
  finished_of,
}

-- ---- what a line is

pub overlong_is : (l : List ℕ) → 100 ≤ length l → answer_text l ≡ overlong_text l
unfolding answer_text
overlong_is l h = rw (le-leb 100 (length l) h) refl

pub station_is : (l : List ℕ) → length l < 100 → is_station l ≡ true → answer_text l ≡ station_text l
unfolding answer_text
station_is l h e = rw (lt-leb 100 (length l) h, e) refl

module _ (l : List ℕ) (h : length l < 100) (s : is_station l ≡ false) where
  pub block_is : is_block l ≡ true → answer_text l ≡ block_text l
  unfolding answer_text
  block_is e = rw (lt-leb 100 (length l) h, s, e) refl

  pub sums_are : is_block l ≡ false → are_sums l ≡ true → answer_text l ≡ chars "pulses " ++ l
  unfolding answer_text
  sums_are e q = rw (lt-leb 100 (length l) h, s, e, q) refl

  pub words_are : is_block l ≡ false → are_sums l ≡ false → answer_text l ≡ words_text l
  unfolding answer_text
  words_are e q = rw (lt-leb 100 (length l) h, s, e, q) refl

-- ---- the line that is held

front_seam : (a b : List ℕ) (n : ℕ) → n ≡ length a → front_of (a ++ b) n ≡ a
front_seam a b n e =
    ap (front_of (a ++ b)) e
    ∙ rw (le-leb (length a) (length (a ++ b)) (omega (arith, length-append a b))) (take-append_seam a b)

held_line_lem : (l : List ℕ) → held_line (desk_of l) ≡ take 250 l
held_line_lem l = front_seam (take 250 l) (replicate (250 - length l) 0) (min 250 (length l)) (sym (length-take 250 l))

-- All of it, where a text has room for it.
pub held_whole : (l : List ℕ) → length l ≤ 250 → held_line (desk_of l) ≡ l
held_whole l h = held_line_lem l ∙ take_all 250 l h

-- ---- the answer to it

-- Lines of 100 characters or more that begin alike are answered alike.
long_alike : (k l : List ℕ) → 100 ≤ length k → 100 ≤ length l → take 100 k ≡ take 100 l
    → answer_text k ≡ answer_text l
unfolding answer_text overlong_text
long_alike k l h j e =
    rw (le-leb 100 (length k) h, le-leb 100 (length l) j)
    (ap (λ (x : List ℕ). question_text (word 0 (unsilenced x))) e)

pub first_decide : (l : List ℕ) → answer_text (take 250 l) ≡ answer_text l
first_decide l =
    by_le {A = ℕ} (λ (x : ℕ). answer_text (take 250 l) ≡ answer_text l) (length l) 250 0 0
    (λ (h : length l ≤ 250). ap answer_text (take_all 250 l h))
    (λ (h : 250 < length l).
    let e : 100 ≤ length (take 250 l) = omega (arith, length-take 250 l) in
    long_alike (take 250 l) l e (omega arith) (take-take 100 250 l (omega arith)))

answer_held : (l : List ℕ) → answer_of (held_line (desk_of l)) ≡ answer_of l
answer_held l = ap (λ (x : List ℕ). x ++ (10 ∷ [])) (ap answer_text (held_line_lem l) ∙ first_decide l)

-- ---- a byte, and the end of the input

pub taken_held : (l : List ℕ) (b : ℕ) → taken_of (desk_of l) b ≡ taken_by l b
taken_held l b = when (eqb b 10)
  where
    told : Desk → List ℕ → Taken
    told d a = record { desk = d; text = holding a }

    when : (t : Bool)
        → cond t (told (desk_of []) (answer_of (held_line (desk_of l)))) (told (record { line = push_of (holding l) b }) [])
        ≡ cond t (told (desk_of []) (answer_of l)) (told (desk_of (l ++ (b ∷ []))) [])
    when true = ap (told (desk_of [])) (answer_held l)
    when false = ap (λ (x : Text). told (record { line = x }) []) (push_holding l b)

pub taken_desk : (d : Desk) (b : ℕ) (r : Taken) → r ≡ taken_of d b → Desks d (λ l. r ≡ taken_by l b)
taken_desk d b r e l q = e ∙ (ap (λ (x : Desk). taken_of x b) (sym q) ∙ taken_held l b)

-- A line has no character where the count of those held is 0.
none_held : (n : ℕ) → eqb (min 250 n) 0 ≡ eqb n 0
none_held n =
    by_eq {A = ℕ} (λ (x : ℕ). eqb (min 250 n) 0 ≡ eqb n 0) n 0 0 0
    (λ (h : n ≡ 0). ap (λ (k : ℕ). eqb (min 250 k) 0) h ∙ sym (ap (λ (k : ℕ). eqb k 0) h))
    (λ h. ne_eqb (min 250 n) 0 (λ (q : min 250 n ≡ 0). h (omega (arith, q))) ∙ sym (ne_eqb n 0 h))

pub finished_held : (l : List ℕ) → finished_of (desk_of l) ≡ finished_by l
finished_held l = λ i. cond (none_held (length l) i) (holding []) (holding (answer_held l i))

pub finished_desk : (d : Desk) (r : Text) → r ≡ finished_of d → Desks d (λ l. r ≡ finished_by l)
finished_desk d r e l q = e ∙ (ap finished_of (sym q) ∙ finished_held l)
