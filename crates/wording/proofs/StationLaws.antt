-- Which lines are no commands of a station: reply blocks, and words that mean something. Assumes nothing.
use Rattle.std.proofs.Common.{Ok, Err}
use Prim.Native.Nat.{ℕ, zero, suc}
use native.Mathlib.Omega.{arith}
use mathlib.Core.Bool.{Bool, true, false, cond, false≢true}
use mathlib.Core.List.{List}
use mathlib.Core.Path.{◌≡◌, refl, sym, ap, ◌∙◌}
use borrow.Author.Tests.{ne_eqb}
use lib.ListN.{length, drop}
use Rattle.line.specs.declared.command.Command.{Command}
use Rattle.receiver.specs.Receiver.{before, before_end}
use Rattle.reader.specs.Reader.{Figures}
use Rattle.reader.specs.Blocks.{Says}
use Rattle.text.specs.Parts.{behind, part, same}
use Rattle.sentences.specs.Sentences.{keywords, word_count, place_in, place_of}
use Rattle.phrases.specs.Meanings.{Meant, word, meant_at, meant_by}
use Rattle.phrases.specs.Phrases.{is_silent, unsilenced, body_of}
use Rattle.phrases.proofs.FirstWordLaws.{named_first, same_equal, silent_first}
use Rattle.phrases.proofs.NoCommandLaws.{meant_none}
use Rattle.readout.proofs.ReplyLaws.{block_long}
use Rattle.wording.specs.Stations.{is_name, is_station}

-- A test that is not true is false.
not_true : (t : Bool) → (t ≡ true → ⊥) → t ≡ false
not_true true h = absurd (h refl)
not_true false h = refl

-- ---- a reply block

-- A name has three characters.
name_three : (w : List ℕ) → (length w ≡ 3 → ⊥) → is_name w ≡ false
name_three w h = rw (ne_eqb (length w) 3 h)

pub block_none : (s : List ℕ) (f : Figures) → Says s f → is_station (before_end s) ≡ false
unfolding is_station
block_none s f b = name_three (word 0 (before_end s)) (block_long s f b)

-- ---- a name is no word of the table

-- Whether none of the first n words is three capitals: a test that the checker computes.
unfoldable unnamed : ℕ → Bool
unnamed zero = true
unnamed (suc n) = cond (is_name (part 10 n keywords)) false (unnamed n)

all_unnamed : unnamed word_count ≡ true
unfolding unnamed before behind keywords
all_unnamed = refl

no_place : (w : List ℕ) → is_name w ≡ true → (n : ℕ) → unnamed n ≡ true → place_in n w ≡ word_count
unfolding unnamed place_in
no_place w h zero e = refl
no_place w h (suc n) e = when (is_name (part 10 n keywords)) refl (λ r. no_place w h n r) e
  where
    differs : is_name (part 10 n keywords) ≡ false → same (part 10 n keywords) w ≡ false
    differs q =
        not_true (same (part 10 n keywords) w)
        (λ (s : same (part 10 n keywords) w ≡ true).
        false≢true (sym q ∙ (ap is_name (same_equal (part 10 n keywords) w s) ∙ h)))

    when : (t : Bool) → is_name (part 10 n keywords) ≡ t → (unnamed n ≡ true → place_in n w ≡ word_count)
        → cond t false (unnamed n) ≡ true
        → cond (same (part 10 n keywords) w) n (place_in n w) ≡ word_count
    when true q f r = absurd (false≢true r)
    when false q f r = rw (differs q) (f r)

station_place : (l : List ℕ) → is_station l ≡ true → place_of (word 0 l) ≡ word_count
unfolding is_station
station_place l h = no_place (word 0 l) h word_count all_unnamed

-- A line whose first word stands in the table.
pub placed_none : (l : List ℕ) (k : ℕ) → place_of (word 0 l) ≡ k → (k ≡ word_count → ⊥) → is_station l ≡ false
placed_none l k e h =
    not_true (is_station l) (λ (q : is_station l ≡ true). h (sym e ∙ station_place l q))

-- ---- words that mean a command

abbrev is_command : Meant → Bool
is_command (Err n) = false
is_command (Ok c) = true

module _ (l : List ℕ) (c : Command) (e : meant_by (body_of l) ≡ Ok c) where
  -- `silent` has six letters; else the first word is that of the form.
  by_silent : (t : Bool) → is_silent l ≡ t → is_station l ≡ true → ⊥
  unfolding is_station meant_by
  by_silent true s h = false≢true (sym (ap is_name (silent_first l s)) ∙ h)
  by_silent false s h =
      let p : word 0 (body_of l) ≡ word 0 l =
      named_first (unsilenced l) ∙ ap (λ (t : Bool). word 0 (cond t (drop 7 l) l)) s in
      let k : place_of (word 0 (body_of l)) ≡ word_count = ap place_of p ∙ station_place l h in
      false≢true
      (ap is_command (sym (meant_none word_count (omega arith) (body_of l))
      ∙ (ap (λ (n : ℕ). meant_at n (body_of l)) (sym k) ∙ e)))

  pub command_none : is_station l ≡ false
  command_none = not_true (is_station l) (by_silent (is_silent l) refl)
