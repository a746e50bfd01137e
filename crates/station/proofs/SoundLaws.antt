-- A command that says something is in one of the format lines: it is made of its parts, and these are what the tests
-- say of them. Assumes nothing.
use Prim.Native.Nat.{ℕ}
use Prim.Native.String.{String}
use mathlib.Core.Bool.{Bool, true, false, ◌&&◌, ◌||◌, false≢true}
use mathlib.Core.List.{List, [], ◌∷◌, ◌++◌}
use mathlib.Core.Path.{◌≡◌, refl, sym, ap, ◌∙◌}
use borrow.Author.Tests.{eqb-true}
use lib.Dec.{eqb}
use lib.IntN.{pos}
use Rattle.laws.proofs.Pick.{by_bool}
use Rattle.laws.proofs.Tests.{both, either}
use Rattle.text.specs.Parts.{part, parts, same}
use Rattle.machine.specs.Calls.{chars}
use Rattle.station.specs.Forms.{
  Form,
  other,
  speed,
  move,
  stop,
  text_of,
  is_ended,
  words,
  word,
  name_of,
  is_number,
  number_of,
  is_distance,
  distance_of,
  is_x,
  is_y,
  speed_form,
  single_form,
  front,
  back,
  is_pair,
  pair_form,
  stop_form,
  form_as,
  form_of,
}
use Rattle.station.specs.Station.{is_other}
use Rattle.station.specs.Spelled.{ended, Spells, spd_x, spd_y, inc_x, inc_y, lni, sst_x, sst_y, sst_both}
use Rattle.station.specs.Held.{is_point}
use Rattle.station.proofs.MarkLaws.{same_equal, of_two, of_three}
use Rattle.station.proofs.PairLaws.{is_spaced, of_pair}

-- ---- A command with its end

of_ended : (l : List ℕ) → is_ended l ≡ true → l ≡ ended (text_of l)
of_ended l h =
    let c = both (eqb (parts 0 l) 2) (same (part 0 1 l) []) h in
    of_two 0 l (eqb-true (parts 0 l) 2 c.0)
    ∙ ap (λ (x : List ℕ). text_of l ++ (0 ∷ x)) (same_equal (part 0 1 l) [] c.1)

-- ---- A text t, whose command is l

-- What it says is spelled so.
abbrev Said : List ℕ → Form → Type 0
Said l f = is_other f ≡ false → Spells l f

none : {l : List ℕ} → Said l other
none h = absurd (false≢true (sym h))

module _ (l t : List ℕ) (e : l ≡ ended t) where
  abbrev Says : Form → Type 0
  Says f = Said l f

  -- A text, and a name, that is a given one.
  abbrev is : String → Bool
  is x = same t (chars x)

  text : (x : String) → is x ≡ true → l ≡ ended (chars x)
  text x h = e ∙ ap ended (same_equal t (chars x) h)

  abbrev is_name : String → Bool
  is_name x = same (word 0 t) (chars x)

  named : (x : String) → is_name x ≡ true → word 0 t ≡ chars x
  named x h = same_equal (word 0 t) (chars x) h

  -- Three words, of which the first two are known.
  of_words : (n a : List ℕ) → eqb (words t) 3 ≡ true → word 0 t ≡ n → same (word 1 t) a ≡ true
      → l ≡ ended (n ++ (32 ∷ (a ++ (32 ∷ word 2 t))))
  of_words n a c p q =
      e ∙ ap ended (of_three 32 t (eqb-true (words t) 3 c)
      ∙ (λ i. p i ++ (32 ∷ (same_equal (word 1 t) a q i ++ (32 ∷ word 2 t)))))

  spd_sound : word 0 t ≡ chars "SPD" → Says (speed_form t)
  spd_sound n =
      by_bool Says _ (speed (number_of (word 2 t))) other
      (λ h _.
      let c = both (eqb (words t) 3) ((is_x (word 1 t) || is_y (word 1 t)) && is_number (word 2 t)) h in
      let d = both (is_x (word 1 t) || is_y (word 1 t)) (is_number (word 2 t)) c.1 in
      either (is_x (word 1 t)) (is_y (word 1 t)) d.0
      (λ x. spd_x (word 2 t) d.1 (of_words (chars "SPD") (chars "X") c.0 n x) refl)
      (λ _ y. spd_y (word 2 t) d.1 (of_words (chars "SPD") (chars "Y") c.0 n y) refl))
      (λ _. none)

  inc_sound : word 0 t ≡ chars "INC" → Says (single_form t)
  inc_sound n =
      by_bool Says (eqb (words t) 3 && is_distance (word 2 t)) _ other
      (λ h.
      let c = both (eqb (words t) 3) (is_distance (word 2 t)) h in
      by_bool Says (is_x (word 1 t)) (move (distance_of (word 2 t)) (pos 0)) _
      (λ x _. inc_x (word 2 t) c.1 (of_words (chars "INC") (chars "X") c.0 n x) refl)
      (λ _. by_bool Says (is_y (word 1 t)) (move (pos 0) (distance_of (word 2 t))) other
      (λ y _. inc_y (word 2 t) c.1 (of_words (chars "INC") (chars "Y") c.0 n y) refl)
      (λ _. none)))
      (λ _. none)

  -- ---- LNI

  abbrev v : List ℕ
  v = word 2 (front t)

  abbrev w : List ℕ
  w = word 1 (back t)

  lni_sound : word 0 t ≡ chars "LNI" → Says (pair_form t)
  lni_sound n =
      by_bool Says (is_pair t) (move (distance_of v) (distance_of w)) other
      (λ h _.
      let a = both (eqb (parts 44 t) 2) (is_point 1 (chars "X") (front t) && is_point 0 (chars "Y") (back t)) h in
      let p = both (is_point 1 (chars "X") (front t)) (is_point 0 (chars "Y") (back t)) a.1 in
      let f = both (eqb (words (front t)) 3) (is_x (word 1 (front t)) && is_distance v) p.0 in
      let x = both (is_x (word 1 (front t))) (is_distance v) f.1 in
      let b = both (eqb (words (back t)) 2) (is_y (word 0 (back t)) && is_distance w) p.1 in
      let y = both (is_y (word 0 (back t))) (is_distance w) b.1 in
      lni (is_spaced t) v w x.1 y.1
      (e ∙ ap ended (of_pair t n (eqb-true (parts 44 t) 2 a.0) (eqb-true (words (front t)) 3 f.0) x.0
      (eqb-true (words (back t)) 2 b.0) y.0))
      refl)
      (λ _. none)

  -- ---- SST

  sst_sound : Says (stop_form t)
  sst_sound =
      by_bool Says _ stop other
      (λ h _.
      either (is "SST X") (is "SST Y" || (is "SST X,Y" || is "SST X, Y")) h (λ x. sst_x (text "SST X" x) refl)
      (λ _ i. either (is "SST Y") (is "SST X,Y" || is "SST X, Y") i (λ x. sst_y (text "SST Y" x) refl)
      (λ _ j. either (is "SST X,Y") (is "SST X, Y") j (λ x. sst_both false (text "SST X,Y" x) refl)
      (λ _ x. sst_both true (text "SST X, Y" x) refl))))
      (λ _. none)

  -- ---- By its name

  name_sound : Says (form_as (word 0 t) t)
  name_sound =
      by_bool Says (is_name "SPD") (speed_form t) _ (λ n. spd_sound (named "SPD" n))
      (λ _. by_bool Says (is_name "INC") (single_form t) _ (λ n. inc_sound (named "INC" n))
      (λ _. by_bool Says (is_name "LNI") (pair_form t) _ (λ n. lni_sound (named "LNI" n))
      (λ _. by_bool Says (is_name "SST") (stop_form t) other (λ _. sst_sound) (λ _. none))))

pub sound : (l : List ℕ) → is_other (form_of l) ≡ false → Spells l (form_of l)
unfolding form_of
sound l =
    by_bool (Said l) (is_ended l) (form_as (name_of l) (text_of l)) other
    (λ h. name_sound l (text_of l) (of_ended l h)) (λ _. none)
