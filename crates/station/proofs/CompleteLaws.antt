-- A command in one of the format lines says what it spells: its words are those that were put into it. Assumes nothing.
use Prim.Native.Nat.{ℕ, ◌<◌}
use native.Mathlib.Omega.{arith}
use mathlib.Core.Bool.{Bool, true, false, cond, ◌&&◌, ◌||◌}
use mathlib.Core.List.{List, [], ◌∷◌, ◌++◌}
use mathlib.Core.Path.{◌≡◌, refl, sym, ap, ◌∙◌}
use lib.Dec.{eqb}
use lib.IntN.{pos}
use lib.ListN.{get_or, drop}
use Rattle.receiver.specs.Receiver.{before}
use Rattle.text.specs.Parts.{behind, marks, same}
use Rattle.machine.specs.Calls.{chars}
use Rattle.station.specs.Forms.{
  Form,
  other,
  speed,
  move,
  words,
  word,
  is_number,
  number_of,
  is_distance,
  distance_of,
  is_x,
  is_y,
  back,
  form_as,
  form_of,
}
use Rattle.station.specs.Spelled.{ended, gap, Spells, spd_x, spd_y, inc_x, inc_y, lni, sst_x, sst_y, sst_both}
use Rattle.station.proofs.MarkLaws.{before_joined, Two, Three, two, three}
use Rattle.station.proofs.FreeLaws.{number_free, distance_free, join_free}

-- A text with its end, by its name.
named : (t n : List ℕ) → marks 0 t ≡ 0 → word 0 t ≡ n → form_of (ended t) ≡ form_as n t
unfolding form_of same marks
named t n h e =
    let p : Two 0 (ended t) t [] = two 0 t [] h refl in
    (λ i. cond (eqb (p.count i) 2 && same (p.second i) []) (form_as (word 0 (p.first i)) (p.first i)) other)
    ∙ ap (λ (x : List ℕ). form_as x t) e

-- ---- SPD and INC: a name, an axis a and a number w

abbrev line : List ℕ → List ℕ → List ℕ → List ℕ
line n a w = n ++ (32 ∷ (a ++ (32 ∷ w)))

module _ (a w : List ℕ) (f : marks 32 a ≡ 0) (g : marks 0 a ≡ 0) where
  spd_words : is_number w ≡ true → Three 32 (line (chars "SPD") a w) (chars "SPD") a w
  unfolding marks
  spd_words h = three 32 (chars "SPD") a w refl f (number_free 32 w (omega arith) h)

  inc_words : is_distance w ≡ true → Three 32 (line (chars "INC") a w) (chars "INC") a w
  unfolding marks
  inc_words h = three 32 (chars "INC") a w refl f (distance_free 32 w (omega arith) h)

  -- No 00 in it.
  line_free : (n : List ℕ) → marks 0 n ≡ 0 → marks 0 w ≡ 0 → marks 0 (line n a w) ≡ 0
  unfolding marks
  line_free n e h =
      join_free 0 n (32 ∷ (a ++ (32 ∷ w))) e
      (join_free 0 (32 ∷ []) (a ++ (32 ∷ w)) refl (join_free 0 a (32 ∷ w) g (join_free 0 (32 ∷ []) w refl h)))

  spd_says : is_x a || is_y a ≡ true → is_number w ≡ true → form_of (ended (line (chars "SPD") a w)) ≡ speed (number_of w)
  unfolding same marks
  spd_says q h =
      let p = spd_words h in
      let z = line_free (chars "SPD") refl (number_free 0 w (omega arith) h) in
      named (line (chars "SPD") a w) (chars "SPD") z p.first
      ∙ (λ i. cond (eqb (p.count i) 3 && ((is_x (p.second i) || is_y (p.second i)) && is_number (p.third i)))
      (speed (number_of (p.third i))) other)
      ∙ rw (q, h)

  inc_says : is_distance w ≡ true
      → form_of (ended (line (chars "INC") a w))
      ≡ cond (is_x a) (move (distance_of w) (pos 0)) (cond (is_y a) (move (pos 0) (distance_of w)) other)
  unfolding same marks
  inc_says h =
      let p = inc_words h in
      let z = line_free (chars "INC") refl (distance_free 0 w (omega arith) h) in
      named (line (chars "INC") a w) (chars "INC") z p.first
      ∙ (λ i. cond (eqb (p.count i) 3 && is_distance (p.third i))
      (cond (is_x (p.second i)) (move (distance_of (p.third i)) (pos 0))
      (cond (is_y (p.second i)) (move (pos 0) (distance_of (p.third i)))
      other))
      other)
      ∙ rw h

-- ---- LNI: distances v and w

-- What it says, by the number of parts, what stands before the comma and what behind it and a space.
abbrev pair_by : ℕ → List ℕ → List ℕ → Form
pair_by n a b =
    cond (eqb n 2 && ((eqb (words a) 3 && (is_x (word 1 a) && is_distance (word 2 a)))
    && (eqb (words b) 2 && (is_y (word 0 b) && is_distance (word 1 b)))))
    (move (distance_of (word 2 a)) (distance_of (word 1 b))) other

abbrev unspaced : List ℕ → List ℕ
unspaced b = cond (eqb (get_or b 0 0) 32) (drop 1 b) b

module _ (v w : List ℕ) (f : is_distance v ≡ true) (h : is_distance w ≡ true) where
  -- What stands before the comma, and behind it.
  abbrev head : List ℕ
  head = chars "LNI X " ++ v

  abbrev tail : List ℕ
  tail = chars "Y " ++ w

  abbrev pair : Bool → List ℕ
  pair s = head ++ (44 ∷ (gap s ++ tail))

  head_free : (m : ℕ) → m < 45 → marks m (chars "LNI X ") ≡ 0 → marks m head ≡ 0
  head_free m l e = join_free m (chars "LNI X ") v e (distance_free m v l f)

  tail_free : (m : ℕ) (s : Bool) → m < 45 → marks m (gap s) ≡ 0 → marks m (chars "Y ") ≡ 0 → marks m (gap s ++ tail) ≡ 0
  tail_free m s l d e = join_free m (gap s) tail d (join_free m (chars "Y ") w e (distance_free m w l h))

  gap_free : (m : ℕ) (s : Bool) → marks m (32 ∷ []) ≡ 0 → marks m (gap s) ≡ 0
  unfolding marks
  gap_free m true e = e
  gap_free m false e = refl

  pair_parts : (s : Bool) → Two 44 (pair s) head (gap s ++ tail)
  unfolding marks
  pair_parts s =
      two 44 head (gap s ++ tail) (head_free 44 (omega arith) refl)
      (tail_free 44 s (omega arith) (gap_free 44 s refl) refl)

  pair_free : (s : Bool) → marks 0 (pair s) ≡ 0
  unfolding marks
  pair_free s =
      join_free 0 head (44 ∷ (gap s ++ tail)) (head_free 0 (omega arith) refl)
      (join_free 0 (44 ∷ []) (gap s ++ tail) refl (tail_free 0 s (omega arith) (gap_free 0 s refl) refl))

  head_words : Three 32 head (chars "LNI") (chars "X") v
  unfolding marks
  head_words = three 32 (chars "LNI") (chars "X") v refl refl (distance_free 32 v (omega arith) f)

  tail_words : Two 32 tail (chars "Y") w
  unfolding marks
  tail_words = two 32 (chars "Y") w refl (distance_free 32 w (omega arith) h)

  -- A space behind the comma is passed.
  pair_back : (s : Bool) → back (pair s) ≡ tail
  pair_back s = ap unspaced (pair_parts s).second ∙ gone s
    where
      gone : (s : Bool) → unspaced (gap s ++ tail) ≡ tail
      gone true = refl
      gone false = refl

  pair_name : (s : Bool) → word 0 (pair s) ≡ chars "LNI"
  unfolding behind marks
  pair_name s = before_joined 32 (88 ∷ 32 ∷ (v ++ (44 ∷ (gap s ++ tail)))) (chars "LNI") refl

  pair_says : (s : Bool) → form_of (ended (pair s)) ≡ move (distance_of v) (distance_of w)
  unfolding same marks
  pair_says s =
      let p = pair_parts s in
      let q = head_words in
      let r = tail_words in
      named (pair s) (chars "LNI") (pair_free s) (pair_name s)
      ∙ (λ i. pair_by (p.count i) (p.first i) (pair_back s i))
      ∙ (λ i. cond (eqb 2 2 && ((eqb (q.count i) 3 && (is_x (q.second i) && is_distance (q.third i)))
      && (eqb (r.count i) 2 && (is_y (r.first i) && is_distance (r.second i)))))
      (move (distance_of (q.third i)) (distance_of (r.second i))) other)
      ∙ rw (f, h)

-- ---- All of them

pub complete : (l : List ℕ) (f : Form) → Spells l f → form_of l ≡ f
unfolding before behind marks same form_of
complete l f (spd_x w h e g) = ap form_of e ∙ spd_says (chars "X") w refl refl refl h ∙ sym g
complete l f (spd_y w h e g) = ap form_of e ∙ spd_says (chars "Y") w refl refl refl h ∙ sym g
complete l f (inc_x w h e g) = ap form_of e ∙ inc_says (chars "X") w refl refl h ∙ sym g
complete l f (inc_y w h e g) = ap form_of e ∙ inc_says (chars "Y") w refl refl h ∙ sym g
complete l f (lni s v w c h e g) = ap form_of e ∙ pair_says v w c h s ∙ sym g
complete l f (sst_x e g) = ap form_of e ∙ sym g
complete l f (sst_y e g) = ap form_of e ∙ sym g
complete l f (sst_both true e g) = ap form_of e ∙ sym g
complete l f (sst_both false e g) = ap form_of e ∙ sym g
