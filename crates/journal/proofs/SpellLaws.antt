-- Laws of numbers spelled one behind the other, as the code counts and writes them. Assumes nothing.
use Rattle.std.proofs.Common.{sum, map}
use Rattle.std.specs.List.{sum_by}
use Rattle.std.proofs.lemmas.List.Sums.{sum_by-cons, sum-map}
use Prim.Native.Nat.{ℕ, ◌+◌, ◌≤◌, ◌<◌}
use mathlib.Core.List.{List, [], ◌∷◌, ◌++◌, append_assoc, append-nil}
use mathlib.Core.Path.{◌≡◌, refl, sym, ap, ◌∙◌}
use native.Mathlib.Numerals.{add-one}
use native.Mathlib.Omega.{arith}
use lib.ListN.{length, get_or, take, drop, length-append, take-append-drop}
use lib.Seq.{take-suc, take_all}
use Rattle.block.specs.Block.{put}
use Rattle.block.proofs.Places.{put_none, put_put, length_put}
use Rattle.journal.specs.Numbers.{spelling}
use Rattle.journal.specs.Entries.{spell_all}

-- ---- spelled one behind the other

pub spell_append : (ns ms : List ℕ) → spell_all (ns ++ ms) ≡ spell_all ns ++ spell_all ms
unfolding spell_all
spell_append [] ms = refl
spell_append (n ∷ ns) ms = rw (spell_append ns ms) (sym (append_assoc (spelling n) (spell_all ns) (spell_all ms)))

pub spell_next : (ns : List ℕ) (k : ℕ) → k < length ns
    → spell_all (take (k + 1) ns) ≡ spell_all (take k ns) ++ spelling (get_or ns k 0)
unfolding spell_all
spell_next ns k h =
    rw (add-one k, take-suc ns k 0 h, spell_append (take k ns) (get_or ns k 0 ∷ []), append-nil (spelling (get_or ns k 0)))

pub spell_front : (ns : List ℕ) (k : ℕ) → length (spell_all (take k ns)) ≤ length (spell_all ns)
spell_front ns k =
    omega (
      arith,
      ap (λ (l : List ℕ). length (spell_all l)) (take-append-drop k ns),
      ap length (spell_append (take k ns) (drop k ns)),
      length-append (spell_all (take k ns)) (spell_all (drop k ns)),
    )

pub spell_none : spell_all [] ≡ []
unfolding spell_all
spell_none = refl

pub spell_whole : (ns : List ℕ) (k : ℕ) → k ≡ length ns → spell_all (take k ns) ≡ spell_all ns
spell_whole ns k e = ap spell_all (take_all k ns (omega arith))

-- ---- counted

pub counted : (ns : List ℕ) (k sum n : ℕ) → k < length ns → sum ≡ length (spell_all (take k ns))
    → n ≡ length (spelling (get_or ns k 0)) → sum + n ≡ length (spell_all (take (k + 1) ns))
counted ns k sum n h p q =
    omega (
      arith,
      ap length (spell_next ns k h),
      length-append (spell_all (take k ns)) (spelling (get_or ns k 0)),
    )

counted_all : (ns : List ℕ) → sum_by (λ n. length (spelling n)) ns ≡ length (spell_all ns)
unfolding spell_all
counted_all [] = refl
counted_all (n ∷ ns) =
    omega (
      arith,
      sum_by-cons (λ (n : ℕ). length (spelling n)) n ns,
      counted_all ns,
      length-append (spelling n) (spell_all ns),
    )

pub spell_sum : (ns : List ℕ) → sum (map (λ n. length (spelling n)) ns) ≡ length (spell_all ns)
spell_sum ns = sum-map (λ (n : ℕ). length (spelling n)) ns ∙ counted_all ns

-- ---- written

pub none_written : (at : ℕ) (ns d : List ℕ)
    → (at ≡ at + length (spell_all (take 0 ns))) × (d ≡ put at (spell_all (take 0 ns)) d)
none_written at ns d = (rw spell_none (omega arith), rw spell_none (sym (put_none at d)))

module _ (at : ℕ) (ns d : List ℕ) (room : at + length (spell_all ns) ≤ length d) (k place : ℕ) (buf : List ℕ)
    (p : place ≡ at + length (spell_all (take k ns))) (q : buf ≡ put at (spell_all (take k ns)) d) where
  pub same_length : length buf ≡ length d
  same_length = ap length q ∙ length_put at (spell_all (take k ns)) d (omega (arith, spell_front ns k))

  pub next_room : k < length ns → place + length (spelling (get_or ns k 0)) ≤ length buf
  next_room h =
      omega (
        arith,
        same_length,
        spell_front ns (k + 1),
        ap length (spell_next ns k h),
        length-append (spell_all (take k ns)) (spelling (get_or ns k 0)),
      )

  pub one_more : (r : ℕ) (x : List ℕ) → k < length ns → r ≡ place + length (spelling (get_or ns k 0))
      → x ≡ put place (spelling (get_or ns k 0)) buf
      → (r ≡ at + length (spell_all (take (k + 1) ns))) × (x ≡ put at (spell_all (take (k + 1) ns)) d)
  one_more r x h e f = (
    omega (
      arith,
      ap length (spell_next ns k h),
      length-append (spell_all (take k ns)) (spelling (get_or ns k 0)),
    ),
    f ∙ (λ i. put (p i) (spelling (get_or ns k 0)) (q i))
        ∙ put_put at (spell_all (take k ns)) (spelling (get_or ns k 0)) d (omega (arith, spell_front ns k))
        ∙ ap (λ (s : List ℕ). put at s d) (sym (spell_next ns k h)),
  )

  pub all_written : k ≡ length ns → (place ≡ at + length (spell_all ns)) × (buf ≡ put at (spell_all ns) d)
  all_written e = (
    p ∙ ap (λ (s : List ℕ). at + length s) (spell_whole ns k e),
    q ∙ ap (λ (s : List ℕ). put at s d) (spell_whole ns k e),
  )
