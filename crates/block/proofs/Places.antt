-- Laws of what is laid at a place of a lent buffer: nothing, one byte, one thing behind another, and what stands before
-- and behind it. Assumes nothing.
use Prim.Native.Nat.{ℕ, ◌+◌, ◌≤◌, ◌<◌}
use mathlib.Core.List.{List, [], ◌∷◌, ◌++◌, append_assoc}
use mathlib.Core.Path.{◌≡◌, sym, ap, ◌∙◌}
use native.Mathlib.Numerals.{add-one}
use native.Mathlib.Omega.{arith}
use lib.ListN.{length, take, drop, set, length-append, length-take, length-drop, take-append-drop}
use lib.Seq.{take-append_seam, drop-append_seam, drop-drop, set_split}
use Rattle.block.specs.Block.{over, put}

pub put_none : (at : ℕ) (d : List ℕ) → put at [] d ≡ d
unfolding put over
put_none at d = take-append-drop at d

pub put_one : (at : ℕ) (d : List ℕ) (b : ℕ) → at < length d → set d at b ≡ put at (b ∷ []) d
unfolding put over
put_one at d b h = rw (set_split d at b h, drop-drop 1 at d, add-one at)

pub length_put : (at : ℕ) (s d : List ℕ) → at + length s ≤ length d → length (put at s d) ≡ length d
unfolding put over
length_put at s d h = simp (length-append, length-take, length-drop) (omega arith)

-- One thing behind another.
pub put_put : (at : ℕ) (a b d : List ℕ) → at + length a ≤ length d
    → put (at + length a) b (put at a d) ≡ put at (a ++ b) d
unfolding put over
put_put at a b d h =
    let e : length (take at d ++ a) ≡ at + length a = rw (length-append, length-take) (omega arith) in
    rw (
      ← append_assoc (take at d) a (drop (length a) (drop at d)),
      ← e,
      take-append_seam,
      drop-append_seam,
      length-append a b,
      drop-drop (length b) (length a) (drop at d),
    )
    (append_assoc (take at d) a _ ∙ ap (λ (x : List ℕ). take at d ++ x) (sym (append_assoc a b _)))

-- One byte more behind what was laid.
pub put_snoc : (at : ℕ) (s d : List ℕ) (b : ℕ) → at + length s < length d
    → set (put at s d) (at + length s) b ≡ put at (s ++ (b ∷ [])) d
put_snoc at s d b h =
    put_one (at + length s) (put at s d) b (omega (arith, length_put at s d (omega arith)))
    ∙ put_put at s (b ∷ []) d (omega arith)

-- What stands before the place after s.
pub take_put : (at : ℕ) (s d : List ℕ) → at ≤ length d → take (at + length s) (put at s d) ≡ take at d ++ s
unfolding put over
take_put at s d h =
    let e : length (take at d ++ s) ≡ at + length s = rw (length-append, length-take) (omega arith) in
    rw (← append_assoc (take at d) s (drop (length s) (drop at d)), ← e, take-append_seam)

-- What stands from there on is as it was.
pub drop_put : (at : ℕ) (s d : List ℕ) → at ≤ length d → drop (at + length s) (put at s d) ≡ drop (at + length s) d
unfolding put over
drop_put at s d h =
    let e : length (take at d ++ s) ≡ at + length s = rw (length-append, length-take) (omega arith) in
    ap (drop (at + length s)) (sym (append_assoc (take at d) s (drop (length s) (drop at d))))
    ∙ ap (λ (n : ℕ). drop n ((take at d ++ s) ++ drop (length s) (drop at d))) (sym e)
    ∙ drop-append_seam (take at d ++ s) (drop (length s) (drop at d))
    ∙ drop-drop (length s) at d
