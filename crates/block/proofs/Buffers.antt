-- Laws of a lent buffer: what is laid over its front or at a place, one thing behind another, and the front part that
-- is handed back. Assumes nothing.
use Prim.Native.Nat.{ℕ, ◌+◌, ◌-◌, ◌≤◌, ◌<◌}
use mathlib.Core.List.{List, [], ◌++◌, append_assoc, append-nil}
use mathlib.Core.Path.{◌≡◌, refl, sym, ◌∙◌}
use native.Mathlib.Nat.{zero-add}
use native.Mathlib.Omega.{arith}
use borrow.Author.Tests.{le-leb, lt-leb}
use lib.ListN.{length, take, drop, length-append, length-drop, drop_of_length-le}
use lib.Seq.{sets, sets-eq, take_all, take-append_seam, drop-append_seam, drop-drop}
use Rattle.block.specs.Block.{over, put, laid, laid_length, front_of}

-- ---- over the front

-- Stores one behind the other from the front on are the list of them over the front.
pub stores : (vs l : List ℕ) → length vs ≤ length l → sets l 0 vs ≡ over vs l
unfolding over
stores vs l h = sets-eq vs l 0 (omega arith) ∙ rw zero-add

pub over_nil : (d : List ℕ) → over [] d ≡ d
unfolding over
over_nil d = refl

pub length_over : (s d : List ℕ) → length s ≤ length d → length (over s d) ≡ length d
unfolding over
length_over s d h = rw (length-append, length-drop) (omega arith)

take_over : (s d : List ℕ) → take (length s) (over s d) ≡ s
unfolding over
take_over s d = rw take-append_seam

-- The front part of that length is what was laid there.
pub front_over : (s d : List ℕ) → length s ≤ length d → front_of (over s d) (length s) ≡ s
front_over s d h =
    let e : length s ≤ length (over s d) = omega (arith, length_over s d h) in
    rw (le-leb (length s) (length (over s d)) e) (take_over s d)

-- ---- at a place

pub put_front : (s d : List ℕ) → put 0 s d ≡ over s d
unfolding put
put_front s d = refl

-- a over the front and b behind it are both over the front.
pub put_over : (a b d : List ℕ) → put (length a) b (over a d) ≡ over (a ++ b) d
unfolding put over
put_over a b d = rw (take-append_seam, drop-append_seam, length-append, drop-drop, append_assoc)

-- The part of d from the place at on comes back into d with s over its front.
pub part_over : (at : ℕ) (s d part : List ℕ) → part ≡ over s (take (length d - at) (drop at d))
    → take at d ++ (part ++ drop (length d - at) (drop at d)) ≡ put at s d
unfolding put
part_over at s d part e =
    let h : length (drop at d) ≤ length d - at = omega (arith, length-drop at d) in
    rw (e, take_all (length d - at) (drop at d) h, drop_of_length-le (drop at d) h, append-nil)

-- ---- laid, with room and without

pub laid_put : (at : ℕ) (s d : List ℕ) → at + length s ≤ length d → laid at s d ≡ put at s d
unfolding laid
laid_put at s d h = rw (le-leb (at + length s) (length d) h)

pub laid_length_lem : (at : ℕ) (s d : List ℕ) → at + length s ≤ length d → laid_length at s d ≡ length s
laid_length_lem at s d h = rw (le-leb (at + length s) (length d) h)

pub laid_none : (at : ℕ) (s d : List ℕ) → length d < at + length s → laid at s d ≡ d
unfolding laid
laid_none at s d h = rw (lt-leb (at + length s) (length d) h)

pub laid_length_none : (at : ℕ) (s d : List ℕ) → length d < at + length s → laid_length at s d ≡ 0
laid_length_none at s d h = rw (lt-leb (at + length s) (length d) h)

-- What a writer owes that found no room, and one that wrote.
pub no_room : (at : ℕ) (s d : List ℕ) → length d < at + length s → (0 ≡ laid_length at s d) × (d ≡ laid at s d)
no_room at s d h = (sym (laid_length_none at s d h), sym (laid_none at s d h))

pub with_room : (at : ℕ) (s d : List ℕ) (n : ℕ) (buf : List ℕ) → at + length s ≤ length d → n ≡ length s
    → buf ≡ put at s d → (n ≡ laid_length at s d) × (buf ≡ laid at s d)
with_room at s d n buf h p q = (p ∙ sym (laid_length_lem at s d h), q ∙ sym (laid_put at s d h))

-- ---- laid at the front, with room

pub laid_over : (s d : List ℕ) → length s ≤ length d → laid 0 s d ≡ over s d
laid_over s d h = laid_put 0 s d (omega arith) ∙ put_front s d

pub laid_over_length : (s d : List ℕ) → length s ≤ length d → laid_length 0 s d ≡ length s
laid_over_length s d h = laid_length_lem 0 s d (omega arith)
