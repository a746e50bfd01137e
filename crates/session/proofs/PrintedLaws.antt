-- What bytes print, taken one after another: some bytes more, bytes that are silent, and the end of the input behind
-- them. Assumes nothing.
use Prim.Native.Nat.{ℕ, zero, suc}
use mathlib.Core.List.{List, [], ◌∷◌, ◌++◌, append_assoc, append-nil}
use mathlib.Core.Path.{◌≡◌, refl, sym, ap, ◌∙◌}
use lib.ListN.{take}
use Rattle.session.specs.Session.{Bench, taken, finished}
use Rattle.session.specs.Lines.{prints, printed_by, after}
use Rattle.session.specs.Stretch.{Silent}

pub printed_both : (l k : List ℕ) (x : Bench) → printed_by x (l ++ k) ≡ printed_by x l ++ printed_by (after x l) k
unfolding printed_by after
printed_both [] k x = refl
printed_both (b ∷ l) k x =
    ap (λ (t : List ℕ). (taken x b).printed ++ t) (printed_both l k (taken x b).bench)
    ∙ sym (append_assoc (taken x b).printed _ _)

-- One byte.
pub printed_one : (x : Bench) (b : ℕ) → printed_by x (b ∷ []) ≡ (taken x b).printed
unfolding printed_by
printed_one x b = append-nil (taken x b).printed

pub prints_parts : (x : Bench) (bs : List ℕ) → prints x bs ≡ printed_by x bs ++ (finished (after x bs)).printed
unfolding prints printed_by after
prints_parts x [] = refl
prints_parts x (b ∷ bs) =
    ap (λ (t : List ℕ). (taken x b).printed ++ t) (prints_parts (taken x b).bench bs)
    ∙ sym (append_assoc (taken x b).printed _ _)

-- ---- bytes that are silent

pub printed_silent : (l : List ℕ) (x : Bench) → Silent x l → printed_by x l ≡ []
unfolding printed_by
printed_silent [] x q = refl
printed_silent (b ∷ l) x q =
    ap (λ (t : List ℕ). t ++ printed_by (taken x b).bench l) q.0 ∙ printed_silent l (taken x b).bench q.1.1

pub silent_take : (n : ℕ) (l : List ℕ) (x : Bench) → Silent x l → Silent x (take n l)
silent_take zero l x q = tt
silent_take (suc n) [] x q = tt
silent_take (suc n) (b ∷ l) x q = (q.0, (q.1.0, silent_take n l (taken x b).bench q.1.1))
