-- The characters of a line that begins with T, however many: what is kept of them after one more, and what the line
-- asks at its end. Assumes nothing.
use Rattle.std.proofs.Common.{Option, None}
use Prim.Native.Nat.{ℕ, min, ◌-◌, ◌<◌}
use native.Mathlib.Omega.{arith}
use mathlib.Core.List.{List, [], ◌∷◌, ◌++◌, append-nil}
use mathlib.Core.Path.{◌≡◌, refl, sym, ap, ◌∙◌}
use Rattle.std.specs.List.{fold}
use lib.ListN.{length, take, replicate, length-take}
use lib.Seq.{take_all, take_at, append_snoc}
use Rattle.laws.proofs.Pick.{by_le, by_lt, on_ge, on_lt}
use Rattle.receiver.proofs.KeepLaws.{full_chars, full_count, room_chars, room_count}
use Rattle.session.specs.declared.kept.Kept.{Kept}
use Rattle.session.specs.declared.asked.Ticks.{Ticks}
use Rattle.session.specs.Asked.{asked_of}
use Rattle.session.specs.Kept.{keeping, Keeping, push_of, kept_asked}

-- ---- one character more

pub push_keeping : (l : List ℕ) (b : ℕ) → push_of (keeping l) b ≡ keeping (l ++ (b ∷ []))
push_keeping l b =
    by_le (λ (r : Kept). r ≡ keeping (l ++ (b ∷ []))) 17 (min 17 (length l)) _ _
    (λ h i. record { chars = full_chars 17 l (b ∷ []) h i; count = full_count 17 l (b ∷ []) h i })
    (λ h i. record { chars = room_chars 17 l b h i; count = room_count 17 l b h i })

-- ---- characters one after another

pub kept_all : (cs : List ℕ) (k : Kept) → Keeping k (λ l. fold push_of k cs ≡ keeping (l ++ cs))
kept_all [] k l e = sym e ∙ ap keeping (sym (append-nil l))
kept_all (c ∷ cs) k l e =
    kept_all cs (push_of k c) (l ++ (c ∷ [])) (sym (push_keeping l c) ∙ ap (λ (x : Kept). push_of x c) e)
    ∙ ap keeping (append_snoc l c cs)

-- ---- the line's end: 17 characters tell an over-long line

kept_chars : (l : List ℕ) → take (keeping l).count (keeping l).chars ≡ take 17 l
kept_chars l = take_at (take 17 l) (replicate (17 - length l) 0) (min 17 (length l)) (length-take 17 l)

long_asked : (l : List ℕ) → 16 < length l → None ≡ asked_of l
unfolding asked_of
long_asked l h = on_ge (length l) 10 None _ _ (omega arith) (on_lt 16 (length l) None _ _ h refl)

pub asked_keeping : (l : List ℕ) → kept_asked (keeping l) ≡ asked_of l
asked_keeping l =
    by_lt (λ (x : Option Ticks). x ≡ asked_of l) 16 (min 17 (length l)) _ _
    (λ h. long_asked l (omega arith))
    (λ h. ap asked_of (kept_chars l ∙ take_all 17 l (omega arith)))

-- What holds of what is kept holds of every list of characters so kept.
pub push_told : {r : Kept} (k : Kept) (b : ℕ) → r ≡ push_of k b → Keeping k (λ l. r ≡ keeping (l ++ (b ∷ [])))
push_told k b e l h = e ∙ ap (λ (x : Kept). push_of x b) (sym h) ∙ push_keeping l b

pub asked_told : {r : Option Ticks} (k : Kept) → r ≡ kept_asked k → Keeping k (λ l. r ≡ asked_of l)
asked_told k e l h = e ∙ ap kept_asked (sym h) ∙ asked_keeping l
