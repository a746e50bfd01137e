-- Laws of the digest: a pulse by its bits, and one byte or one axis more. Assumes nothing.
use Prim.Native.Nat.{ℕ, zero, suc, ◌+◌, ◌<◌}
use native.Mathlib.Numerals.{add-one}
use native.Mathlib.Omega.{arith}
use mathlib.Core.List.{List, [], ◌∷◌, ◌++◌}
use mathlib.Core.Path.{◌≡◌, refl, ap, ◌∙◌}
use lib.IntN.{ℤ, pos, negsuc}
use lib.ListN.{length, get_or, take}
use lib.Seq.{take-suc}
use denote.Array.{each}
use denote.Shadow.{shadow}
use denote.Signed.{SInt}
use mir.Syntax.{w8}
use mir.Val.{Val, SFits, to_z, of_z}
use mir.ValLaws.{to_z-of_z}
use Rattle.laws.proofs.Pick.{on_eq, on_ne}
use Rattle.replay.specs.Digest.{mixed, pulse_code, mixed_bytes, mixed_axes}

-- ---- a pulse by its bits

pub code_zero : (p : ℤ) → SFits w8 p → of_z w8 p ≡ 0 → 0 ≡ pulse_code p
code_zero (pos n) f e = on_eq n 0 0 0 _ e refl
code_zero (negsuc n) f e = absurd (omega (arith, f.sfits))

pub code_one : (p : ℤ) → SFits w8 p → of_z w8 p ≡ 1 → 1 ≡ pulse_code p
code_one (pos n) f e = on_ne n 0 1 0 _ (λ (q : n ≡ 0). omega arith) (on_eq n 1 1 1 2 e refl)
code_one (negsuc n) f e = absurd (omega (arith, f.sfits))

pub code_other : (p : ℤ) → (of_z w8 p ≡ 0 → ⊥) → (of_z w8 p ≡ 1 → ⊥) → 2 ≡ pulse_code p
code_other (pos n) a b = on_ne n 0 2 0 _ a (on_ne n 1 2 1 2 b refl)
code_other (negsuc n) a b = refl

pub code_passed : (z : ℤ) (n : ℕ) → SFits w8 z → n ≡ pulse_code (to_z w8 (of_z w8 z)) → n ≡ pulse_code z
code_passed z n f e = e ∙ ap pulse_code (to_z-of_z w8 z f)

-- The elements of an array of pulses are in range.
pub pulse_sfits : (xs : List ℤ) (us : List Val) (i : ℕ) → shadow (each ℤ (SInt w8).own_val xs us)
    → SFits w8 (get_or xs i (pos 0))
pulse_sfits [] us i p = record { sfits = omega arith }
pulse_sfits (x ∷ xs) [] i p = absurd p
pulse_sfits (x ∷ xs) (u ∷ us) zero p = record { sfits = p.0.1 }
pulse_sfits (x ∷ xs) (u ∷ us) (suc i) p = pulse_sfits xs us i p.1

-- ---- one more

bytes_append : (h : ℕ) (s : List ℕ) (b : ℕ) → mixed_bytes h (s ++ (b ∷ [])) ≡ mixed (mixed_bytes h s) b 0 0
unfolding mixed_bytes
bytes_append h [] b = refl
bytes_append h (x ∷ s) b = bytes_append (mixed h x 0 0) s b

pub bytes_next : (h i : ℕ) (s : List ℕ) (was next : ℕ) → i < length s → was ≡ mixed_bytes h (take i s)
    → next ≡ mixed was (get_or s i 0) 0 0 → next ≡ mixed_bytes h (take (i + 1) s)
bytes_next h i s was next l e p =
    rw (add-one i, take-suc s i 0 l, bytes_append h (take i s) (get_or s i 0))
    (p ∙ ap (λ (x : ℕ). mixed x (get_or s i 0) 0 0) e)

pub axes_next : (travel place : ℕ → ℕ) (h k was next : ℕ) → was ≡ mixed_axes travel place h k
    → next ≡ mixed was (travel k) (place k) k → next ≡ mixed_axes travel place h (k + 1)
unfolding mixed_axes
axes_next travel place h k was next e p =
    rw (add-one k) (p ∙ ap (λ (x : ℕ). mixed x (travel k) (place k) k) e)
