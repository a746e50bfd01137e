-- Laws of signed numbers: one is stored and back, and so is a list of them. Assumes nothing.
use Prim.Native.Nat.{ℕ, suc, ◌-◌, ◌*◌, ◌/◌, ◌%◌}
use native.Mathlib.Omega.{arith}
use mathlib.Core.List.{List, [], ◌∷◌, map}
use mathlib.Core.Path.{◌≡◌, refl, ap}
use borrow.Author.Tests.{eq-eqb, ne_eqb}
use lib.IntN.{ℤ, pos, negsuc}
use Rattle.laws.proofs.Pick.{by_eq}
use Rattle.journal.specs.Numbers.{stored, signed}

pub signed_stored : (z : ℤ) → signed (stored z) ≡ z
signed_stored (pos n) =
    let h : 2 * n % 2 ≡ 0 = omega arith in
    let d : 2 * n / 2 ≡ n = omega arith in
    rw (eq-eqb (2 * n % 2) 0 h) (ap pos d)
signed_stored (negsuc k) =
    let h : (2 * suc k - 1) % 2 ≡ 0 → ⊥ = λ (q : (2 * suc k - 1) % 2 ≡ 0). omega arith in
    let d : (2 * suc k - 1) / 2 ≡ k = omega arith in
    rw (ne_eqb ((2 * suc k - 1) % 2) 0 h) (ap negsuc d)

pub stored_signed : (n : ℕ) → stored (signed n) ≡ n
stored_signed n =
    by_eq (λ (z : ℤ). stored z ≡ n) (n % 2) 0 (pos (n / 2)) (negsuc (n / 2)) (λ e. omega arith) (λ ne. omega arith)

pub signed_all : (zs : List ℤ) → map signed (map stored zs) ≡ zs
signed_all [] = refl
signed_all (z ∷ zs) = λ i. signed_stored z i ∷ signed_all zs i

pub stored_all : (ns : List ℕ) → map stored (map signed ns) ≡ ns
stored_all [] = refl
stored_all (n ∷ ns) = λ i. stored_signed n i ∷ stored_all ns i
