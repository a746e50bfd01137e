-- Every part of a word is small. Assumes nothing.
use Prim.Native.Nat.{ℕ, ◌*◌, ◌^◌, ◌≤◌}
use mathlib.Core.Bool.{Bool, true, false, not}
use mathlib.Core.List.{List}
use mathlib.Core.Path.{◌≡◌, sym, subst}
use native.Mathlib.Nat.{pow-le-pow_left}
use native.Mathlib.Omega.{arith}
use lib.Dec.{ltb, lit≤}
use lib.IntN.{ℤ, pos}
use lib.ListN.{get_or}
use Rattle.std.specs.Prelude.{sum, ◌<◌}
use Rattle.laws.specs.Axes.{each, directed}
use Rattle.laws.proofs.BitLaws.{weight_le}
use Rattle.laws.proofs.Pick.{by_bool}
use Rattle.outputs.specs.Outputs.{line, general_of, lines_of, cell_of, rest_of, fire_of, still_of}

pub general_le : (s o : ℕ) → general_of s o ≤ 16777215
general_le s o = by_bool (λ (x : ℕ). x ≤ 16777215) (ltb s 8) _ _ (λ e. omega arith) (λ e. omega arith)

lines_le : (s : ℕ) (a b : Bool) (n m : ℕ) → n ≤ m → lines_of s a b n m ≤ 15 * m
lines_le s a b n m h =
    by_bool (λ (x : ℕ). x ≤ 15 * m) (ltb s 8) _ _
    (λ e. omega (arith, weight_le a n, weight_le b (2 * n)))
    (λ e. omega (arith, weight_le a m, weight_le (not a) (2 * m), weight_le b (4 * m), weight_le (not b) (8 * m)))

cell_le : (s q : ℕ) (minus : Bool) (p : ℤ) (early : Bool) (k : ℕ) → cell_of s q minus p early k ≤ 15 * 16 ^ k
cell_le s q minus p early k =
    lines_le s (line s q minus p early k 0) (line s q minus p early k 1) (4 ^ k) (16 ^ k) (pow-le-pow_left (lit≤ tt) k)

pub rest_le : (s q : ℕ) (minus : ℕ → Bool) (k : ℕ) → rest_of s q minus k ≤ 15 * 16 ^ k
unfolding rest_of
rest_le s q minus k = cell_le s q (minus k) (pos 0) false k

pub fire_le : (s q : ℕ) (minus : ℕ → Bool) (k : ℕ) → fire_of s q minus k ≤ 15 * 16 ^ k
unfolding fire_of
fire_le s q minus k = cell_le s q (minus k) (directed (minus k) 1) true k

-- What each part of a word is at most, as `omega` reads it.
pub record Small (s q o : ℕ) (minus : ℕ → Bool) : Type 0 where
  pub general : general_of s o ≤ 16777215
  pub rest0 : rest_of s q minus 0 ≤ 15
  pub rest1 : rest_of s q minus 1 ≤ 240
  pub rest2 : rest_of s q minus 2 ≤ 3840
  pub rest3 : rest_of s q minus 3 ≤ 61440
  pub rest4 : rest_of s q minus 4 ≤ 983040
  pub fire0 : fire_of s q minus 0 ≤ 15
  pub fire1 : fire_of s q minus 1 ≤ 240
  pub fire2 : fire_of s q minus 2 ≤ 3840
  pub fire3 : fire_of s q minus 3 ≤ 61440
  pub fire4 : fire_of s q minus 4 ≤ 983040

pub small : (s q o : ℕ) (minus : ℕ → Bool) → Small s q o minus
small s q o minus = record {
  general = general_le s o;
  rest0 = rest_le s q minus 0;
  rest1 = rest_le s q minus 1;
  rest2 = rest_le s q minus 2;
  rest3 = rest_le s q minus 3;
  rest4 = rest_le s q minus 4;
  fire0 = fire_le s q minus 0;
  fire1 = fire_le s q minus 1;
  fire2 = fire_le s q minus 2;
  fire3 = fire_le s q minus 3;
  fire4 = fire_le s q minus 4;
}

-- The parts at rest as a list, and together.
pub record RestsFit (l : List ℕ) : Type 0 where
  pub at0 : get_or l 0 0 ≤ 15
  pub at1 : get_or l 1 0 ≤ 240
  pub at2 : get_or l 2 0 ≤ 3840
  pub at3 : get_or l 3 0 ≤ 61440
  pub at4 : get_or l 4 0 ≤ 983040
  pub all : sum l < 4294967296

pub rests_small : (s q : ℕ) (minus : ℕ → Bool) {rests : List ℕ} → rests ≡ each (rest_of s q minus) → RestsFit rests
rests_small s q minus e = subst RestsFit (sym e) (record {
  at0 = rest_le s q minus 0;
  at1 = rest_le s q minus 1;
  at2 = rest_le s q minus 2;
  at3 = rest_le s q minus 3;
  at4 = rest_le s q minus 4;
  all = omega (
    arith,
    rest_le s q minus 0,
    rest_le s q minus 1,
    rest_le s q minus 2,
    rest_le s q minus 3,
    rest_le s q minus 4,
  );
})

pub rests_total : (s q : ℕ) (minus : ℕ → Bool) {rests : List ℕ} → rests ≡ each (rest_of s q minus) → sum rests ≡ still_of s q minus
rests_total s q minus e = rw e (omega arith)
