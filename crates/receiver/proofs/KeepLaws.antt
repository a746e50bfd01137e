-- What is kept of a list of characters: its first n, zeros after them, and their count up to n. Of one with room for n,
-- one character more is a store; of a full one, more characters alter nothing. Assumes nothing.
use Prim.Native.Nat.{ℕ, suc, min, ◌+◌, ◌-◌, ◌≤◌, ◌<◌}
use native.Mathlib.Omega.{arith}
use mathlib.Core.List.{List, [], ◌∷◌, ◌++◌}
use mathlib.Core.Path.{◌≡◌}
use lib.ListN.{length, take, set, replicate, length-append}
use lib.Seq.{take_all, take-append-le, set-append_seam, append_snoc}

module _ (n : ℕ) (l : List ℕ) where
  module _ (m : List ℕ) (h : n ≤ min n (length l)) where
    pub full_chars : take n l ++ replicate (n - length l) 0 ≡ take n (l ++ m) ++ replicate (n - length (l ++ m)) 0
    full_chars =
        let k : n ≤ length l = omega arith in
        let y : n - length l ≡ 0 = omega arith in
        let z : n - (length l + length m) ≡ 0 = omega arith in
        rw (length-append l m, take-append-le n l m k, y, z)

    pub full_count : min n (length l) ≡ min n (length (l ++ m))
    full_count = rw (length-append l m) (omega arith)

  module _ (b : ℕ) (h : min n (length l) < n) where
    pub room_chars : set (take n l ++ replicate (n - length l) 0) (min n (length l)) b
        ≡ take n (l ++ (b ∷ [])) ++ replicate (n - length (l ++ (b ∷ []))) 0
    room_chars =
        let k : length l ≤ n = omega arith in
        let m : length (l ++ (b ∷ [])) ≤ n = rw (length-append l (b ∷ [])) (omega arith) in
        let y : n - length l ≡ suc (n - (length l + 1)) = omega arith in
        let x : min n (length l) ≡ length l = omega arith in
        rw (take_all n (l ++ (b ∷ [])) m, take_all n l k, x, length-append l (b ∷ []), y, append_snoc)
        (set-append_seam l 0 (replicate (n - (length l + 1)) 0) b)

    pub room_count : min n (length l) + 1 ≡ min n (length (l ++ (b ∷ [])))
    room_count = rw (length-append l (b ∷ [])) (omega arith)
