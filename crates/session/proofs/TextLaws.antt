-- Laws of sums as text: numbers with their signs and marks, laid into a buffer. Assumes nothing.
use Prim.Native.Nat.{ℕ, ◌+◌, ◌≤◌, ◌<◌}
use native.Mathlib.Numerals.{add-one}
use native.Mathlib.Omega.{arith}
use mathlib.Core.Bool.{Bool, true, false}
use mathlib.Core.List.{List, [], ◌∷◌, ◌++◌}
use mathlib.Core.Path.{◌≡◌, sym, ap, ◌∙◌}
use lib.IntN.{ℤ, pos, nat_abs}
use lib.ListN.{length, get_or, set, length-append}
use Rattle.laws.specs.Axes.{is_minus}
use Rattle.block.specs.Block.{put}
use Rattle.block.proofs.Places.{put_none, put_snoc, put_one, put_put}
use Rattle.text.specs.Decimal.{decimal_of, sign_text}
use Rattle.text.proofs.DecimalLaws.{decimal_ten}
use Rattle.session.specs.Text.{item_text, mark_of, sum_item, sums_text}

-- ---- numbers with their signs and marks

module _ (at : ℕ) (minus : Bool) (n : ℕ) (d : List ℕ) where
  pub minus_room : minus ≡ true → at + length (sign_text minus n) ≤ length d → at + 1 + length (decimal_of n) ≤ length d
  minus_room e h =
      let l : length (sign_text minus n) ≡ 1 + length (decimal_of n) = rw e (omega arith) in
      omega arith

  pub plus_room : minus ≡ false → at + length (sign_text minus n) ≤ length d → at + length (decimal_of n) ≤ length d
  plus_room e h = let l : length (sign_text minus n) ≡ length (decimal_of n) = rw e in omega arith

  pub minus_written : (r : ℕ) (x : List ℕ) → minus ≡ true → at + length (sign_text minus n) ≤ length d
      → r ≡ at + 1 + length (decimal_of n) → x ≡ put (at + 1) (decimal_of n) (set d at 45)
      → (r ≡ at + length (sign_text minus n)) × (x ≡ put at (sign_text minus n) d)
  minus_written r x e h p q =
      let k : at + 1 + length (decimal_of n) ≤ length d = minus_room e h in (
        rw e (omega arith),
        rw e (q ∙ ap (λ (y : List ℕ). put (at + 1) (decimal_of n) y) (put_one at d 45 (omega arith))
            ∙ put_put at (45 ∷ []) (decimal_of n) d (omega arith)),
      )

  pub plus_written : (r : ℕ) (x : List ℕ) → minus ≡ false
      → r ≡ at + length (decimal_of n) → x ≡ put at (decimal_of n) d
      → (r ≡ at + length (sign_text minus n)) × (x ≡ put at (sign_text minus n) d)
  plus_written r x e p q = (rw e p, rw e q)

sign_length : (minus : Bool) (n : ℕ) → n < 4294967296 → length (sign_text minus n) ≤ 11
sign_length true n h = omega (arith, decimal_ten n h)
sign_length false n h = omega (arith, decimal_ten n h)

module _ (at : ℕ) (minus : Bool) (n : ℕ) (d : List ℕ) (h : n < 4294967296) (room : at + 12 ≤ length d) where
  pub sign_room : at + length (sign_text minus n) ≤ length d
  sign_room = omega (arith, sign_length minus n h)

  module _ (r : ℕ) (x : List ℕ) (p : r ≡ at + length (sign_text minus n)) (same : length x ≡ length d) where
    pub mark_room : r < length x
    mark_room = omega (arith, sign_length minus n h)

    pub item_written : (k m : ℕ) → x ≡ put at (sign_text minus n) d → m ≡ mark_of k
        → (r + 1 ≡ at + length (item_text minus n k))
        × ((set x r m ≡ put at (item_text minus n k) d) × (r + 1 ≤ at + 12))
    item_written k m q e =
        let l : length (item_text minus n k) ≡ length (sign_text minus n) + 1 =
        length-append (sign_text minus n) (mark_of k ∷ []) in (
          omega arith,
          (
            (λ i. set (q i) (p i) (e i)) ∙ put_snoc at (sign_text minus n) d (mark_of k)
                (omega (arith, sign_length minus n h)),
            omega (arith, sign_length minus n h),
          ),
        )

-- ---- five of them

module _ (zs : List ℤ) (at : ℕ) (d : List ℕ) where
  pub none_written : (at ≡ at + length (sums_text 0 zs)) × (d ≡ put at (sums_text 0 zs) d)
  unfolding sums_text
  none_written = (omega arith, sym (put_none at d))

  next_text : (k : ℕ) → sums_text (k + 1) zs ≡ sums_text k zs ++ sum_item zs k
  unfolding sums_text
  next_text k = rw add-one

  pub next_written : (k end r n : ℕ) (minus : Bool) (buf x : List ℕ) → at + length (sums_text k zs) ≤ length d
      → end ≡ at + length (sums_text k zs) → buf ≡ put at (sums_text k zs) d
      → minus ≡ is_minus (get_or zs k (pos 0)) → n ≡ nat_abs (get_or zs k (pos 0))
      → r ≡ end + length (item_text minus n k) → x ≡ put end (item_text minus n k) buf
      → (r ≡ at + length (sums_text (k + 1) zs)) × (x ≡ put at (sums_text (k + 1) zs) d)
  next_written k end r n minus buf x h a b e f p q =
      let i : item_text minus n k ≡ sum_item zs k = λ i. item_text (e i) (f i) k in
      let l : length (sums_text (k + 1) zs) ≡ length (sums_text k zs) + length (item_text minus n k) =
      ap length (next_text k) ∙ length-append (sums_text k zs) (sum_item zs k)
      ∙ ap (λ (s : List ℕ). length (sums_text k zs) + length s) (sym i) in (
        omega (arith, p, a, l),
        q ∙ (λ j. put (a j) (i j) (b j)) ∙ put_put at (sums_text k zs) (sum_item zs k) d h
            ∙ ap (λ (s : List ℕ). put at s d) (sym (next_text k)),
      )
