-- No screen is cut: each part of it by its most bytes, the numbers in it being in their ranges. Assumes nothing.
use Prim.Native.Nat.{ℕ, suc, ◌+◌, ◌*◌, ◌/◌, ◌≤◌, ◌<◌}
use native.Mathlib.Omega.{arith}
use mathlib.Core.List.{List, [], ◌∷◌}
use mathlib.Core.Path.{◌≡◌, refl, subst}
use lib.ListN.{length, length-append}
use Rattle.laws.proofs.Pick.{on_eq, on_ne, by_lt, by_eq}
use Rattle.text.specs.Decimal.{decimal_of}
use Rattle.text.proofs.DecimalLaws.{decimal_one, more_length, decimal_ten}
use Rattle.text.proofs.LengthLaws.{joined_length}
use Rattle.sentences.specs.Sentences.{turned_text}
use Rattle.sentences.proofs.Lengths.{turned_length}
use Rattle.trial.specs.declared.Trial.{Trial}
use Rattle.screen.specs.Screen.{
  seconds_of,
  end_text,
  master_line,
  pulses,
  share_at,
  wine_line,
  wine_lines,
  six_lines,
}
use Rattle.screen.specs.Promises.{Whole}
use Rattle.screen.proofs.ShareLaws.{at_most_all}

-- At most n bytes.
abbrev Most : ℕ → List ℕ → Type 0
Most n l = length l ≤ n

-- ---- numbers

one_digit : (n : ℕ) → n < 10 → length (decimal_of n) ≤ 1
one_digit n h = rw (decimal_one n h) (omega arith)

-- A number that is ten times as large at most has one digit more at most.
digit_more : (most : ℕ) (m : ℕ) → 1 ≤ m → ((n : ℕ) → n < most → length (decimal_of n) ≤ m)
    → (n : ℕ) → n < 10 * most → length (decimal_of n) ≤ m + 1
digit_more most m h less n k =
    by_lt {A = ℕ} (λ (_ : ℕ). length (decimal_of n) ≤ m + 1) n 10 0 0
    (λ (l : n < 10). omega (arith, h, one_digit n l))
    (λ (l : 10 ≤ n). omega (arith, more_length n l, less (n / 10) (omega arith)))

three_digits : (n : ℕ) → n < 1000 → length (decimal_of n) ≤ 3
three_digits n h =
    digit_more 100 2 (omega arith) (λ (m : ℕ). digit_more 10 1 (omega arith) one_digit m) n (omega arith)

five_digits : (n : ℕ) → n < 100000 → length (decimal_of n) ≤ 5
five_digits n h =
    digit_more 10000 4 (omega arith) (λ m. digit_more 1000 3 (omega arith) three_digits m) n (omega arith)

-- ---- the first line

seconds_length : (n : ℕ) → n < 4294967296 → length (decimal_of (seconds_of n)) ≤ 5
seconds_length n h = five_digits (seconds_of n) (omega arith)

end_length : (end n : ℕ) → end < 4294967296 → n < 4294967296 → length (end_text end n) ≤ 46
end_length end n h k =
    by_eq (Most 46) end 0 _ _ (λ _. simp length-append (omega (arith, decimal_ten n k, seconds_length n k)))
    (λ _. simp length-append (omega (arith, decimal_ten end h, seconds_length end h)))

pub master_length : (master end n : ℕ) → master < 4294967296 → end < 4294967296 → n < 4294967296
    → length (master_line master end n) ≤ 68
master_length master end n g h k = simp length-append (omega (arith, decimal_ten master g, end_length end n h k))

-- ---- the wines

percent_length : (t : Trial) (k : ℕ) → k < 5 → length (decimal_of (share_at t k / 100)) ≤ 3
percent_length t k h = three_digits (share_at t k / 100) (omega (arith, at_most_all t k h))

pub wine_length : (t : Trial) (k : ℕ) → k < 5 → pulses t k < 4294967296 → length (wine_line t k) ≤ 36
wine_length t k h l =
    simp length-append (omega (
      arith,
      one_digit k (omega arith),
      decimal_ten (pulses t k) l,
      percent_length t k h,
    ))

-- One line more.
pub wines_more : (t : Trial) (n : ℕ) → length (wine_lines n t) ≤ n * 36 → length (wine_line t n) ≤ 36
    → length (wine_lines (suc n) t) ≤ suc n * 36
unfolding wine_lines
wines_more t n h k = omega (arith, joined_length (wine_lines n t) (wine_line t n) (n * 36) 36 h k)

-- ---- the screen

pub six_length : (t : Trial) (master n : ℕ) → length (master_line master t.end n) ≤ 68
    → length (wine_lines 5 t) ≤ 180 → length (six_lines t master n) ≤ 250
six_length t master n h k =
    omega (arith, joined_length (master_line master t.end n) (wine_lines 5 t) 68 180 h k)

module _ (t : Trial) (master n : ℕ) where
  pub six_whole : t.number ≡ 0 → length (six_lines t master n) ≤ 250 → Whole t master n
  six_whole e h = subst (Most 250) (on_eq t.number 0 _ _ _ e refl) h

  pub turned_whole : (t.number ≡ 0 → ⊥) → t.number < 256 → Whole t master n
  turned_whole q h =
      subst (Most 250) (on_ne t.number 0 _ _ _ q refl)
      (omega (
        arith,
        joined_length (turned_text t.number) (10 ∷ []) 100 1 (turned_length t.number (omega arith))
            (omega arith),
      ))
