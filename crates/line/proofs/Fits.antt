-- Every judged line fits: an accepted line's command is in range, an order's digits are its own, a W query has no
-- digits, and a line is turned away by a number from 4 to 10. Assumes nothing.
use Rattle.std.proofs.Common.{Option, Some, None}
use Prim.Native.Nat.{ℕ, ◌≤◌, ◌<◌}
use native.Mathlib.Omega.{arith}
use mathlib.Core.Bool.{true, false, false≢true}
use mathlib.Core.List.{List}
use mathlib.Core.Path.{◌≡◌, refl, subst}
use lib.Dec.{lit≤}
use Rattle.laws.proofs.Pick.{by_bool, by_eq}
use Rattle.digits.specs.Digits.{six_digits, number_of, Under}
use Rattle.digits.specs.declared.Number.{Number}
use Rattle.digits.proofs.Six.{under_six}
use Rattle.line.specs.declared.command.Command.{Command}
use Rattle.line.specs.declared.row.Row.{Row}
use Rattle.line.specs.Ranges.{is_within, is_axis, is_order}
use Rattle.line.specs.Codes.{letter_p, letter_q, letter_w, code, five, row_p, row_q, rowq, row_of, is_query, listed}
use Rattle.line.specs.Fits.{OrderFits, JudgedFits}
use Rattle.line.specs.Line.{char_at, digit_count, digit_chars, value_of, judge_of}
use Rattle.line.proofs.Ranges.{within}
use Rattle.line.proofs.Cases.{by_row, by_judge}

-- ---- rows

-- What a row's command has, whatever its values: an order's digits are its own, and a W query has none.
pub record Own (count n : ℕ) (c : Command) : Type 0 where
  pub order : OrderFits c n
  pub bare : is_query c ≡ true → count ≡ 0

abbrev RowOwn : ℕ → ℕ → Option Row → Type 0
RowOwn count n None = 0 < 1
RowOwn count n (Some row) = Own count n row.command

always : 0 < 1
always = omega arith

module _ (count n : ℕ) where
  full : false ≡ true → count ≡ 0
  full e = absurd (false≢true e)

  P_own : RowOwn count n (row_p (code n) (five n))
  P_own =
      by_bool (RowOwn count n) (is_axis (code n)) _ _ (λ _. record { order = always; bare = full })
      λ _. by_eq (RowOwn count n) (code n) 11 _ _
      (λ (e : code n ≡ 11). record { order = λ (h : 13 ≤ code n). absurd (omega arith); bare = full })
      λ _. by_bool (RowOwn count n) (is_within (code n) 8 12) _ _
      (λ e. record { order = λ (h : 13 ≤ code n). absurd (omega (arith, (within (code n) 8 12 e).1)); bare = full })
      λ _. always

  Q_own : RowOwn count n (row_q (code n) (five n))
  Q_own =
      by_bool (RowOwn count n) (is_axis (code n)) _ _ (λ _. record { order = always; bare = full })
      λ _. by_eq (RowOwn count n) (code n) 6 _ _ (λ _. record { order = always; bare = full })
      λ _. by_eq (RowOwn count n) (code n) 8 _ _ (λ e. record { order = (e, refl, refl); bare = full })
      λ _. by_bool (RowOwn count n) (is_order (code n)) _ _ (λ _. record { order = refl; bare = full })
      λ _. by_bool (RowOwn count n) (is_within (code n) 13 14) _ _
      (λ _. record { order = λ _. (refl, refl); bare = full })
      λ _. always

  small_own : RowOwn count n (rowq (code n))
  small_own =
      by_bool (RowOwn count n) (is_axis (code n)) _ _ (λ _. record { order = always; bare = full })
      λ _. by_eq (RowOwn count n) (code n) 8 _ _ (λ _. record { order = always; bare = full })
      λ _. always

  row_own : (letter : ℕ) → RowOwn count n (row_of letter count n)
  row_own letter =
      by_eq (RowOwn count n) letter letter_w _ _
      (λ _. by_eq (RowOwn count n) count 0 _ _ (λ e. record { order = always; bare = λ _. e })
      (λ _. record { order = always; bare = full }))
      λ _. by_eq (RowOwn count n) count 0 _ _ (λ _. always)
      λ _. by_eq (RowOwn count n) letter letter_p _ _ (λ _. P_own)
      λ _. by_eq (RowOwn count n) letter letter_q _ _ (λ _. Q_own)
      λ _. small_own

  -- Of a listed row.
  pub owned : (letter least : ℕ) (c : Command) → row_of letter count n ≡ listed least c → Own count n c
  owned letter least c e = subst (RowOwn count n) e (row_own letter)

-- ---- lines

value_under : (b : ℕ) (x : Option Number) → 0 < b → Under b x → value_of x < b
value_under b None p h = p
value_under b (Some x) p h = h

-- Every line's judgement fits.
pub judge_fits : (l : List ℕ) → JudgedFits (judge_of l)
judge_fits l =
    let n = value_of (number_of (digit_chars l)) in
    let count = digit_count l in
    let under = under_six (char_at l 2) (char_at l 3) (char_at l 4) (char_at l 5) (char_at l 6) (char_at l 7) in
    by_judge JudgedFits l (lit≤ tt, lit≤ tt) (lit≤ tt, lit≤ tt) (lit≤ tt, lit≤ tt) (lit≤ tt, lit≤ tt)
    λ _. by_row JudgedFits (row_of (char_at l 0) count n) count n (lit≤ tt, lit≤ tt) (lit≤ tt, lit≤ tt) (lit≤ tt, lit≤ tt)
    λ least c e q. record {
      command = q;
      digits = value_under six_digits (number_of (digit_chars l)) (omega arith) under;
      order = (owned count n (char_at l 0) least c e).order;
    }
