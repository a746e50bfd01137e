-- The digits of an echo, by the reader's test and by the line Q that they are of. Assumes nothing.
use Rattle.line.specs.declared.Refusal.TheVariants as N
use Rattle.std.proofs.Common.{Err}
use Prim.Native.Nat.{ℕ, ◌%◌, ◌≤◌}
use native.Mathlib.Omega.{arith}
use mathlib.Core.Bool.{Bool, true, false, cond, not}
use mathlib.Core.Path.{◌≡◌, refl, sym, ◌∙◌}
use borrow.Author.Tests.{le-ltb, ne_eqb}
use lib.Dec.{leb, eqb}
use Rattle.laws.proofs.Pick.{by_bool, by_eq}
use Rattle.line.specs.declared.command.Command.{Command}
use Rattle.line.specs.declared.command.Command.TheVariants as C
use Rattle.line.specs.Ranges.{is_within, is_axis, is_order, input_bits, setting_fits}
use Rattle.line.specs.Codes.{letter_q, code, five, second, row_q}
use Rattle.line.specs.Line.{judge_row, judge_value, accepting}
use Rattle.line.proofs.Ranges.{within}
use Rattle.reader.specs.Reader.{is_echo}
use Rattle.reader.specs.Blocks.{is_accepted}

-- The digits of an order.
pub record EchoFits (n : ℕ) : Type 0 where
  pub axes : 5 ≤ code n
  pub six : code n ≡ 6 → ⊥
  pub echo : is_echo n ≡ true

module _ (n : ℕ) where
  -- The reader's test, k being the code.
  abbrev echo_with : ℕ → Bool
  echo_with k =
      cond (eqb k 8) (is_axis (second n % 8))
      (cond (is_order k) true
      (cond (is_within k 13 14) (input_bits (five n))
      false))

  -- The settings D and E have input bits.
  inputs_setting : (k v : ℕ) → is_within k 13 14 ≡ true → setting_fits k v ≡ input_bits v
  inputs_setting k v e =
      let t = within k 13 14 e in
      by_eq (λ (_ : Bool). setting_fits k v ≡ input_bits v) k 13 true false (λ q. rw q)
      λ other. let q : k ≡ 14 = omega (arith, t.0, t.1, other) in rw q

  accepted_if : (t : Bool) (c : Command) → is_accepted (cond (not t) (Err N.Range) (accepting c n)) ≡ t
  accepted_if true c = refl
  accepted_if false c = refl

  -- A row of Q with a code k of no reading, judged with six digits.
  echo_with_lem : (k : ℕ) → 5 ≤ k → (k ≡ 6 → ⊥) → is_accepted (judge_row (row_q k (five n)) 6 n) ≡ echo_with k
  unfolding judge_row
  echo_with_lem k h six =
      rw (le-ltb k 5 h, ne_eqb k 6 six)
      (by_eq (λ f. is_accepted (judge_row f 6 n) ≡ echo_with k) k 8 _ _
      (λ e. rw e (accepted_if (is_axis (second n % 8)) (C.Start (second n % 8) (leb 8 (second n)))))
      λ a. by_bool (λ f. is_accepted (judge_row f 6 n) ≡ echo_with k) (is_order k) _ _
      (λ e. rw (ne_eqb k 8 a, e))
      λ b. by_bool (λ f. is_accepted (judge_row f 6 n) ≡ echo_with k) (is_within k 13 14) _ _
      (λ e. let r : echo_with k ≡ input_bits (five n) = rw (ne_eqb k 8 a, b, e) in
      accepted_if (setting_fits k (five n)) (C.Set k (five n)) ∙ inputs_setting k (five n) e ∙ sym r)
      λ e. rw (ne_eqb k 8 a, b, e))

  pub echo_taken : 5 ≤ code n → (code n ≡ 6 → ⊥) → is_accepted (judge_value letter_q 6 n) ≡ is_echo n
  echo_taken h six = echo_with_lem (code n) h six
