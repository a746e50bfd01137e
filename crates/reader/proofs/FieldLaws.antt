-- The fields that the reader takes: each block's are in their ranges, and its bytes say just them. Assumes nothing.
use Rattle.std.proofs.Common.{Option}
use Prim.Native.Nat.{ℕ, ◌+◌, ◌-◌, ◌%◌, ◌<◌}
use native.Mathlib.Omega.{arith}
use mathlib.Core.List.{List}
use mathlib.Core.Path.{◌≡◌, refl, ap, subst, ◌∙◌}
use lib.Dec.{leb}
use lib.IntN.{ℤ, pos, negsuc}
use Rattle.laws.proofs.Pick.{by_bool, by_lt, by_le, by_eq}
use Rattle.digits.specs.Digits.{five_digits, six_digits, top_bit}
use Rattle.line.specs.Codes.{code, five}
use Rattle.reply.specs.Reply.{
  coded,
  letter_u,
  letter_s,
  letter_small_s,
  letter_r,
  block_for,
  travel_digits,
  twenty,
}
use Rattle.reader.specs.Reader.{is_verdict, is_echo, verdict_in, order_in, place_in, signed, fields_in}
use Rattle.reader.specs.Blocks.{Framed, Spelt}
use Rattle.reader.proofs.VerdictLaws.{verdict_fits}
use Rattle.reader.proofs.EchoLaws.{echo_taken}
use Rattle.reader.proofs.BlockLaws.{signed_inside}

travel_digits_lem : (n : ℕ) → coded (code n) (travel_digits (leb top_bit (five n)) (five n % top_bit)) ≡ n
travel_digits_lem n =
    by_le (λ (x : ℕ). coded (code n) (x + five n % top_bit) ≡ n) top_bit (five n) top_bit 0
    (λ h. omega arith) (λ h. omega arith)

twenty_signed : (v : ℕ) → v < five_digits → twenty (signed v) ≡ v
twenty_signed v h =
    by_lt (λ (z : ℤ). twenty z ≡ v) v top_bit (pos v) (negsuc (1048575 - v)) (λ k. omega arith) (λ k. omega arith)

module _ (switch n : ℕ) (ident : Option ℕ) (s : List ℕ) (frame : Framed switch ident) (low : n < six_digits) where
  verdict_spelt : block_for switch letter_u n ident ≡ s → Spelt s (verdict_in switch n ident)
  verdict_spelt e =
      by_bool (Spelt s) (is_verdict n ident) _ _
      (λ t. record { fits = (frame, verdict_fits n ident t); bytes = e }) (λ _. refl)

  order_spelt : block_for switch letter_s n ident ≡ s → Spelt s (order_in switch n ident)
  order_spelt e =
      by_lt (Spelt s) (code n) 5 _ _
      (λ k. record {
        fits = (frame, (k, omega arith));
        bytes = ap (λ (x : ℕ). block_for switch letter_s x ident) (travel_digits_lem n) ∙ e;
      })
      λ h. by_eq (Spelt s) (code n) 6 _ _
      (λ q. by_lt (Spelt s) (five n) 128 _ _
      (λ k. record { fits = (frame, k); bytes = ap (λ (x : ℕ). block_for switch letter_s x ident) (six q) ∙ e })
      (λ _. refl))
      (λ q. by_bool (Spelt s) (is_echo n) _ _
      (λ t. record {
        fits = (frame, record { six = low; no_travel = h; no_status = q; taken = echo_taken n h q ∙ t });
        bytes = e;
      })
      (λ _. refl))
    where
      six : code n ≡ 6 → coded 6 (five n) ≡ n
      six q = omega arith

  place_spelt : block_for switch letter_small_s n ident ≡ s → Spelt s (place_in switch n ident)
  place_spelt e =
      by_lt (Spelt s) (code n) 5 _ _
      (λ k. record {
        fits = (frame, (k, signed_inside (five n) (omega arith)));
        bytes = ap (λ (x : ℕ). block_for switch letter_small_s x ident)
            (ap (coded (code n)) (twenty_signed (five n) (omega arith)) ∙ whole) ∙ e;
      })
      (λ _. refl)
    where
      whole : coded (code n) (five n) ≡ n
      whole = omega arith

  pub fields_spelt : (letter : ℕ) → block_for switch letter n ident ≡ s → Spelt s (fields_in letter switch n ident)
  unfolding fields_in
  fields_spelt letter e =
      by_eq (Spelt s) letter letter_u _ _ (λ q. verdict_spelt (named q))
      λ _. by_eq (Spelt s) letter letter_s _ _ (λ q. order_spelt (named q))
      λ _. by_eq (Spelt s) letter letter_small_s _ _ (λ q. place_spelt (named q))
      λ _. by_eq (Spelt s) letter letter_r _ _ (λ q. record { fits = (frame, low); bytes = named q }) (λ _. refl)
    where
      named : {l : ℕ} → letter ≡ l → block_for switch l n ident ≡ s
      named q = subst (λ (x : ℕ). block_for switch x n ident ≡ s) q e
