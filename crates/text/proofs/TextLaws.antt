-- Bytes written one after another: in two parts or at once, to a text held of a list, one by one, and a number's digits. Assumes nothing.
use Rattle.std.specs.List.{fold}
use Prim.Native.Nat.{ℕ, min, ◌+◌, ◌/◌, ◌%◌, ◌≤◌, ◌<◌}
use mathlib.Core.Bool.{Bool, true}
use mathlib.Core.List.{List, [], ◌∷◌, ◌++◌, append-nil}
use mathlib.Core.Path.{◌≡◌, refl, sym, ap, ◌∙◌}
use lib.ListN.{length}
use lib.Seq.{append_snoc}
use Rattle.laws.proofs.Pick.{by_le}
use Rattle.receiver.proofs.KeepLaws.{full_chars, full_count, room_chars, room_count}
use Rattle.text.specs.declared.Text.{Text}
use Rattle.text.specs.Decimal.{decimal_of, sign_text}
use Rattle.text.specs.Text.{holding, push_of, writes}
use Rattle.text.proofs.DecimalLaws.{decimal_one, decimal_more}

-- ---- in two parts or at once

pub writes_append : (t : Text) (a b : List ℕ) → writes (writes t a) b ≡ writes t (a ++ b)
unfolding writes
writes_append t [] b = refl
writes_append t (x ∷ a) b = writes_append (push_of t x) a b

-- What is written behind a text is written behind what that was written behind.
pub joined : {t r : Text} (s : Text) (a b : List ℕ) → t ≡ writes s a → r ≡ writes t b → r ≡ writes s (a ++ b)
joined s a b p q = q ∙ (ap (λ (x : Text). writes x b) p ∙ writes_append s a b)

pub writes_none : (t : Text) → t ≡ writes t []
unfolding writes
writes_none t = refl

pub writes_one : (t : Text) (b : ℕ) → push_of t b ≡ writes t (b ∷ [])
unfolding writes
writes_one t b = refl

-- With these the check finds alone what a chain of writes comes to.
pub ruleset parts = (writes_append, writes_none, writes_one)

-- One byte behind those written.
pub writes_last : {t r : Text} (s : Text) (a : List ℕ) (b : ℕ) → t ≡ writes s a → r ≡ push_of t b
    → r ≡ writes s (a ++ (b ∷ []))
writes_last s a b p q =
    q ∙ ap (λ (x : Text). push_of x b) p ∙ writes_one (writes s a) b ∙ writes_append s a (b ∷ [])

-- ---- to a text held of a list

pub push_holding : (l : List ℕ) (b : ℕ) → push_of (holding l) b ≡ holding (l ++ (b ∷ []))
push_holding l b =
    by_le (λ (r : Text). r ≡ holding (l ++ (b ∷ []))) 250 (min 250 (length l)) _ _
    (λ h i. record { chars = full_chars 250 l (b ∷ []) h i; count = full_count 250 l (b ∷ []) h i })
    (λ h i. record { chars = room_chars 250 l b h i; count = room_count 250 l b h i })

pub writes_holding : (l s : List ℕ) → writes (holding l) s ≡ holding (l ++ s)
unfolding writes
writes_holding l [] = ap holding (sym (append-nil l))
writes_holding l (b ∷ s) =
    ap (λ (t : Text). writes t s) (push_holding l b) ∙ writes_holding (l ++ (b ∷ [])) s ∙ ap holding (append_snoc l b s)

-- ---- one by one

pub writes_folded : (t : Text) (bs : List ℕ) → fold push_of t bs ≡ writes t bs
unfolding writes
writes_folded t [] = refl
writes_folded t (b ∷ bs) = writes_folded (push_of t b) bs

-- ---- the digits of a number

pub one_digit : {r : Text} (s : Text) (n : ℕ) → n < 10 → r ≡ push_of s (48 + n) → r ≡ writes s (decimal_of n)
one_digit s n h p = p ∙ writes_one s (48 + n) ∙ ap (writes s) (sym (decimal_one n h))

pub more_digits : {t r : Text} (s : Text) (n : ℕ) → 10 ≤ n → t ≡ writes s (decimal_of (n / 10))
    → r ≡ push_of t (48 + n % 10) → r ≡ writes s (decimal_of n)
more_digits s n h p q =
    writes_last s (decimal_of (n / 10)) (48 + n % 10) p q ∙ ap (writes s) (sym (decimal_more n h))

pub with_sign : {t r : Text} (s : Text) (minus : Bool) (n : ℕ) → minus ≡ true → t ≡ push_of s 45
    → r ≡ writes t (decimal_of n) → r ≡ writes s (sign_text minus n)
with_sign s minus n e p q =
    q ∙ ap (λ (x : Text). writes x (decimal_of n)) (p ∙ writes_one s 45) ∙ writes_append s (45 ∷ []) (decimal_of n)
    ∙ ap (λ (m : Bool). writes s (sign_text m n)) (sym e)
