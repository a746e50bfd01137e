-- The digits that are printed for a number, decimal or six hexadecimal ones, spell that number, and none of them is a
-- space. Assumes nothing.
use Rattle.std.proofs.Common.{Option, Some}
use Prim.Native.Nat.{ℕ, zero, suc, ◌+◌, ◌-◌, ◌*◌, ◌/◌, ◌%◌, min, ◌≤◌, ◌<◌}
use native.Mathlib.Omega.{arith}
use mathlib.Core.Bool.{false}
use mathlib.Core.List.{List, [], ◌∷◌, ◌++◌}
use mathlib.Core.Path.{◌≡◌, refl, ap, ◌∙◌}
use borrow.Author.Tests.{lt-ltb, le-ltb, ne_eqb}
use lib.Dec.{eqb}
use lib.ListN.{length, length-append}
use Rattle.laws.proofs.Pick.{by_lt}
use Rattle.digits.specs.Digits.{capital_of, six_of}
use Rattle.digits.proofs.Laws.{digit_capital}
use Rattle.text.specs.Decimal.{decimal_of}
use Rattle.text.proofs.DecimalLaws.{decimal_one, decimal_more}
use Rattle.numerals.specs.Numerals.{largest, join_of, read_on, spelled_of}

-- No character is a space (32).
abbrev pub NoSpace : List ℕ → Type 0
NoSpace [] = 0 < 1
NoSpace (c ∷ cs) = (eqb c 32 ≡ false) × NoSpace cs

no_space_join : (a b : List ℕ) → NoSpace a → NoSpace b → NoSpace (a ++ b)
no_space_join [] b p q = q
no_space_join (c ∷ a) b p q = (p.0, no_space_join a b p.1 q)

-- What spells a number: characters that are no space and are read as it, one or more.
pub record Spells (base n : ℕ) (cs : List ℕ) : Type 0 where
  pub some : 1 ≤ length cs
  pub read : read_on base (Some 0) cs ≡ Some n
  pub no_space : NoSpace cs

pub spelled : (base n : ℕ) (cs : List ℕ) → Spells base n cs → spelled_of base cs ≡ Some n
spelled base n cs s =
    let h : 1 ≤ length cs = s.some in
    rw (ne_eqb (length cs) 0 (λ (q : length cs ≡ 0). omega arith)) s.read

-- ---- Decimal digits

read_last : (base : ℕ) (s : Option ℕ) (cs : List ℕ) (c : ℕ)
    → read_on base s (cs ++ (c ∷ [])) ≡ join_of base (read_on base s cs) c
unfolding read_on
read_last base s [] c = refl
read_last base s (x ∷ cs) c = read_last base (join_of base s x) cs c

join_decimal : (m v : ℕ) → v < 10 → m * 10 + v ≤ largest → join_of 10 (Some m) (48 + v) ≡ Some (m * 10 + v)
join_decimal m v h k =
    let e : 48 + v - 48 ≡ v = omega arith in
    let a : 48 ≤ 48 + v = omega arith in
    let b : 48 + v < 58 = omega arith in
    let z : min largest (m * 10 + v) ≡ m * 10 + v = omega arith in
    rw (le-ltb (48 + v) 48 a, lt-ltb (48 + v) 58 b, e, lt-ltb v 10 h, z)

digit_no_space : (v : ℕ) → NoSpace ((48 + v) ∷ [])
digit_no_space v = (ne_eqb (48 + v) 32 (λ (q : 48 + v ≡ 32). omega arith), omega arith)

one_spells : (n : ℕ) → n < 10 → Spells 10 n ((48 + n) ∷ [])
unfolding read_on
one_spells n h = record {
  some = omega arith;
  read = join_decimal 0 n h (omega arith) ∙ ap Some (omega arith);
  no_space = digit_no_space n;
}

more_spells : (n : ℕ) (ds : List ℕ) → n ≤ largest → Spells 10 (n / 10) ds → Spells 10 n (ds ++ ((48 + n % 10) ∷ []))
more_spells n ds h s = record {
  some = omega (arith, length-append ds ((48 + n % 10) ∷ []));
  read = read_last 10 (Some 0) ds (48 + n % 10)
      ∙ (ap (λ (x : Option ℕ). join_of 10 x (48 + n % 10)) s.read
      ∙ (join_decimal (n / 10) (n % 10) (omega arith) (omega arith) ∙ ap Some (omega arith)));
  no_space = no_space_join ds ((48 + n % 10) ∷ []) s.no_space (digit_no_space (n % 10));
}

-- By a bound f above n: the digits of n are those of n / 10 and one more.
decimal_under : (f n : ℕ) → n < f → n ≤ largest → Spells 10 n (decimal_of n)
decimal_under zero n l h = absurd (omega arith)
decimal_under (suc f) n l h =
    by_lt {A = ℕ} (λ (x : ℕ). Spells 10 n (decimal_of n)) n 10 0 0
    (λ s. rw (decimal_one n s) (one_spells n s))
    (λ s. rw (decimal_more n s)
    (more_spells n (decimal_of (n / 10)) h (decimal_under f (n / 10) (omega arith) (omega arith))))

pub decimal_spells : (n : ℕ) → n ≤ largest → Spells 10 n (decimal_of n)
decimal_spells n h = decimal_under (suc n) n (omega arith) h

-- ---- Six hexadecimal digits

-- One more, of the value v: m becomes r.
join_capital : {s : Option ℕ} (m v r : ℕ) → s ≡ Some m → v < 16 → r ≡ m * 16 + v → r ≤ largest
    → join_of 16 s (capital_of v) ≡ Some r
join_capital m v r p h e k =
    let z : min largest (m * 16 + v) ≡ r = omega arith in
    ap (λ (x : Option ℕ). join_of 16 x (capital_of v)) p ∙ rw (digit_capital v h, lt-ltb v 16 h, z)

capital_no_space : (v : ℕ) → eqb (capital_of v) 32 ≡ false
capital_no_space v =
    by_lt (λ (c : ℕ). eqb c 32 ≡ false) (v % 16) 10 (48 + v % 16) (55 + v % 16)
    (λ _. ne_eqb (48 + v % 16) 32 (λ (q : 48 + v % 16 ≡ 32). omega arith))
    (λ _. ne_eqb (55 + v % 16) 32 (λ (q : 55 + v % 16 ≡ 32). omega arith))

pub six_spells : (w : ℕ) → w < 16777216 → Spells 16 w (six_of w)
unfolding six_of read_on
six_spells w h = record {
  some = omega arith;
  read = join_capital (w / 16) (w % 16) w
      (join_capital (w / 256) (w / 16 % 16) (w / 16)
      (join_capital (w / 4096) (w / 256 % 16) (w / 256)
      (join_capital (w / 65536) (w / 4096 % 16) (w / 4096)
      (join_capital (w / 1048576) (w / 65536 % 16) (w / 65536)
      (join_capital 0 (w / 1048576 % 16) (w / 1048576) refl (omega arith) (omega arith) (omega arith))
      (omega arith) (omega arith) (omega arith))
      (omega arith) (omega arith) (omega arith))
      (omega arith) (omega arith) (omega arith))
      (omega arith) (omega arith) (omega arith))
      (omega arith) (omega arith) (omega arith);
  no_space = (
    capital_no_space (w / 1048576 % 16),
    (
      capital_no_space (w / 65536 % 16),
      (
        capital_no_space (w / 4096 % 16),
        (
          capital_no_space (w / 256 % 16),
          (capital_no_space (w / 16 % 16), (capital_no_space (w % 16), omega arith)),
        ),
      ),
    ),
  );
}
