-- Lists without a line feed, by their parts: bytes before a mark, numbers, and the writer's lines. Assumes nothing.
use Rattle.std.proofs.Common.{Option, None, Some}
use Prim.Native.Nat.{ℕ, zero, suc, ◌+◌, ◌/◌, ◌%◌}
use native.Mathlib.Omega.{arith}
use mathlib.Core.Bool.{Bool, true, false, cond, ◌&&◌, false≢true}
use mathlib.Core.List.{List, [], ◌∷◌, ◌++◌}
use mathlib.Core.Path.{◌≡◌, refl, sym, ap, ◌∙◌}
use borrow.Author.Tests.{ne_eqb, eqb-true}
use lib.Dec.{ltb, eqb}
use Rattle.laws.proofs.Pick.{by_bool}
use Rattle.digits.specs.Digits.{four_digits, five_digits, end_byte, digit_of, capital_of, six_of}
use Rattle.block.specs.Block.{ident_chars, block_of}
use Rattle.line.specs.Codes.{is_query}
use Rattle.line.specs.Line.{is_ident}
use Rattle.line.specs.Ranges.{fits}
use Rattle.line.specs.declared.command.Command.{Command}
use Rattle.line.specs.declared.command.Command.TheVariants as C
use Rattle.line.specs.declared.command.Reading.TheVariants as R
use Rattle.receiver.specs.Receiver.{before}
use Rattle.host.specs.Writer.{ident_fits, is_absent, has_line, letter_of, digits_of, switch_of, query_of, full_of, line_of}
use Rattle.host.specs.declared.Request.{Request}
use Rattle.text.specs.Decimal.{spell, decimal_of, sign_text}
use Rattle.text.specs.Parts.{behind, part}

-- Whether a list has no line feed (10).
unfoldable pub is_line : List ℕ → Bool
is_line [] = true
is_line (c ∷ cs) = cond (eqb c 10) false (is_line cs)

abbrev pub Clean : List ℕ → Type 0
Clean l = is_line l ≡ true

-- ---- parts of a list

pub one : (c : ℕ) (l : List ℕ) → eqb c 10 ≡ false → Clean l → Clean (c ∷ l)
unfolding is_line
one c l e p = rw e p

first : (t a b : Bool) → cond t false a ≡ true → (a ≡ true → b ≡ true) → cond t false b ≡ true
first true a b p f = absurd (false≢true p)
first false a b p f = f p

pub join : (a b : List ℕ) → Clean a → Clean b → Clean (a ++ b)
unfolding is_line
join [] b p q = q
join (c ∷ a) b p q = first (eqb c 10) (is_line a) (is_line (a ++ b)) p (λ r. join a b r q)

pub either : (t : Bool) (a b : List ℕ) → Clean a → Clean b → Clean (cond t a b)
either true a b p q = p
either false a b p q = q

-- What stands before a mark.
early : (marks : ℕ → Bool) (l : List ℕ) → Clean l → Clean (before marks l)
unfolding is_line before
early marks [] p = refl
early marks (c ∷ l) p =
    either (marks c) [] (c ∷ before marks l) refl
    (first (eqb c 10) (is_line l) (is_line (before marks l)) p (λ r. early marks l r))

pub first_part : (mark : ℕ) (l : List ℕ) → Clean l → Clean (part mark 0 l)
unfolding behind
first_part mark l p = early (λ c. eqb c mark) l p

-- What stands before a line feed.
row_clean : (l : List ℕ) → Clean (before (λ c. eqb c 10) l)
unfolding is_line before
row_clean [] = refl
row_clean (c ∷ l) = when (eqb c 10) refl (row_clean l)
  where
    when : (t : Bool) → eqb c 10 ≡ t → is_line (before (λ c. eqb c 10) l) ≡ true
        → is_line (cond t [] (c ∷ before (λ c. eqb c 10) l)) ≡ true
    when true e p = refl
    when false e p = rw e p

pub row : (k : ℕ) (table : List ℕ) → Clean (part 10 k table)
row k table = row_clean (behind 10 k table)

-- ---- numbers

spell_clean : (f n : ℕ) → Clean (spell f n)
unfolding is_line spell
spell_clean zero n = refl
spell_clean (suc f) n =
    either (ltb n 10) ((48 + n) ∷ []) (spell f (n / 10) ++ ((48 + n % 10) ∷ []))
    (one (48 + n) [] (ne_eqb (48 + n) 10 (λ (q : 48 + n ≡ 10). omega (arith, q))) refl)
    (join (spell f (n / 10)) ((48 + n % 10) ∷ []) (spell_clean f (n / 10))
    (one (48 + n % 10) [] (ne_eqb (48 + n % 10) 10 (λ (q : 48 + n % 10 ≡ 10). omega (arith, q))) refl))

pub decimal : (n : ℕ) → Clean (decimal_of n)
unfolding decimal_of
decimal n = spell_clean (n + 1) n

pub sign : (minus : Bool) (n : ℕ) → Clean (sign_text minus n)
unfolding is_line
sign minus n = either minus (45 ∷ decimal_of n) (decimal_of n) (decimal n) (decimal n)

pub capital : (v : ℕ) → eqb (capital_of v) 10 ≡ false
capital v =
    by_bool (λ (c : ℕ). eqb c 10 ≡ false) (ltb (v % 16) 10) (48 + v % 16) (55 + v % 16)
    (λ _. ne_eqb (48 + v % 16) 10 (λ (q : 48 + v % 16 ≡ 10). omega (arith, q)))
    (λ _. ne_eqb (55 + v % 16) 10 (λ (q : 55 + v % 16 ≡ 10). omega (arith, q)))

digit : (v : ℕ) (l : List ℕ) → Clean l → Clean (capital_of v ∷ l)
digit v l p = one (capital_of v) l (capital v) p

pub six : (n : ℕ) → Clean (six_of n)
unfolding is_line six_of
six n =
    let a = capital_of (n % 16) ∷ [] in
    let b = capital_of (n / 16 % 16) ∷ a in
    let c = capital_of (n / 256 % 16) ∷ b in
    let d = capital_of (n / 4096 % 16) ∷ c in
    let e = capital_of (n / four_digits % 16) ∷ d in
    digit (n / five_digits % 16) e
    (digit (n / four_digits % 16) d
    (digit (n / 4096 % 16) c (digit (n / 256 % 16) b (digit (n / 16 % 16) a (digit (n % 16) [] refl)))))

-- ---- an identification, and the writer's lines

pub named : (ident : Option ℕ) → ident_fits ident ≡ true → Clean (ident_chars ident)
unfolding is_line
named None e = refl
named (Some c) e = when (eqb c 10) refl
  where
    when : (t : Bool) → eqb c 10 ≡ t → cond t false true ≡ true
    when true q =
        absurd (false≢true (sym (ap (λ (x : ℕ). is_ident (digit_of x)) (eqb-true c 10 q)) ∙ e))
    when false q = refl

letter_clean : (c : Command) → eqb (letter_of c) 10 ≡ false
letter_clean (C.Distance k minus d) = refl
letter_clean (C.Set k v) = by_bool (λ (x : ℕ). eqb x 10 ≡ false) (ltb k 13) 80 81 (λ _. refl) (λ _. refl)
letter_clean (C.Start k waits) = refl
letter_clean (C.Order k) = refl
letter_clean (C.Outputs v) = refl
letter_clean (C.Read (R.Travel k)) = refl
letter_clean (C.Read (R.Position k)) = refl
letter_clean (C.Read R.Status) = refl
letter_clean (C.Read R.Everything) = refl
letter_clean (C.Read R.Inputs) = refl

query_clean : (silent : Bool) → Clean (query_of silent)
unfolding is_line
query_clean true = refl
query_clean false = refl

full_clean : (silent : Bool) (c : Command) (ident : Option ℕ) → ident_fits ident ≡ true
    → Clean (full_of silent (letter_of c) (digits_of c) ident)
unfolding is_line block_of
full_clean silent c ident e =
    let i = ident_chars ident ++ (end_byte ∷ []) in
    let d = six_of (digits_of c) ++ i in
    one (letter_of c) (capital_of (switch_of silent) ∷ d) (letter_clean c)
    (digit (switch_of silent) d
    (join (six_of (digits_of c)) i (six (digits_of c)) (join (ident_chars ident) (end_byte ∷ []) (named ident e) refl)))

pub line_clean : (r : Request) → has_line r ≡ true → Clean (line_of r)
unfolding line_of
line_clean r h = when (is_query r.command) (both (fits r.command) _ h)
  where
    both : (a b : Bool) → a && b ≡ true → b ≡ true
    both true b e = e
    both false b e = absurd (false≢true e)

    when : (t : Bool) → cond t (is_absent r.ident) (ident_fits r.ident) ≡ true
        → Clean (cond t (query_of r.silent)
        (full_of r.silent (letter_of r.command) (digits_of r.command) r.ident))
    when true e = query_clean r.silent
    when false e = full_clean r.silent r.command r.ident e
