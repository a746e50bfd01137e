-- Of an accepted line: its command is in range, and its identification is one that the writer writes with it. A line
-- turned away is answered with one too. Assumes nothing.
use Rattle.line.specs.declared.Accepted.{Accepted}
use Rattle.line.specs.declared.Refusal.{Refusal}
use Rattle.std.proofs.Common.{Option, None, Some, Result, Ok, Err}
use Prim.Native.Nat.{ℕ, ◌-◌, min}
use native.Mathlib.Omega.{arith}
use mathlib.Core.Bool.{Bool, true, false, cond, false≢true}
use mathlib.Core.List.{List}
use mathlib.Core.Path.{◌≡◌, refl, sym, ap, subst, ◌∙◌}
use lib.ListN.{length}
use Rattle.laws.proofs.Pick.{by_lt, by_eq}
use Rattle.digits.specs.Digits.{digit_of, number_of}
use Rattle.line.specs.declared.command.Reading.TheVariants as R
use Rattle.line.specs.declared.command.Command.{Command}
use Rattle.line.specs.declared.command.Command.TheVariants as C
use Rattle.line.specs.Codes.{row_of, is_query}
use Rattle.line.specs.Line.{char_at, is_ident, value_of, ident_of, digit_count, digit_chars, judge_of, accepting, refusal_number}
use Rattle.line.specs.Fits.{CommandFits, AcceptedFits, JudgedFits}
use Rattle.line.proofs.Cases.{by_row, by_judge}
use Rattle.line.proofs.Fits.{owned, judge_fits}
use Rattle.reply.specs.Reply.{refusal_ident}
use Rattle.host.specs.Writer.{ident_fits, is_absent}

pub accepted_fits : (cs : List ℕ) (c : Command) (digits : ℕ) → judge_of cs ≡ accepting c digits → CommandFits c
accepted_fits cs c digits e =
    let f : AcceptedFits c digits = subst JudgedFits e (judge_fits cs) in
    f.command

ident_fits_lem : (cs : List ℕ) → is_ident (digit_of (char_at cs 8)) ≡ true → ident_fits (ident_of cs) ≡ true
ident_fits_lem cs e = by_eq (λ (i : Option ℕ). ident_fits i ≡ true) (length cs) 9 _ _ (λ _. e) (λ _. refl)

-- That which a line turned away is answered with.
pub named_late : (ident : Option ℕ) (n : ℕ) → ident_fits ident ≡ true → ident_fits (refusal_ident n ident) ≡ true
named_late ident n e = by_lt (λ (i : Option ℕ). ident_fits i ≡ true) n 8 None ident (λ _. refl) (λ _. e)

-- Of an accepted line it is one, and a query has no digits; a line turned away is answered with one.
abbrev pub Named : Option ℕ → ℕ → Result Accepted Refusal → Type 0
Named ident count (Ok a) = (ident_fits ident ≡ true) × (is_query a.command ≡ true → count ≡ 0)
Named ident count (Err r) = ident_fits (refusal_ident (refusal_number r) ident) ≡ true

pub line_named : (cs : List ℕ) → Named (ident_of cs) (digit_count cs) (judge_of cs)
line_named cs =
    let ident = ident_of cs in
    let count = digit_count cs in
    let n = value_of (number_of (digit_chars cs)) in
    let letter = char_at cs 0 in
    by_judge (Named ident count) cs refl refl refl refl
    λ e. let f = ident_fits_lem cs e in
    by_row (Named ident count) (row_of letter count n) count n (named_late ident 8 f) (named_late ident 9 f)
    (named_late ident 10 f) λ least c q _. (f, (owned count n letter least c q).bare)

-- A line with no digits has no identification.
bare_absent : (cs : List ℕ) → digit_count cs ≡ 0 → is_absent (ident_of cs) ≡ true
bare_absent cs e =
    by_eq (λ (i : Option ℕ). is_absent i ≡ true) (length cs) 9 _ _ (λ l. absurd (none l)) (λ _. refl)
  where
    none : length cs ≡ 9 → ⊥
    none l = let six : ◌≡◌ {A = ℕ} 0 6 = sym e ∙ ap (λ (x : ℕ). min 6 (x - 2)) l in omega arith

-- The identification of an accepted line is one that the writer writes with its command.
pub accepted_named : (cs : List ℕ) (c : Command) (digits : ℕ) → judge_of cs ≡ accepting c digits
    → cond (is_query c) (is_absent (ident_of cs)) (ident_fits (ident_of cs)) ≡ true
accepted_named cs c digits e = when (is_query c) refl
  where
    named : (ident_fits (ident_of cs) ≡ true) × (is_query c ≡ true → digit_count cs ≡ 0)
    named = subst (Named (ident_of cs) (digit_count cs)) e (line_named cs)

    when : (q : Bool) → is_query c ≡ q → cond q (is_absent (ident_of cs)) (ident_fits (ident_of cs)) ≡ true
    when true q = bare_absent cs (named.1 q)
    when false q = named.0

-- ---- a W query is one command, and an absent identification one identification

pub absent_is : (ident : Option ℕ) → is_absent ident ≡ true → ident ≡ None
absent_is None e = refl
absent_is (Some x) e = absurd (false≢true e)

pub query_is : (c : Command) → is_query c ≡ true → c ≡ C.Read R.Inputs
query_is (C.Distance k minus d) e = absurd (false≢true e)
query_is (C.Set k v) e = absurd (false≢true e)
query_is (C.Start k waits) e = absurd (false≢true e)
query_is (C.Order k) e = absurd (false≢true e)
query_is (C.Outputs v) e = absurd (false≢true e)
query_is (C.Read (R.Travel k)) e = absurd (false≢true e)
query_is (C.Read (R.Position k)) e = absurd (false≢true e)
query_is (C.Read R.Status) e = absurd (false≢true e)
query_is (C.Read R.Everything) e = absurd (false≢true e)
query_is (C.Read R.Inputs) e = refl
