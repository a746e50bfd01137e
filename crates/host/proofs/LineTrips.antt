-- What the writer promises of every request and of every line: the trip of lines and its converse. Assumes nothing.
use Rattle.line.specs.declared.Accepted.{Accepted}
use Rattle.line.specs.declared.Refusal.{Refusal}
use Rattle.receiver.specs.declared.Line.{Line}
use Rattle.receiver.specs.Receiver.{line_heard}
use Rattle.std.proofs.Common.{Option, Some, None, Result, Ok}
use Prim.Native.Nat.{ℕ, zero, suc, ◌-◌, ◌≤◌}
use native.Mathlib.Omega.{arith}
use mathlib.Core.Bool.{Bool, true, false, cond, not, false≢true}
use mathlib.Core.List.{List, [], ◌∷◌}
use mathlib.Core.Path.{◌≡◌, refl, sym, ap, ◌∙◌}
use borrow.Author.Tests.{le-ltb}
use lib.Dec.{ltb}
use lib.ListN.{length, get_or}
use Rattle.laws.proofs.Tests.{both}
use Rattle.digits.specs.Characters.{digit_characters, is_one}
use Rattle.digits.proofs.CharacterLaws.{one_to_one}
use Rattle.block.proofs.Blocks.{block_given}
use Rattle.block.proofs.Named.{block_ninth}
use Rattle.line.specs.declared.command.Command.{Command}
use Rattle.line.specs.Codes.{is_query}
use Rattle.line.specs.Ranges.{fits}
use Rattle.line.specs.Line.{silent_of, ident_of, judge_of, accepting}
use Rattle.host.specs.declared.Request.{Request}
use Rattle.host.specs.Writer.{
  letter_of,
  digits_of,
  ident_fits,
  is_absent,
  has_line,
  switch_of,
  query_of,
  full_of,
  line_of,
  line,
  refused,
  written_of,
}
use Rattle.host.specs.RoundTrip.{heard_all, ended_after, heard_as, request_in, LineTrip, Asked, LineBack}
use Rattle.host.proofs.JudgeLaws.{accepted_fits, accepted_named}
use Rattle.host.proofs.Lines.{request_lined}
use Rattle.host.proofs.RoundTrip.{round_trip, front_line}
use Rattle.host.proofs.MachineTrip.{machine_trip}

-- ---- what a heard line tells

line_told : {k l : Line} → Some k ≡ Some l → k ≡ l
line_told e = cc

accepted_told : {a b : Accepted} → ◌≡◌ {A = Result Accepted Refusal} (Ok a) (Ok b) → a ≡ b
accepted_told e = cc

module _ {a b : Bool} {i j : Option ℕ} {x y : Result Accepted Refusal} (e : line_heard a i x ≡ line_heard b j y) where
  silent_told : a ≡ b
  silent_told = ap (λ (l : Line). l.silent) (line_told e)

  ident_told : i ≡ j
  ident_told = ap (λ (l : Line). l.ident) (line_told e)

  judged_told : x ≡ y
  judged_told = ap (λ (l : Line). l.judged) (line_told e)

command_told : {c d : Command} {m n : ℕ} → accepting c m ≡ accepting d n → c ≡ d
command_told e = ap (λ (a : Accepted). a.command) (accepted_told e)

end_told : (n : ℕ) (x y : Option Line) → ended_after n x ≡ ended_after n y → x ≡ y
end_told zero x y e = cc
end_told (suc n) x y e = end_told n x y (rest e)
  where
    rest : {k l : List (Option Line)} → None ∷ k ≡ None ∷ l → k ≡ l
    rest e = cc

-- ---- the trip

has_named : (silent : Bool) (c : Command) (x : ℕ) → fits c ≡ true → is_query c ≡ false
    → has_line (record { silent = silent; command = c; ident = Some x }) ≡ is_one x digit_characters
has_named silent c x f q = rw (f, q) (one_to_one.digits x)

-- A line with an identification has ten bytes, that character before its 0D: no query has one.
pub ninth_of : (r : Request) (x : ℕ) → has_line r ≡ true → r.ident ≡ Some x
    → (length (line_of r) ≡ 10) × (get_or (line_of r) 8 0 ≡ x)
unfolding line_of
ninth_of r x e i = when (is_query r.command) (both (fits r.command) _ e).1
  where
    full : Option ℕ → List ℕ
    full ident = full_of r.silent (letter_of r.command) (digits_of r.command) ident

    when : (q : Bool) → cond q (is_absent r.ident) (ident_fits r.ident) ≡ true
        → (length (cond q (query_of r.silent) (full r.ident)) ≡ 10)
        × (get_or (cond q (query_of r.silent) (full r.ident)) 8 0 ≡ x)
    when true f = absurd (false≢true (ap is_absent (sym i) ∙ f))
    when false f = (
      block_given _ x i,
      ap (λ (y : Option ℕ). get_or (full y) 8 0) i
          ∙ block_ninth (letter_of r.command) (switch_of r.silent) (digits_of r.command) x,
    )

-- What is heard of a line is its request.
two_lines : (r q : Request) → has_line r ≡ true → has_line q ≡ true → line_of r ≡ line_of q → r ≡ q
two_lines r q f g e =
    let h = end_told (length (line_of q) - 1) _ _ (sym (ap (λ (l : List ℕ). ended_after (length l - 1) (told r)) e)
    ∙ (sym (round_trip r f) ∙ (ap (heard_all []) e ∙ round_trip q g))) in
    λ i. record {
      silent = silent_told h i;
      command = command_told (judged_told h) i;
      ident = ident_told h i;
    }
  where
    told : Request → Option Line
    told x = heard_as x (digits_of x.command)

pub line_trip : LineTrip
line_trip = record {
  front = front_line;
  heard = round_trip;
  obeys = machine_trip;
  named = has_named;
  ninth = λ r x e i. (ninth_of r x e i).1;
  apart = two_lines;
}

-- ---- the converse

has_line_lem : (cs : List ℕ) (c : Command) (digits : ℕ) → judge_of cs ≡ accepting c digits
    → has_line (request_in cs c) ≡ true
has_line_lem cs c digits e = rw (accepted_fits cs c digits e) (accepted_named cs c digits e)

-- A request that some line asks for has a line.
asked_has : (r : Request) → Asked r → has_line r ≡ true
asked_has r a =
    let s : silent_of a.chars ≡ r.silent = silent_told a.heard in
    let i : ident_of a.chars ≡ r.ident = ident_told a.heard in
    let j : judge_of a.chars ≡ accepting r.command a.digits = judged_told a.heard in
    sym (λ k. has_line (record { silent = s k; command = r.command; ident = i k }))
    ∙ has_line_lem a.chars r.command a.digits j

has_asked : (r : Request) → has_line r ≡ true → Asked r
has_asked r e =
    let l = request_lined r e in
    record { chars = l.chars; digits = digits_of r.command; heard = l.heard }

module _ (r : Request) (d : List ℕ) where
  without : written_of r d ≡ refused 19 → Asked r → ⊥
  unfolding written_of
  without e a = short (ltb (length d) 10) (rw (asked_has r a) at e)
    where
      short : (t : Bool) → cond t (refused 18) (line (length (line_of r))) ≡ refused 19 → ⊥
      short true e = let z : ◌≡◌ {A = ℕ} 18 19 = cc in omega arith
      short false e = let z : ◌≡◌ {A = ℕ} 0 1 = cc in omega arith

  only : 10 ≤ length d → (Asked r → ⊥) → written_of r d ≡ refused 19
  unfolding written_of
  only h not-asked = rw (le-ltb (length d) 10 h) (when (has_line r) refl)
    where
      when : (t : Bool) → has_line r ≡ t → cond (not t) (refused 19) (line (length (line_of r))) ≡ refused 19
      when true e = absurd (not-asked (has_asked r e))
      when false e = refl

pub line_back : LineBack
line_back = record {
  has = has_line_lem;
  same = λ cs c digits e. round_trip (request_in cs c) (has_line_lem cs c digits e);
  without = without;
  only = only;
}
