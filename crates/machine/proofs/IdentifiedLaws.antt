-- Replies return the very identification of their lines, for every list of calls (specs/Identified.antt). Assumes
-- nothing.
use Rattle.std.proofs.Common.{Option, None, Some}
use Prim.Native.Nat.{ℕ, ◌<◌}
use mathlib.Core.Bool.{Bool, true, false, cond, false≢true}
use mathlib.Core.List.{List, [], ◌∷◌, ◌++◌}
use mathlib.Core.Path.{◌≡◌, refl, sym, ap, subst, transport, ◌∙◌}
use native.Mathlib.Omega.{arith}
use borrow.Author.Tests.{le-leb, lt-leb, eq-eqb, ne_eqb, eqb-true}
use lib.Dec.{leb, eqb}
use lib.ListN.{length}
use Rattle.laws.proofs.Pick.{by_bool, by_lt}
use Rattle.block.specs.Block.{Blocks}
use Rattle.block.proofs.Named.{bears}
use Rattle.line.specs.declared.command.Command.{Command}
use Rattle.line.specs.Codes.{is_w}
use Rattle.line.specs.Line.{char_at, silent_of, ident_of}
use Rattle.receiver.specs.Receiver.{heard_line}
use Rattle.reply.specs.Reply.{letter_r, refusal_ident}
use Rattle.reply.proofs.BlockLaws.{no_blocks, one_block, reply_blocks, refusal_blocks}
use Rattle.machine.specs.State.{Machine}
use Rattle.machine.specs.Replies.{told_of, unless_silent}
use Rattle.machine.specs.Steps.{Outcome, untaken, refused, accepted, outcome_of, outcome, answered, byte_step, is_short, tick_step}
use Rattle.machine.specs.Calls.{Call, byte, tick, run, state}
use Rattle.machine.specs.Settle.{
  Latest,
  no_line,
  w_line,
  latest_by,
  ends_w,
  last_w,
  switch_of,
  block_to,
  is_due,
  block_due,
  latest_block,
}
use Rattle.machine.specs.Identified.{received, latest_w, is_returned, Bears, Returned, Returns}
use Rattle.machine.proofs.AsideLaws.{tick_aside, end_clear, joins, untakes}
use Rattle.machine.proofs.Outcomes.{by_line}
use Rattle.machine.proofs.SettleLaws.{tied, settled}

-- ---- The characters

tick_line : (m : Machine) (w : ℕ) (d : List ℕ) → (tick_step m w d).machine.line ≡ m.line
tick_line m w d = ap (λ (a : Machine). a.line) (tick_aside m.line m w d)

pub received_is : (s : ℕ) (h : List Call) → (state s h).line ≡ received h
unfolding run received
received_is s [] = refl
received_is s (tick w d ∷ h) = tick_line (state s h) w d ∙ received_is s h
received_is s (byte b d ∷ h) =
    by_bool P (is_short d) _ _ (λ e. ap line_of (untakes m b d e) ∙ received_is s h)
    (λ e. by_bool P (eqb b 13) _ _
    (λ q. ap (λ (k : ℕ). (byte_step m k d).machine.line) (eqb-true b 13 q) ∙ end_clear m d e)
    (λ q. ap line_of (joins m b d e q) ∙ ap (λ (l : List ℕ). l ++ (b ∷ [])) (received_is s h)))
  where
    m : Machine
    m = state s h

    line_of : Machine → List ℕ
    line_of x = x.line

    P : List ℕ → Type 0
    P l = (byte_step m b d).machine.line ≡ l

-- ---- The blocks of an answer

silent_blocks : (switch : ℕ) (ident : Option ℕ) (silent : Bool) (reply : List ℕ) → Blocks switch ident reply
    → Blocks switch ident (unless_silent silent reply)
silent_blocks switch ident true reply b = no_blocks switch ident
silent_blocks switch ident false reply b = b

-- A turned-away line has it from 8 on.
refusal_returned : (cs : List ℕ) (n : ℕ) → 0 < n → refusal_ident n (ident_of cs) ≡ cond (is_returned n) (ident_of cs) None
refusal_returned cs n h =
    let e : eqb n 0 ≡ false = ne_eqb n 0 (λ (q : n ≡ 0). absurd (omega (arith, h, q))) in
    rw e (by_lt (λ (x : Option ℕ). x ≡ cond (leb 8 n) (ident_of cs) None) n 8 None (ident_of cs)
    (λ q. rw (lt-leb 8 n q)) (λ q. rw (le-leb 8 n q)))

-- What a byte of the machine m answers, its outcome being o.
abbrev Answers : Machine → ℕ → Outcome → Type 0
Answers m b o =
    Blocks m.switch (cond (is_returned (answered m b o).number) (ident_of m.line) None) (answered m b o).reply

refused_blocks : (m : Machine) (b n : ℕ) → 0 < n → Answers m b (refused n (silent_of m.line) (ident_of m.line))
refused_blocks m b n h =
    let ident = ident_of m.line in
    subst (λ (x : Option ℕ). Blocks m.switch x (answered m b (refused n (silent_of m.line) ident)).reply)
    (refusal_returned m.line n h)
    (silent_blocks m.switch (refusal_ident n ident) (silent_of m.line) _ (refusal_blocks m.switch n ident))

accepted_blocks : (m : Machine) (b : ℕ) (c : Command) (digits : ℕ)
    → Answers m b (accepted c digits (silent_of m.line) (ident_of m.line))
accepted_blocks m b c digits =
    let ident = ident_of m.line in
    silent_blocks m.switch ident (silent_of m.line) _ (reply_blocks (told_of m) c digits ident)

byte_blocks : (m : Machine) (b : ℕ) (d : List ℕ) → Answers m b (outcome m b d)
byte_blocks m b =
    by_line m (Answers m b) (no_blocks _ _) (no_blocks _ _) (refused_blocks m b)
    (λ c digits q. accepted_blocks m b c digits) b

-- ---- W lines

-- The identification of the latest accepted one is that of its characters.
abbrev Named : Latest → List ℕ → Type 0
Named no_line cs = Unit {0}
Named (w_line silent ident) cs = ident ≡ ident_of cs

named_byte : (m : Machine) (b : ℕ) (d : List ℕ) (cs : List ℕ) (l : Latest) (old : List ℕ) → m.line ≡ cs → Named l old
    → Named (latest_by (outcome m b d) l) (cond (ends_w (outcome m b d)) cs old)
named_byte m b d cs l old e q =
    by_line m (λ (o : Outcome). Named (latest_by o l) (cond (ends_w o) cs old)) q q (λ n h. q)
    (λ c digits p. when (is_w c)) b d
  where
    when : (t : Bool) → Named (cond t (w_line (silent_of m.line) (ident_of m.line)) l) (cond t cs old)
    when true = ap ident_of e
    when false = q

named : (s : ℕ) (h : List Call) → Named (last_w s h) (latest_w s h)
unfolding run last_w latest_w
named s [] = tt
named s (byte b d ∷ h) = named_byte (state s h) b d (received h) (last_w s h) (latest_w s h) (received_is s h) (named s h)
named s (tick w d ∷ h) = named s h

block_of : (s w : ℕ) (l : Latest) (cs : List ℕ) → Named l cs → Blocks (switch_of s) (ident_of cs) (block_to s l w)
block_of s w no_line cs e = no_blocks _ _
block_of s w (w_line true ident) cs e = no_blocks _ _
block_of s w (w_line false ident) cs e =
    subst (λ (x : Option ℕ). Blocks (switch_of s) x (block_to s (w_line false ident) w)) e
    (one_block (switch_of s) letter_r w ident)

tick_blocks : (s : ℕ) (h : List Call) (w : ℕ) (d : List ℕ)
    → Blocks (switch_of s) (ident_of (latest_w s h)) (tick_step (state s h) w d).reply
unfolding latest_block block_due
tick_blocks s h w d =
    subst (Blocks (switch_of s) (ident_of (latest_w s h))) (sym (settled s (tick w d ∷ h)).answered)
    (by_bool (Blocks (switch_of s) (ident_of (latest_w s h))) (is_due s h w d) _ _
    (λ e. block_of s w (last_w s h) (latest_w s h) (named s h)) (λ e. no_blocks _ _))

-- ---- Every list

-- Blocks with the ninth of nine characters bear it.
borne : (switch : ℕ) (cs : List ℕ) (with : Bool) (bytes : List ℕ) → Blocks switch (cond with (ident_of cs) None) bytes
    → with ≡ true → length cs ≡ 9 → Bears (char_at cs 8) bytes
borne switch cs true bytes b q e =
    let x : ident_of cs ≡ Some (char_at cs 8) = rw (eq-eqb (length cs) 9 e) in
    bears switch (char_at cs 8) bytes (subst (λ (y : Option ℕ). Blocks switch y bytes) x b)
borne switch cs false bytes b q e = absurd (false≢true q)

-- With another number of characters there is none to bear.
unborne : (switch : ℕ) (cs : List ℕ) (with : Bool) (bytes : List ℕ)
    → Blocks switch (cond with (ident_of cs) None) bytes → (length cs ≡ 9 → ⊥) → Blocks switch None bytes
unborne switch cs true bytes b n =
    let x : ident_of cs ≡ None = rw (ne_eqb (length cs) 9 n) in
    subst (λ (y : Option ℕ). Blocks switch y bytes) x b
unborne switch cs false bytes b n = b

returned : (switch : ℕ) (cs : List ℕ) (with : Bool) (bytes : List ℕ)
    → Blocks switch (cond with (ident_of cs) None) bytes → Returned switch cs with bytes
returned switch cs with bytes b =
    record { blocks = b; ninth = borne switch cs with bytes b; bare = unborne switch cs with bytes b }

pub returns : Returns
returns s h = record {
  line = λ d e. ap (λ (t : Bool). cond t untaken (outcome_of m (heard_line m.line))) e
      ∙ ap (λ (l : List ℕ). outcome_of m (heard_line l)) (received_is s h);
  reply = λ b d. returned (switch_of s) (received h) (is_returned (byte_step m b d).number) (byte_step m b d).reply
      (transport (λ i. Blocks ((tied s h).switch i)
      (cond (is_returned (byte_step m b d).number) (ident_of (received_is s h i)) None) (byte_step m b d).reply)
      (byte_blocks m b d));
  block = λ w d. returned (switch_of s) (latest_w s h) true (tick_step m w d).reply (tick_blocks s h w d);
}
  where
    m : Machine
    m = state s h
