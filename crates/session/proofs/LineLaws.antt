-- Whole lines, taken byte by byte: those that begin with T are kept to their end, others go in as they come. Assumes
-- nothing.
use Prim.Native.Nat.{ℕ}
use native.Mathlib.Omega.{arith}
use mathlib.Core.Bool.{Bool, true, false, cond, not, ◌&&◌}
use mathlib.Core.List.{List, [], ◌∷◌, ◌++◌, append_assoc, append-nil}
use mathlib.Core.Path.{◌≡◌, refl, sym, ap, ◌∙◌}
use lib.Dec.{eqb}
use lib.Seq.{append_snoc}
use Rattle.digits.specs.Digits.{number_of, six_of}
use Rattle.block.specs.Block.{block_of}
use Rattle.line.specs.Line.{judge_of, judge_row}
use Rattle.reply.specs.Reply.{reply_of}
use Rattle.machine.specs.State.{Machine}
use Rattle.machine.specs.Steps.{power_on, byte_step}
use Rattle.machine.specs.Calls.{Call, byte, bytes, chars, run, from, buffer}
use Rattle.session.specs.Asked.{letter_t, asked_of}
use Rattle.session.specs.Session.{sending, asking, Answer, fresh, shown, asks}
use Rattle.session.specs.Lines.{prints, fed, at_line, replies, goes_in, done_by, line_done, is_line, Lines}
use Rattle.session.proofs.OpeningLaws.{off_is, first_is}
use Rattle.session.proofs.SettledLaws.{silent_is, settles_is}
use Rattle.session.proofs.PrintedLaws.{prints_parts}

-- A character of a line is no line feed, and the rest is a line.
char : (t r : Bool) → not t && r ≡ true → t ≡ false
char true r e = let n : ◌≡◌ {A = ℕ} 0 1 = cc in absurd (omega arith)
char false r e = refl

rest_line : (t r : Bool) → not t && r ≡ true → r ≡ true
rest_line true r e = let n : ◌≡◌ {A = ℕ} 0 1 = cc in absurd (omega arith)
rest_line false r e = e

-- ---- in a line that begins with T

asking_whole : (m : Machine) (l cs rest : List ℕ) → is_line cs ≡ true
    → prints (record { machine = m; place = asking l }) (cs ++ (10 ∷ rest))
    ≡ (asks m (asked_of (l ++ cs))).printed ++ prints (asks m (asked_of (l ++ cs))).bench rest
unfolding prints
asking_whole m l [] rest e = rw (append-nil l)
asking_whole m l (c ∷ cs) rest e =
    rw (char (eqb c 10) (is_line cs) e)
    (asking_whole m (l ++ (c ∷ [])) cs rest (rest_line (eqb c 10) (is_line cs) e)
    ∙ ap (λ (x : List ℕ). (asks m (asked_of x)).printed ++ prints (asks m (asked_of x)).bench rest) (append_snoc l c cs))

asking_last : (m : Machine) (l cs : List ℕ) → is_line cs ≡ true
    → prints (record { machine = m; place = asking l }) cs ≡ (asks m (asked_of (l ++ cs))).printed
unfolding prints
asking_last m l [] e = rw (append-nil l)
asking_last m l (c ∷ cs) e =
    rw (char (eqb c 10) (is_line cs) e)
    (asking_last m (l ++ (c ∷ [])) cs (rest_line (eqb c 10) (is_line cs) e)
    ∙ ap (λ (x : List ℕ). (asks m (asked_of x)).printed) (append_snoc l c cs))

-- ---- in a line that goes in

-- Bytes after some calls go in from the machine that these left.
from_on : (m : Machine) (bs : List ℕ) (h : List Call) → from m (bytes bs h) ≡ from (from m h) (bytes bs [])
unfolding run
from_on m [] h = refl
from_on m (b ∷ bs) h = from_on m bs (byte b buffer ∷ h) ∙ sym (from_on (from m h) bs (byte b buffer ∷ []))

-- The rest of a line, one of whose characters went in.
next : (m : Machine) (c : ℕ) (cs rest : List ℕ)
    → prints (at_line (from (byte_step m c buffer).machine (bytes cs []))) rest
    ≡ prints (at_line (from m (bytes (c ∷ cs) []))) rest
unfolding run
next m c cs rest = ap (λ (x : Machine). prints (at_line x) rest) (sym (from_on m cs (byte c buffer ∷ [])))

sending_whole : (m : Machine) (cs rest : List ℕ) → is_line cs ≡ true
    → prints (record { machine = m; place = sending }) (cs ++ (10 ∷ rest))
    ≡ (goes_in m (cs ++ (13 ∷ []))).printed ++ prints (goes_in m (cs ++ (13 ∷ []))).bench rest
unfolding prints replies run
sending_whole m [] rest e =
    ap (λ (x : List ℕ). x ++ prints (at_line (byte_step m 13 buffer).machine) rest)
    (sym (append-nil (shown (byte_step m 13 buffer).reply)))
sending_whole m (c ∷ cs) rest e =
    rw (char (eqb c 10) (is_line cs) e)
    (ap (λ (x : List ℕ). shown (byte_step m c buffer).reply ++ x)
    (sending_whole (byte_step m c buffer).machine cs rest (rest_line (eqb c 10) (is_line cs) e)
    ∙ ap (λ (x : List ℕ). replies (byte_step m c buffer).machine (cs ++ (13 ∷ [])) ++ x)
    (next m c (cs ++ (13 ∷ [])) rest))
    ∙ sym (append_assoc (shown (byte_step m c buffer).reply) _ _))

sending_last : (m : Machine) (cs : List ℕ) → is_line cs ≡ true
    → prints (record { machine = m; place = sending }) cs ≡ (goes_in m (cs ++ (13 ∷ []))).printed
unfolding prints replies run
sending_last m [] e = sym (append-nil (shown (byte_step m 13 buffer).reply))
sending_last m (c ∷ cs) e =
    rw (char (eqb c 10) (is_line cs) e)
    (ap (λ (x : List ℕ). shown (byte_step m c buffer).reply ++ x)
    (sending_last (byte_step m c buffer).machine cs (rest_line (eqb c 10) (is_line cs) e)))

-- ---- from the first character

-- The first character: a T is kept, another goes in.
abbrev kept : Machine → ℕ → Answer
kept m c = record { bench = record { machine = m; place = asking (c ∷ []) }; printed = []; number = 0 }

abbrev gone : Machine → ℕ → Answer
gone m c = record {
  bench = record { machine = (byte_step m c buffer).machine; place = sending };
  printed = shown (byte_step m c buffer).reply;
  number = (byte_step m c buffer).number;
}

whole_line : (m : Machine) (cs rest : List ℕ) → is_line cs ≡ true
    → prints (at_line m) (cs ++ (10 ∷ rest)) ≡ (line_done m cs).printed ++ prints (line_done m cs).bench rest
unfolding prints replies run
whole_line m [] rest e =
    ap (λ (x : List ℕ). x ++ prints (at_line (byte_step m 13 buffer).machine) rest)
    (sym (append-nil (shown (byte_step m 13 buffer).reply)))
whole_line m (c ∷ cs) rest e = rw (char (eqb c 10) (is_line cs) e) (by (eqb c letter_t))
  where
    by : (t : Bool)
        → (cond t (kept m c) (gone m c)).printed ++ prints (cond t (kept m c) (gone m c)).bench (cs ++ (10 ∷ rest))
        ≡ (cond t (done_by (asks m (asked_of (c ∷ cs)))) (goes_in m (c ∷ (cs ++ (13 ∷ []))))).printed
        ++ prints (cond t (done_by (asks m (asked_of (c ∷ cs)))) (goes_in m (c ∷ (cs ++ (13 ∷ []))))).bench rest
    by true = asking_whole m (c ∷ []) cs rest (rest_line (eqb c 10) (is_line cs) e)
    by false = rw (char (eqb c 10) (is_line cs) e) at (sending_whole m (c ∷ cs) rest e)

last_line : (m : Machine) (c : ℕ) (cs : List ℕ) → is_line (c ∷ cs) ≡ true
    → prints (at_line m) (c ∷ cs) ≡ (line_done m (c ∷ cs)).printed
unfolding prints replies run
last_line m c cs e = rw (char (eqb c 10) (is_line cs) e) (by (eqb c letter_t))
  where
    by : (t : Bool)
        → (cond t (kept m c) (gone m c)).printed ++ prints (cond t (kept m c) (gone m c)).bench cs
        ≡ (cond t (done_by (asks m (asked_of (c ∷ cs)))) (goes_in m (c ∷ (cs ++ (13 ∷ []))))).printed
    by true = asking_last m (c ∷ []) cs (rest_line (eqb c 10) (is_line cs) e)
    by false = rw (char (eqb c 10) (is_line cs) e) at (sending_last m (c ∷ cs) e)

-- The host's first line as the first of an input.
opens_is : (bs : List ℕ)
    → prints (at_line (power_on 0)) (fed ("P0B0" ∷ []) ++ bs) ≡ fed ("U0000000" ∷ []) ++ prints fresh bs
unfolding replies run judge_of judge_row number_of reply_of block_of six_of
opens_is bs = whole_line (power_on 0) (chars "P0B0") bs refl

pub lines : Lines
unfolding prints
lines = record {
  opens = opens_is;
  off = λ i. at_line (off_is i);
  first = first_is;
  silent = silent_is;
  settles = settles_is;
  parts = prints_parts;
  nothing = λ m. refl;
  whole = whole_line;
  last = last_line;
}
