-- The round trip of lines over the machine's byte step: a machine with no half-received line, given the bytes of a
-- request's line one by one, is left as the command leaves it, with its reply. Assumes nothing.
use Rattle.receiver.specs.declared.Line.{Line}
use Rattle.std.proofs.Common.{Option, None}
use Prim.Native.Nat.{ℕ, suc, ◌≤◌, ◌<◌}
use native.Mathlib.Omega.{arith}
use mathlib.Core.Bool.{Bool, true, false, cond}
use mathlib.Core.List.{List, [], ◌∷◌, ◌++◌, append_assoc, append-nil}
use mathlib.Core.Path.{◌≡◌, refl, sym, ap, ◌∙◌}
use borrow.Author.Tests.{le-ltb, eq-eqb, ne_eqb}
use lib.Dec.{eqb}
use lib.ListN.{length, length-append}
use Rattle.laws.proofs.Pick.{by_bool}
use Rattle.receiver.specs.Receiver.{Receipt, receive, heard_line}
use Rattle.machine.specs.State.{Machine, with_line, with_watch}
use Rattle.machine.specs.Commands.{number, does, awaits, turned}
use Rattle.machine.specs.Replies.{reply_to, refusal, unless_silent}
use Rattle.machine.specs.Steps.{Outcome, untaken, refused, accepted, outcome_of, ByteAnswer, answered, byte_step}
use Rattle.machine.specs.Calls.{Call, byte, after, run, state, from}
use Rattle.machine.proofs.UnalteredLaws.{number_line, does_unaltered, turned_unaltered}
use Rattle.host.specs.declared.Request.{Request}
use Rattle.host.specs.Writer.{digits_of, has_line, line_of}
use Rattle.host.specs.RoundTrip.{calls_of, Roomy, answers_to, gathers, heard_as, answer_to, Obeys}
use Rattle.host.proofs.Lines.{NoEnd, request_lined}

-- ---- characters, then the 0D

-- What m answers to a character, and to the 0D, after the characters l.
abbrev more : Machine → List ℕ → ℕ → ByteAnswer
more m l c = record { machine = with_line m (l ++ (c ∷ [])); reply = []; number = 0 }

abbrev pub end_of : Machine → List ℕ → ByteAnswer
end_of m l = answered (with_line m l) 13 (outcome_of (with_line m l) (heard_line l))

module _ (o m : Machine) where
  char_step : (l : List ℕ) (c : ℕ) (buffer : List ℕ) → 120 ≤ length buffer → eqb c 13 ≡ false
      → byte_step (with_line m l) c buffer ≡ more m l c
  char_step l c buffer h e =
      ap (λ (t : Bool). answered (with_line m l) c (cond t untaken (outcome_of (with_line m l) (receive l c).heard)))
      (le-ltb (length buffer) 120 h)
      ∙ ap (λ (x : Receipt). answered (with_line m l) c (outcome_of (with_line m l) x.heard)) character
      ∙ ap (λ (x : Receipt). record { machine = with_line m x.line; reply = []; number = 0 }) character
    where
      character : receive l c ≡ record { line = l ++ (c ∷ []); heard = None }
      character = rw e

  end_step : (l buffer : List ℕ) → 120 ≤ length buffer → byte_step (with_line m l) 13 buffer ≡ end_of m l
  end_step l buffer h =
      ap (λ (t : Bool). answered (with_line m l) 13 (cond t untaken (outcome_of (with_line m l) (heard_line l))))
      (le-ltb (length buffer) 120 h)

  -- After calls that left the characters l, characters and a 0D: the answers, and the machine that they leave.
  pub record Answers (h : List Call) (l cs : List ℕ) (lent : ℕ → List ℕ) : Type 0 where
    pub answers : answers_to o h lent (cs ++ (13 ∷ [])) ≡ gathers m l cs ++ (end_of m (l ++ cs) ∷ [])
    pub left : from o (calls_of lent (cs ++ (13 ∷ [])) h) ≡ (end_of m (l ++ cs)).machine

  pub line_answers : (h : List Call) (l cs : List ℕ) (lent : ℕ → List ℕ) → from o h ≡ with_line m l → NoEnd cs
      → Roomy lent (suc (length cs)) → Answers h l cs lent
  unfolding run
  line_answers h l [] lent e q room =
      let step = ap (λ (x : Machine). byte_step x 13 (lent 0)) e ∙ end_step l (lent 0) (room 0 (omega arith)) in
      record {
        answers = rw append-nil (ap (λ (x : ByteAnswer). x ∷ []) step);
        left = rw append-nil (ap (λ (x : ByteAnswer). x.machine) step);
      }
  line_answers h l (c ∷ cs) lent e q room =
      let step = ap (λ (x : Machine). byte_step x c (lent 0)) e ∙ char_step l c (lent 0) (room 0 (omega arith)) q.0 in
      let rest = line_answers (byte c (lent 0) ∷ h) (l ++ (c ∷ [])) cs (λ i. lent (suc i))
      (ap (λ (x : ByteAnswer). x.machine) step) q.1 (λ i j. room (suc i) (omega arith)) in
      let end = append_assoc l (c ∷ []) cs in
      record {
        answers = (λ i. step i ∷ rest.answers i)
            ∙ ap (λ (x : List ℕ). more m l c ∷ (gathers m (l ++ (c ∷ [])) cs ++ (end_of m x ∷ []))) end;
        left = rest.left ∙ ap (λ (x : List ℕ). (end_of m x).machine) end;
      }

-- ---- what the end of the line leaves

module _ (m : Machine) (r : Request) where
  -- What comes of the line, n being the command's number.
  abbrev comes : ℕ → Outcome
  comes n =
      cond (eqb n 0) (accepted r.command (digits_of r.command) r.silent r.ident)
      (refused n r.silent r.ident)

  pub end_answer : (l : List ℕ) → heard_line l ≡ heard_as r (digits_of r.command) → end_of m l ≡ answer_to m r
  end_answer l e =
      ap (λ (h : Option Line). answered (with_line m l) 13 (outcome_of (with_line m l) h)) e
      ∙ ap (λ (n : ℕ). answered (with_line m l) 13 (comes n)) (number_line m l r.command)
      ∙ by_bool (λ (o : Outcome). answered (with_line m l) 13 o ≡ answered m 13 o) (eqb (number m r.command) 0)
      (accepted r.command (digits_of r.command) r.silent r.ident)
      (refused (number m r.command) r.silent r.ident) (λ _. refl) (λ _. refl)

  end_clear : (answer_to m r).machine.line ≡ []
  end_clear =
      by_bool (λ (o : Outcome). (answered m 13 o).machine.line ≡ []) (eqb (number m r.command) 0) _ _
      (λ _. (does_unaltered (with_line m []) r.command).line)
      (λ _. (turned_unaltered (with_line m []) (number m r.command)).line)

  module _ (none : m.line ≡ []) where
    same : with_line m [] ≡ m
    same = λ i. with_line m (sym none i)

    end_obeyed : number m r.command ≡ 0
        → answer_to m r ≡ record {
          machine = awaits (with_watch (does m r.command) 0) r.command r.silent r.ident;
          reply = unless_silent r.silent (reply_to m r.command (digits_of r.command) r.ident);
          number = 0;
        }
    end_obeyed e =
        rw (eq-eqb (number m r.command) 0 e)
        (λ i. record {
          machine = awaits (with_watch (does (same i) r.command) 0) r.command r.silent r.ident;
          reply = unless_silent r.silent (reply_to m r.command (digits_of r.command) r.ident);
          number = 0;
        })

    end_turned : (number m r.command ≡ 0 → ⊥)
        → answer_to m r ≡ record {
          machine = turned m (number m r.command);
          reply = unless_silent r.silent (refusal m (number m r.command) r.ident);
          number = number m r.command;
        }
    end_turned e =
        rw (ne_eqb (number m r.command) 0 e)
        (λ i. record {
          machine = turned (same i) (number m r.command);
          reply = unless_silent r.silent (refusal m (number m r.command) r.ident);
          number = number m r.command;
        })

-- Any machine with no half-received line, any request with a line, any buffers with room.
pub machine_trip : (m : Machine) (r : Request) (lent : ℕ → List ℕ) → m.line ≡ [] → has_line r ≡ true
    → ((i : ℕ) → i < length (line_of r) → 120 ≤ length (lent i)) → Obeys m r lent
unfolding run
machine_trip m r lent none e room =
    let l = request_lined r e in
    let size : length (line_of r) ≡ suc (length l.chars) =
    omega (arith, ap length l.ended, length-append l.chars (13 ∷ [])) in
    let lent-room : Roomy lent (suc (length l.chars)) = λ i h. room i (omega arith) in
    let a = line_answers m m [] [] l.chars lent (λ i. with_line m (none i)) l.no_end lent-room in
    let end = end_answer m r l.chars l.heard in
    record {
      chars = l.chars;
      ended = l.ended;
      answers = ap (answers_to m [] lent) l.ended ∙ a.answers
          ∙ ap (λ (x : ByteAnswer). gathers m [] l.chars ++ (x ∷ [])) end;
      left = ap (λ (x : List ℕ). from m (calls_of lent x [])) l.ended ∙ a.left
          ∙ ap (λ (x : ByteAnswer). x.machine) end;
      clear = end_clear m r;
      obeyed = end_obeyed m r none;
      turned_away = end_turned m r none;
    }

-- ---- in a list of calls from power-on

-- The calls g behind the calls h.
state_on : (s : ℕ) (g h : List Call) → state s (g ++ h) ≡ from (state s h) g
unfolding run
state_on s [] h = refl
state_on s (x ∷ g) h = ap (λ (m : Machine). after m x) (state_on s g h)

-- The bytes leave the same machine.
pub calls_left : (s : ℕ) (lent : ℕ → List ℕ) (bs : List ℕ) (g h : List Call)
    → state s (calls_of lent bs (g ++ h)) ≡ from (state s h) (calls_of lent bs g)
calls_left s lent [] g h = state_on s g h
calls_left s lent (b ∷ bs) g h = calls_left s (λ i. lent (suc i)) bs (byte b (lent 0) ∷ g) h
