-- The round trip of lines (demand 2): "The host side writes lines that the controller reads as the same command."
-- `write_line` promises `LineTrip` and `LineBack`. Lines are heard by the controller's own receiver (crate receiver,
-- `receive`) and obeyed by the machine's own byte step (crate machine, `byte_step`).
use Rattle.receiver.specs.declared.Line.{Line}
use Rattle.std.specs.Prelude.{ℕ, zero, suc, ◌-◌, ◌≤◌, ◌<◌, Bool, true, false, List, [], ◌∷◌, ◌++◌, ◌≡◌, length, get_or, Some, Option, None}
use Rattle.digits.specs.Digits.{end_byte}
use Rattle.digits.specs.Characters.{digit_characters, is_one}
use Rattle.block.specs.Block.{front_of}
use Rattle.line.specs.declared.command.Command.{Command}
use Rattle.line.specs.Codes.{is_query}
use Rattle.line.specs.Ranges.{fits}
use Rattle.line.specs.Line.{silent_of, ident_of, judge_of, accepting}
use Rattle.receiver.specs.Receiver.{receive, heard_line, line_heard}
use Rattle.machine.specs.State.{Machine, with_line, with_watch}
use Rattle.machine.specs.Commands.{number, does, awaits, turned}
use Rattle.machine.specs.Replies.{reply_to, refusal, unless_silent}
use Rattle.machine.specs.Steps.{ByteAnswer, decided, answered, byte_step}
use Rattle.machine.specs.Calls.{Call, byte, from}
use Rattle.host.specs.declared.Request.{Request}
use Rattle.host.specs.Writer.{digits_of, has_line, line_of, line, refused, written_of, buffer_of}

-- ---- Bytes that come one after the other

-- What the receiver makes of each, l being the characters received before.
abbrev pub heard_all : List ℕ → List ℕ → List (Option Line)
heard_all l [] = []
heard_all l (b ∷ bs) = (receive l b).heard ∷ heard_all (receive l b).line bs

-- n characters, then the end of a line.
abbrev pub ended_after : ℕ → Option Line → List (Option Line)
ended_after zero end = end ∷ []
ended_after (suc n) end = None ∷ ended_after n end

-- The bytes as calls after the calls h, the latest first, as lists of calls are; the byte at place i comes with the
-- lent buffer `lent i`.
abbrev pub calls_of : (ℕ → List ℕ) → List ℕ → List Call → List Call
calls_of lent [] h = h
calls_of lent (b ∷ bs) h = calls_of (λ i. lent (suc i)) bs (byte b (lent 0) ∷ h)

-- Each of the first n buffers has room for any reply.
abbrev pub Roomy : (ℕ → List ℕ) → ℕ → Type 0
Roomy lent n = (i : ℕ) → i < n → 120 ≤ length (lent i)

-- What the machine m answers to each, after the calls h.
abbrev pub answers_to : Machine → List Call → (ℕ → List ℕ) → List ℕ → List ByteAnswer
answers_to m h lent [] = []
answers_to m h lent (b ∷ bs) =
    byte_step (from m h) b (lent 0) ∷ answers_to m (byte b (lent 0) ∷ h) (λ i. lent (suc i)) bs

-- The answers to characters of a line, l being those received before: no reply, number 0, and one character more.
abbrev pub gathers : Machine → List ℕ → List ℕ → List ByteAnswer
gathers m l [] = []
gathers m l (c ∷ cs) =
    record { machine = with_line m (l ++ (c ∷ [])); reply = []; number = 0 } ∷ gathers m (l ++ (c ∷ [])) cs

-- ---- A request as the controller hears and obeys it

-- The end of a line that asks for r, with these six digits.
abbrev pub heard_as : Request → ℕ → Option Line
heard_as r digits = line_heard r.silent r.ident (accepting r.command digits)

-- What m, with no half-received line, answers to it.
abbrev pub answer_to : Machine → Request → ByteAnswer
answer_to m r = answered m end_byte (decided m r.silent r.ident (accepting r.command (digits_of r.command)))

-- m is given the bytes of r's line one by one.
pub record Obeys (m : Machine) (r : Request) (lent : ℕ → List ℕ) : Type 0 where
  -- the line's characters, and the 0D behind them
  pub chars : List ℕ
  pub ended : line_of r ≡ chars ++ (end_byte ∷ [])
  -- every byte but the last answers no reply and number 0, the last what r asks for
  pub answers : answers_to m [] lent (line_of r) ≡ gathers m [] chars ++ (answer_to m r ∷ [])
  pub left : from m (calls_of lent (line_of r) []) ≡ (answer_to m r).machine
  -- no half-received line is left
  pub clear : (answer_to m r).machine.line ≡ []
  -- accepted: what the command does, the block that a W line waits for, its reply, and number 0
  pub obeyed : number m r.command ≡ 0
      → answer_to m r ≡ record {
        machine = awaits (with_watch (does m r.command) 0) r.command r.silent r.ident;
        reply = unless_silent r.silent (reply_to m r.command (digits_of r.command) r.ident);
        number = 0;
      }
  -- turned away by a number: what that leaves, and the refusal
  pub turned_away : (number m r.command ≡ 0 → ⊥)
      → answer_to m r ≡ record {
        machine = turned m (number m r.command);
        reply = unless_silent r.silent (refusal m (number m r.command) r.ident);
        number = number m r.command;
      }

-- Every request that has a line.
pub record LineTrip : Type 0 where
  -- where a line is written, for whatever buffer, the buffer's front part is the line
  pub front : (r : Request) (d : List ℕ) (n : ℕ) → written_of r d ≡ line n
      → (has_line r ≡ true) × (front_of (buffer_of r d) n ≡ line_of r)
  -- received with nothing before it, the line is that very request at its 0D
  pub heard : (r : Request) → has_line r ≡ true
      → heard_all [] (line_of r) ≡ ended_after (length (line_of r) - 1) (heard_as r (digits_of r.command))
  -- any machine with no half-received line obeys it, whatever buffers of 120 bytes or more are lent
  pub obeys : (m : Machine) (r : Request) (lent : ℕ → List ℕ) → m.line ≡ [] → has_line r ≡ true
      → ((i : ℕ) → i < length (line_of r) → 120 ≤ length (lent i)) → Obeys m r lent
  -- paper 02, 7/14: a command in its ranges, W queries aside, has a line with each of the 22 identifications, and with
  -- no other character
  pub named : (silent : Bool) (c : Command) (x : ℕ) → fits c ≡ true → is_query c ≡ false
      → has_line (record { silent = silent; command = c; ident = Some x }) ≡ is_one x digit_characters
  -- it is the very ninth character of the line
  pub ninth : (r : Request) (x : ℕ) → has_line r ≡ true → r.ident ≡ Some x → get_or (line_of r) 8 0 ≡ x
  -- two requests are two lines, also where their identifications differ in case alone
  pub apart : (r q : Request) → has_line r ≡ true → has_line q ≡ true → line_of r ≡ line_of q → r ≡ q

-- ---- The converse

-- The request of an accepted line: its silence, its command c, its identification.
abbrev pub request_in : List ℕ → Command → Request
request_in cs c = record { silent = silent_of cs; command = c; ident = ident_of cs }

-- Some characters are a line that asks for r.
pub record Asked (r : Request) : Type 0 where
  pub chars : List ℕ
  pub digits : ℕ
  pub heard : heard_line chars ≡ heard_as r digits

-- Whatever line the controller accepts, the writer writes its request, and that line is heard as the same request.
-- So 19 is exactly for values without a line.
pub record LineBack : Type 0 where
  -- any characters that are judged as a command
  pub has : (cs : List ℕ) (c : Command) (digits : ℕ) → judge_of cs ≡ accepting c digits
      → has_line (request_in cs c) ≡ true
  pub same : (cs : List ℕ) (c : Command) (digits : ℕ) → judge_of cs ≡ accepting c digits
      → heard_all [] (line_of (request_in cs c))
      ≡ ended_after (length (line_of (request_in cs c)) - 1) (heard_as (request_in cs c) (digits_of c))
  -- 19 where no line asks for the value, and nowhere else
  pub without : (r : Request) (d : List ℕ) → written_of r d ≡ refused 19 → Asked r → ⊥
  pub only : (r : Request) (d : List ℕ) → 10 ≤ length d → (Asked r → ⊥) → written_of r d ≡ refused 19
