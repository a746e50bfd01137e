-- The round trip of replies: whatever calls a controller has had, the reply to each byte is blocks one behind the
-- other, and the reader gives of each the figures that it was made from. Assumes nothing.
use Rattle.line.specs.declared.Accepted.{Accepted}
use Rattle.line.specs.declared.Refusal.{Refusal}
use Rattle.std.proofs.Common.{Option, Result, Ok, Err}
use Prim.Native.Nat.{ℕ}
use native.Mathlib.Omega.{arith}
use mathlib.Core.Bool.{Bool, true, false, cond}
use mathlib.Core.List.{List, []}
use mathlib.Core.Path.{◌≡◌, subst}
use borrow.Author.Tests.{eqb-false}
use lib.Dec.{ltb, eqb}
use lib.ListN.{length}
use Rattle.laws.proofs.Pick.{by_bool}
use Rattle.line.specs.Line.{silent_of, ident_of, judge_of, refusal_number}
use Rattle.line.specs.Fits.{JudgedFits}
use Rattle.line.proofs.Fits.{judge_fits}
use Rattle.receiver.specs.Receiver.{Receipt, receive}
use Rattle.reply.specs.Reply.{refusal_ident}
use Rattle.machine.specs.State.{Machine}
use Rattle.machine.specs.Commands.{number}
use Rattle.machine.specs.Replies.{unless_silent}
use Rattle.machine.specs.Steps.{
  Outcome,
  untaken,
  refused,
  accepted,
  decided,
  outcome_of,
  outcome,
  answered,
  byte_step,
}
use Rattle.machine.specs.Calls.{Call, state}
use Rattle.machine.proofs.Fits.{Fits}
use Rattle.machine.specs.Settle.{last_word}
use Rattle.machine.proofs.FitLaws.{fits}
use Rattle.machine.proofs.SettleLaws.{settled}
use Rattle.host.specs.Writer.{ident_fits}
use Rattle.host.proofs.JudgeLaws.{named_late}
use Rattle.reader.specs.Reader.{Figures}
use Rattle.reader.specs.ReadBack.{said_of, ReadsAs, RepliesRead}
use Rattle.reader.proofs.LineLaws.{Tells, line_tells}
use Rattle.reader.proofs.KeptLaws.{Kept, kept}
use Rattle.reader.proofs.NumberLaws.{Known, known, number_late}
use Rattle.reader.proofs.ReplyLaws.{none_read, reply_reads, refusal_reads}
use Rattle.reader.proofs.TickReadBack.{tick_read}

unless_silent_lem : (silent : Bool) {bytes : List ℕ} {figures : List Figures} → ReadsAs bytes figures
    → ReadsAs (unless_silent silent bytes) (cond silent [] figures)
unless_silent_lem true r = none_read
unless_silent_lem false r = r

-- What comes of a byte, read.
abbrev Said : Machine → ℕ → Outcome → Type 0
Said m b o = ReadsAs (answered m b o).reply (said_of m m.inputs o)

refused_said : (m : Machine) (b n : ℕ) (silent : Bool) (ident : Option ℕ) → Kept m → Known n
    → ident_fits (refusal_ident n ident) ≡ true → Said m b (refused n silent ident)
refused_said m b n silent ident k h e = unless_silent_lem silent (refusal_reads m n ident k h e)

decided_said : (m : Machine) (b : ℕ) (silent : Bool) (ident : Option ℕ) (j : Result Accepted Refusal) → Fits m → Kept m → JudgedFits j
    → Tells ident j → Said m b (decided m silent ident j)
decided_said m b silent ident (Err r) f k h t =
    let y = h.1 in
    refused_said m b (refusal_number r) silent ident k (known (refusal_number r) h.0 (omega arith)) t
decided_said m b silent ident (Ok a) f k h t =
    by_bool (Said m b) (eqb (number m a.command) 0) (accepted a.command a.digits silent ident) (refused (number m a.command) silent ident)
    (λ _. unless_silent_lem silent (reply_reads m f k ident t.named a.command a.digits h.command h.digits t.digits))
    (λ q. refused_said m b (number m a.command) silent ident k (number_late m a.command (eqb-false (number m a.command) 0 q))
    (named_late ident (number m a.command) t.named))

heard_said : (m : Machine) (b : ℕ) → Fits m → Kept m → Said m b (outcome_of m (receive m.line b).heard)
heard_said m b f k =
    by_bool (λ (r : Receipt). Said m b (outcome_of m r.heard)) (eqb b 13) _ _
    (λ _. decided_said m b (silent_of m.line) (ident_of m.line) (judge_of m.line) f k (judge_fits m.line)
    (line_tells m.line))
    (λ _. none_read)

-- Any controller that calls made from power-on, any byte and any buffer: the reply is read back whole.
byte_read : (s : ℕ) (h : List Call) (b : ℕ) (buffer : List ℕ)
    → ReadsAs (byte_step (state s h) b buffer).reply
    (said_of (state s h) (last_word s h) (outcome (state s h) b buffer))
byte_read s h b buffer =
    let m = state s h in
    subst (λ (w : ℕ). ReadsAs (byte_step m b buffer).reply (said_of m w (outcome m b buffer))) (settled s h).inputs
    (by_bool (Said m b) (ltb (length buffer) 120) untaken (outcome_of m (receive m.line b).heard)
    (λ _. none_read) (λ _. heard_said m b (fits s h) (kept s h)))

pub replies_read : RepliesRead
replies_read = record { bytes = byte_read; ticks = tick_read }
