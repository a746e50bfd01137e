-- The round trip of a tick's block: whatever calls a controller has had, the reader gives of it the figures that the
-- list of calls tells. Assumes nothing.
use Rattle.line.specs.declared.Accepted.{Accepted}
use Rattle.line.specs.declared.Refusal.{Refusal}
use Rattle.std.proofs.Common.{Option, Result, Ok, Err}
use Prim.Native.Nat.{ℕ, ◌<◌}
use native.Mathlib.Omega.{arith}
use mathlib.Core.Bool.{Bool, true, false, cond, not, ◌&&◌, ◌||◌, false≢true}
use mathlib.Core.List.{List, [], ◌∷◌}
use mathlib.Core.Path.{◌≡◌, refl, sym, subst}
use borrow.Author.Tests.{ltb-false}
use lib.Dec.{ltb, eqb}
use lib.ListN.{length}
use Rattle.laws.proofs.Pick.{by_bool}
use Rattle.laws.proofs.Tests.{both}
use Rattle.digits.specs.Digits.{six_digits}
use Rattle.line.specs.Codes.{is_w}
use Rattle.line.specs.Line.{silent_of, ident_of, judge_of}
use Rattle.receiver.specs.Receiver.{Receipt}
use Rattle.machine.specs.State.{Machine}
use Rattle.machine.specs.Commands.{number}
use Rattle.machine.specs.Steps.{Outcome, decided, outcome_of, outcome, is_short, too_large, tick_turned, tick_step}
use Rattle.machine.specs.Calls.{Call, byte, tick, state}
use Rattle.machine.specs.Settle.{
  Latest,
  no_line,
  w_line,
  latest_by,
  last_w,
  ticks_since_w,
  switch_of,
  block_to,
  block_due,
  latest_block,
}
use Rattle.machine.proofs.SettleLaws.{settled}
use Rattle.host.specs.Writer.{ident_fits}
use Rattle.reader.specs.Blocks.{Framed}
use Rattle.reader.specs.ReadBack.{said_later, said_by, ReadsAs}
use Rattle.reader.proofs.BlockLaws.{inputs_read}
use Rattle.reader.proofs.LineLaws.{Tells, line_tells}
use Rattle.reader.proofs.KeptLaws.{kept_power}
use Rattle.reader.proofs.ReplyLaws.{none_read, one_read}

-- ---- The identification of the latest W line

-- It is none, or one that is written so.
abbrev Named : Latest → Type 0
Named no_line = 0 < 1
Named (w_line silent ident) = ident_fits ident ≡ true

named_decided : (m : Machine) (old : Latest) (silent : Bool) (ident : Option ℕ) (j : Result Accepted Refusal) → Tells ident j → Named old
    → Named (latest_by (decided m silent ident j) old)
named_decided m old silent ident (Err r) t k = k
named_decided m old silent ident (Ok a) t k =
    by_bool (λ (o : Outcome). Named (latest_by o old)) (eqb (number m a.command) 0) _ _
    (λ _. by_bool Named (is_w a.command) _ _ (λ _. t.named) (λ _. k)) (λ _. k)

named_byte : (m : Machine) (old : Latest) (b : ℕ) (buffer : List ℕ) → Named old
    → Named (latest_by (outcome m b buffer) old)
named_byte m old b buffer k =
    by_bool (λ (o : Outcome). Named (latest_by o old)) (ltb (length buffer) 120) _ _ (λ _. k)
    (λ _. by_bool (λ (r : Receipt). Named (latest_by (outcome_of m r.heard) old)) (eqb b 13) _ _
    (λ _. named_decided m old (silent_of m.line) (ident_of m.line) (judge_of m.line) (line_tells m.line) k)
    (λ _. k))

named : (s : ℕ) (h : List Call) → Named (last_w s h)
unfolding last_w
named s [] = omega arith
named s (byte b buffer ∷ h) = named_byte (state s h) (last_w s h) b buffer (named s h)
named s (tick w d ∷ h) = named s h

-- ---- The block

later_read : (s w : ℕ) (l : Latest) → Named l → w < six_digits → ReadsAs (block_to s l w) (said_later s l w)
later_read s w no_line k h = none_read
later_read s w (w_line true ident) k h = none_read
later_read s w (w_line false ident) k h = one_read (inputs_read (switch_of s) ident framed w h)
  where
    framed : Framed (switch_of s) ident
    framed = record {
      digit = (kept_power s).switch.low;
      other = (kept_power s).switch.other;
      named = k;
    }

word_low : (w : ℕ) (d : List ℕ) → not (tick_turned w d) ≡ true → w < six_digits
word_low w d e = when (is_short d) (too_large w) e (λ (q : too_large w ≡ false). let h = ltb-false 16777215 w q in omega
    (arith, h))
  where
    when : (a b : Bool) → not (a || b) ≡ true → (b ≡ false → w < six_digits) → w < six_digits
    when true b e f = absurd (false≢true e)
    when false true e f = absurd (false≢true e)
    when false false e f = f refl

pub tick_read : (s : ℕ) (h : List Call) (w : ℕ) (d : List ℕ)
    → ReadsAs (tick_step (state s h) w d).reply (said_by s h w d)
unfolding latest_block block_due
tick_read s h w d =
    subst (λ (x : List ℕ). ReadsAs x (said_by s h w d)) (sym (settled s (tick w d ∷ h)).answered)
    (when (not (tick_turned w d) && eqb (ticks_since_w s (tick w d ∷ h)) 2500)
    (λ q. word_low w d (both _ _ q).0))
  where
    when : (t : Bool) → (t ≡ true → w < six_digits)
        → ReadsAs (cond t (block_to s (last_w s h) w) []) (cond t (said_later s (last_w s h) w) [])
    when true f = later_read s w (last_w s h) (named s h) (f refl)
    when false f = none_read
