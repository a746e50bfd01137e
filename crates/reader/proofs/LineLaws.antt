-- What a judged line tells of its identification and its digits: an accepted line's identification is one, and so is
-- that which a turned-away line is answered with; an order's digits have its code and range. Assumes nothing.
use Rattle.line.specs.declared.Accepted.{Accepted}
use Rattle.line.specs.declared.Refusal.{Refusal}
use Rattle.std.proofs.Common.{Option, Result, Ok, Err}
use Prim.Native.Nat.{ℕ, ◌≤◌, ◌<◌}
use native.Mathlib.Omega.{arith}
use mathlib.Core.Bool.{true}
use mathlib.Core.List.{List}
use mathlib.Core.Path.{◌≡◌, sym, ◌∙◌}
use Rattle.line.specs.declared.command.Command.{Command}
use Rattle.line.specs.declared.command.Command.TheVariants as C
use Rattle.line.specs.Codes.{code}
use Rattle.line.specs.Line.{ident_of, digit_count, judge_of, refusal_number}
use Rattle.line.specs.Fits.{CommandFits, OrderFits, JudgedFits}
use Rattle.line.proofs.Fits.{judge_fits}
use Rattle.line.proofs.Ranges.{by_order, by_setting}
use Rattle.reply.specs.Reply.{refusal_ident}
use Rattle.host.specs.Writer.{ident_fits}
use Rattle.host.proofs.JudgeLaws.{Named, line_named}
use Rattle.reader.specs.Reader.{is_echo}
use Rattle.reader.proofs.EchoLaws.{EchoFits}

always : 0 < 1
always = omega arith

-- ---- an order's digits

-- The digits of a command that is echoed: an order, or a setting of the inputs.
abbrev pub Echoed : Command → ℕ → Type 0
Echoed (C.Distance k minus d) n = 0 < 1
Echoed (C.Set k v) n = 13 ≤ k → EchoFits n
Echoed (C.Start k waits) n = EchoFits n
Echoed (C.Order k) n = EchoFits n
Echoed (C.Outputs v) n = 0 < 1
Echoed (C.Read r) n = 0 < 1

echo_of : (n k : ℕ) → code n ≡ k → 5 ≤ k → (k ≡ 6 → ⊥) → is_echo n ≡ true → EchoFits n
echo_of n k e h other t = record { axes = omega arith; six = λ q. other (sym e ∙ q); echo = t }

setting_echoed : (k v n : ℕ) → CommandFits (C.Set k v) → OrderFits (C.Set k v) n → Echoed (C.Set k v) n
setting_echoed k v n =
    by_setting (λ (c w : ℕ). OrderFits (C.Set c w) n → Echoed (C.Set c w) n) k v
    (λ _ _ f h. absurd (omega arith)) (λ _ _ f h. absurd (omega arith)) (λ _ f h. absurd (omega arith))
    (λ _ f h. absurd (omega arith)) (λ _ f h. absurd (omega arith))
    (λ bits f h. let t = f h in echo_of n 13 t.0 (omega arith) (λ e. omega arith) (rw (t.0, t.1) bits))
    (λ bits f h. let t = f h in echo_of n 14 t.0 (omega arith) (λ e. omega arith) (rw (t.0, t.1) bits))

order_echoed : (k n : ℕ) → CommandFits (C.Order k) → code n ≡ k → EchoFits n
order_echoed k n =
    by_order (λ (c : ℕ). code n ≡ c → EchoFits n)
    (λ e. echo_of n 9 e (omega arith) (λ q. omega arith) (rw e))
    (λ e. echo_of n 10 e (omega arith) (λ q. omega arith) (rw e))
    (λ e. echo_of n 11 e (omega arith) (λ q. omega arith) (rw e))
    (λ e. echo_of n 12 e (omega arith) (λ q. omega arith) (rw e)) k

echoed : (c : Command) (n : ℕ) → CommandFits c → OrderFits c n → Echoed c n
echoed (C.Distance k minus d) n h f = always
echoed (C.Set k v) n h f = setting_echoed k v n h f
echoed (C.Start k waits) n h f = echo_of n 8 f.0 (omega arith) (λ e. omega arith) (rw (f.0, f.1) h)
echoed (C.Order k) n h f = order_echoed k n h f
echoed (C.Outputs v) n h f = always
echoed (C.Read r) n h f = always

-- ---- the line

-- Of a line with this identification: accepted, the identification is one and the digits are the command's; turned
-- away, the identification that answers is one.
pub record Accepts (ident : Option ℕ) (c : Command) (n : ℕ) : Type 0 where
  pub named : ident_fits ident ≡ true
  pub digits : Echoed c n

abbrev pub Tells : Option ℕ → Result Accepted Refusal → Type 0
Tells ident (Ok a) = Accepts ident a.command a.digits
Tells ident (Err r) = ident_fits (refusal_ident (refusal_number r) ident) ≡ true

tells : (ident : Option ℕ) (count : ℕ) (j : Result Accepted Refusal) → JudgedFits j → Named ident count j → Tells ident j
tells ident count (Ok a) f e = record { named = e.0; digits = echoed a.command a.digits f.command f.order }
tells ident count (Err r) f e = e

-- Every line's judgement.
pub line_tells : (cs : List ℕ) → Tells (ident_of cs) (judge_of cs)
line_tells cs = tells (ident_of cs) (digit_count cs) (judge_of cs) (judge_fits cs) (line_named cs)
