-- Each command that fits, as the controller judges the letter and digits of its line: accepted as that very command.
-- Assumes nothing.
use Prim.Native.Nat.{ℕ, ◌+◌, ◌*◌, ◌/◌, ◌≤◌, ◌<◌}
use native.Mathlib.Omega.{arith}
use mathlib.Core.Bool.{Bool, true, false, false≢true}
use mathlib.Core.Path.{◌≡◌, refl, sym}
use borrow.Author.Tests.{lt-ltb, le-leb}
use Rattle.laws.specs.Bits.{weight}
use Rattle.digits.specs.Digits.{four_digits, six_digits, top_bit}
use Rattle.line.specs.declared.command.Reading.{Reading}
use Rattle.line.specs.declared.command.Reading.TheVariants as R
use Rattle.line.specs.declared.command.Command.{Command}
use Rattle.line.specs.declared.command.Command.TheVariants as C
use Rattle.line.specs.Ranges.{top_speed, reading_fits}
use Rattle.line.specs.Codes.{is_inputs, is_query}
use Rattle.line.specs.Line.{judge_row, judge_value, accepting}
use Rattle.line.specs.Fits.{CommandFits}
use Rattle.line.proofs.Ranges.{axis, distance, outputs, bits_low, by_order, by_setting, is_within_lem}
use Rattle.host.specs.Writer.{letter_of, digits_of}
use Rattle.host.proofs.AcceptStart.{accept_start}
use Rattle.host.proofs.Contents.{code_back, five_back, minus_low, minus_back, length_back, setting_low}

-- A command with its letter and six digits, judged.
abbrev Taken : Command → Type 0
Taken c = judge_value (letter_of c) 6 (digits_of c) ≡ accepting c (digits_of c)

accept_distance : (k : ℕ) (minus : Bool) (d : ℕ) → k < 5 → d < top_bit → Taken (C.Distance k minus d)
unfolding judge_row
accept_distance k minus d h j =
    let v = weight minus top_bit + d in
    let low = minus_low minus d j in
    let a = lt-ltb k 5 h in
    rw (code_back k v low, five_back k v low, a, length_back minus d j, a, lt-ltb d top_bit j, minus_back minus d j)

accept_watch : (v : ℕ) → v ≤ 3 → Taken (C.Set 11 v)
unfolding judge_row
accept_watch v h =
    let e = code_back 11 (v * four_digits) (omega arith) in
    let f = five_back 11 (v * four_digits) (omega arith) in
    let g : v * four_digits / four_digits ≡ v = omega arith in
    rw (e, f, g, le-leb v 3 h)

accept_setting : (k v : ℕ) → CommandFits (C.Set k v) → Taken (C.Set k v)
unfolding judge_row
accept_setting k v h =
    by_setting (λ (c w : ℕ). Taken (C.Set c w)) k v
    (λ low high. rw (code_back 8 v (omega arith), five_back 8 v (omega arith), is_within_lem v 1 top_speed low high))
    (λ low high. rw (code_back 9 v (omega arith), five_back 9 v (omega arith), is_within_lem v 1 4095 low high))
    (λ high. rw (code_back 10 v (omega arith), five_back 10 v (omega arith), le-leb v 16383 high))
    (accept_watch v)
    (λ high. rw (code_back 12 v (omega arith), five_back 12 v (omega arith), le-leb v 4095 high))
    (λ bits. rw (code_back 13 v (setting_low k v h), five_back 13 v (setting_low k v h), bits))
    (λ bits. rw (code_back 14 v (setting_low k v h), five_back 14 v (setting_low k v h), bits)) h

accept_reading : (r : Reading) → reading_fits r ≡ true → is_inputs r ≡ false → Taken (C.Read r)
unfolding judge_row
accept_reading (R.Travel k) h q = rw (code_back k 0 (omega arith), h, h)
accept_reading (R.Position k) h q = rw (code_back k 0 (omega arith), h, h)
accept_reading R.Status h q = refl
accept_reading R.Everything h q = refl
accept_reading R.Inputs h q = absurd (false≢true (sym q))

pub accepts : (c : Command) → CommandFits c → is_query c ≡ false → Taken c
unfolding judge_row
accepts (C.Distance k minus d) h q = let t = distance k minus d h in accept_distance k minus d t.0 t.1
accepts (C.Set k v) h q = accept_setting k v h
accepts (C.Start k waits) h q = accept_start k waits (axis k h)
accepts (C.Order k) h q = by_order (λ (c : ℕ). Taken (C.Order c)) refl refl refl refl k h
accepts (C.Outputs v) h q = rw h
accepts (C.Read r) h q = accept_reading r h q

-- The six digits are a number of 24 bits.
pub digits_fit : (c : Command) → CommandFits c → digits_of c < six_digits
digits_fit (C.Distance k minus d) h =
    let t = distance k minus d h in
    omega (arith, t.0, minus_low minus d t.1)
digits_fit (C.Set k v) h =
    by_setting (λ (c w : ℕ). digits_of (C.Set c w) < six_digits) k v (λ _ j. omega arith) (λ _ j. omega arith)
    (λ j. omega arith) (λ j. omega arith) (λ j. omega arith) (λ j. omega (arith, bits_low v j))
    (λ j. omega (arith, bits_low v j)) h
digits_fit (C.Start k true) h = let t = axis k h in omega arith
digits_fit (C.Start k false) h = let t = axis k h in omega arith
digits_fit (C.Order k) h =
    by_order (λ (c : ℕ). digits_of (C.Order c) < six_digits) (omega arith) (omega arith) (omega arith) (omega arith) k h
digits_fit (C.Outputs v) h = outputs v h
digits_fit (C.Read (R.Travel k)) h = let t = axis k h in omega arith
digits_fit (C.Read (R.Position k)) h = let t = axis k h in omega arith
digits_fit (C.Read R.Status) h = omega arith
digits_fit (C.Read R.Everything) h = omega arith
digits_fit (C.Read R.Inputs) h = omega arith
