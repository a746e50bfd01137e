-- A start that fits, as the controller judges the letter and digits of its line: accepted as that very start.
-- Assumes nothing.
use Prim.Native.Nat.{ℕ, ◌+◌, ◌*◌, ◌/◌, ◌%◌, ◌<◌}
use native.Mathlib.Omega.{arith}
use mathlib.Core.Bool.{Bool, true, false}
use mathlib.Core.Path.{◌≡◌}
use borrow.Author.Tests.{lt-ltb, le-leb, lt-leb}
use Rattle.digits.specs.Digits.{four_digits}
use Rattle.line.specs.declared.command.Command.TheVariants as C
use Rattle.line.specs.Line.{judge_row, judge_value, accepting}
use Rattle.host.specs.Writer.{letter_of, digits_of}
use Rattle.host.proofs.Contents.{code_back, five_back}

pub accept_start : (k : ℕ) (waits : Bool) → k < 5
    → judge_value (letter_of (C.Start k waits)) 6 (digits_of (C.Start k waits))
    ≡ accepting (C.Start k waits) (digits_of (C.Start k waits))
unfolding judge_row
accept_start k true h =
    let e = code_back 8 ((8 + k) * four_digits) (omega arith) in
    let f = five_back 8 ((8 + k) * four_digits) (omega arith) in
    let g : (8 + k) * four_digits / four_digits ≡ 8 + k = omega arith in
    let j : (8 + k) % 8 ≡ k = omega arith in
    rw (e, f, g, j, le-leb 8 (8 + k) (omega arith), lt-ltb k 5 h)
accept_start k false h =
    let e = code_back 8 ((0 + k) * four_digits) (omega arith) in
    let f = five_back 8 ((0 + k) * four_digits) (omega arith) in
    let g : (0 + k) * four_digits / four_digits ≡ k = omega arith in
    let j : k % 8 ≡ k = omega arith in
    rw (e, f, g, j, lt-leb 8 k (omega arith), lt-ltb k 5 h)
