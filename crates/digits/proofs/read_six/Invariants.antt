-- Character by character. The invariant: k characters are read, their number is below 16 to the k, and with the
-- characters behind them it reads on to the whole number. Assumes nothing.
use Rattle.std.proofs.Common.{◌≡◌, ◌<◌, ◌^◌, length, drop, Some}
use Rattle.digits.specs.Digits.{number_of, read_on}
use Rattle.digits.proofs.read_six.Given as goal

abbrev pub invariant-loop-c : goal.invariant-loop-c
invariant-loop-c l =
    (length l.c-items ≡ 6)
    × (l.number.value < 16 ^ l.c-index)
    × (number_of l.c-items ≡ read_on (Some l.number) (drop l.c-index l.c-items))
