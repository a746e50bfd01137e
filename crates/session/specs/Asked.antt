-- Paper 01, "Host end and program": the form `T n hhhhhh`, two single spaces, n 1 to 1,000,000 in decimal without
-- leading zeros, six digits of either case.
use Rattle.std.specs.Prelude.{ℕ, ◌+◌, ◌-◌, ◌*◌, cond, List, [], ◌∷◌, ltb, eqb, length, get_or, take, drop, Option, Some, None}
use Rattle.digits.specs.Digits.{number_of}
use Rattle.digits.specs.declared.Number.{Number}
use Rattle.session.specs.declared.asked.Ticks.{Ticks}

-- T, with which a line begins that runs ticks.
abbrev pub letter_t : ℕ
letter_t = 84

-- The number n with one decimal digit more; none where the character is no digit, or the number is 0 or over 1,000,000.
abbrev pub join_of : Option ℕ → ℕ → Option ℕ
join_of None c = None
join_of (Some n) c =
    cond (ltb c 48) None
    (cond (ltb 57 c) None
    (cond (eqb (n * 10 + (c - 48)) 0) None
    (cond (ltb 1000000 (n * 10 + (c - 48))) None
    (Some (n * 10 + (c - 48))))))

-- Digits read on from a number. After a leading zero or a failure, no digit makes a number.
unfoldable pub read_on : Option ℕ → List ℕ → Option ℕ
read_on s [] = s
read_on s (c ∷ cs) = read_on (join_of s c) cs

-- The number that the characters spell, 1 to 1,000,000 in decimal without leading zeros; none where they spell none.
unfoldable pub count_of : List ℕ → Option ℕ
count_of [] = None
count_of (c ∷ cs) = read_on (Some 0) (c ∷ cs)

-- The characters between the two spaces, and the six behind them.
abbrev pub between : List ℕ → List ℕ
between cs = take (length cs - 9) (drop 2 cs)

abbrev pub last_six : List ℕ → List ℕ
last_six cs = drop (length cs - 6) cs

abbrev pub ticks_by : ℕ → Option Number → Option Ticks
ticks_by n None = None
ticks_by n (Some x) = Some (record { count = n; word = x.value })

abbrev pub asked_by : Option ℕ → Option Number → Option Ticks
asked_by None word = None
asked_by (Some n) word = ticks_by n word

-- What a line asks, by its characters, 10 to 16 of them: T, a space (32), n, a space, the input word.
unfoldable pub asked_of : List ℕ → Option Ticks
asked_of cs =
    cond (ltb (length cs) 10) None
    (cond (ltb 16 (length cs)) None
    (cond (eqb (get_or cs 0 0) letter_t)
    (cond (eqb (get_or cs 1 0) 32)
    (cond (eqb (get_or cs (length cs - 7) 0) 32)
    (asked_by (count_of (between cs)) (number_of (last_six cs)))
    None)
    None)
    None))
