-- Hexadecimal digits as paper 01 uses them: lines take either case, replies have letters in capitals.
use Rattle.std.specs.Prelude.{ℕ, ◌+◌, ◌-◌, ◌*◌, ◌/◌, ◌%◌, ◌<◌, Bool, true, false, cond, List, [], ◌∷◌, ltb, Option, Some, None}
use Rattle.digits.specs.declared.Digit.{Digit}
use Rattle.digits.specs.declared.Digit.TheVariants.{Capital, Small}
use Rattle.digits.specs.declared.Number.{Number}

-- What four, five and six digits count to, and the top bit of five.
abbrev pub four_digits : ℕ
four_digits = 65536

abbrev pub five_digits : ℕ
five_digits = 1048576

abbrev pub six_digits : ℕ
six_digits = 16777216

abbrev pub top_bit : ℕ
top_bit = 524288

-- Byte 0D, which ends a line and a block.
abbrev pub end_byte : ℕ
end_byte = 13

-- A character as a digit: 0-9 (48 to 57), A-F (65 to 70), a-f (97 to 102).
abbrev pub digit_of : ℕ → Option Digit
digit_of c =
    cond (ltb c 48) None
    (cond (ltb c 58) (Some (Capital (c - 48)))
    (cond (ltb c 65) None
    (cond (ltb c 71) (Some (Capital (c - 55)))
    (cond (ltb c 97) None
    (cond (ltb c 103) (Some (Small (c - 87)))
    None)))))

-- The capital digit of the low four bits of v.
abbrev pub capital_of : ℕ → ℕ
capital_of v = cond (ltb (v % 16) 10) (48 + v % 16) (55 + v % 16)

-- The six capital digits of the low 24 bits of n, the highest first.
unfoldable pub six_of : ℕ → List ℕ
six_of n =
    capital_of (n / five_digits % 16) ∷ capital_of (n / four_digits % 16) ∷ capital_of (n / 4096 % 16)
    ∷ capital_of (n / 256 % 16) ∷ capital_of (n / 16 % 16) ∷ capital_of (n % 16) ∷ []

-- The number n, with a small letter in it or not.
abbrev pub numbered : ℕ → Bool → Option Number
numbered n small = Some (record { value = n; small = small })

-- The same, and one digit more: n times 16 and the digit's value.
abbrev pub join_digit : ℕ → Bool → Option Digit → Option Number
join_digit n small None = None
join_digit n small (Some (Capital v)) = numbered (n * 16 + v) small
join_digit n small (Some (Small v)) = numbered (n * 16 + v) true

abbrev pub join_of : Option Number → ℕ → Option Number
join_of None c = None
join_of (Some x) c = join_digit x.value x.small (digit_of c)

-- A row of characters read on from the number so far.
abbrev pub read_on : Option Number → List ℕ → Option Number
read_on so_far [] = so_far
read_on so_far (c ∷ cs) = read_on (join_of so_far c) cs

-- A row of characters as a number, the highest digit first.
unfoldable pub number_of : List ℕ → Option Number
number_of cs = read_on (numbered 0 false) cs

-- The number, if there is one, is below b.
abbrev pub Under : ℕ → Option Number → Type 0
Under b None = 0 < 1
Under b (Some x) = x.value < b
