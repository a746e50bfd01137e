-- Reply blocks and how they are laid into a lent buffer (paper 01, "Lines", Replies).
use Rattle.std.specs.Prelude.{ℕ, zero, suc, ◌+◌, Bool, cond, List, [], ◌∷◌, ◌++◌, ◌≡◌, leb, length, get_or, take, drop, Option, None, Some}
use Rattle.digits.specs.Digits.{end_byte, capital_of, six_of}
use Rattle.block.specs.declared.Block.{Block}

-- The identification's character, if given.
abbrev pub ident_chars : Option ℕ → List ℕ
ident_chars None = []
ident_chars (Some c) = c ∷ []

-- A block: letter, switch digit, six digits (letters in capitals), the identification if given, 0D.
unfoldable pub block_of : Block → List ℕ
block_of b = b.letter ∷ capital_of b.switch ∷ (six_of b.number ++ (ident_chars b.ident ++ (end_byte ∷ [])))

-- The length of every block with that identification: 9 or 10.
abbrev pub length_with : Option ℕ → ℕ
length_with None = 9
length_with (Some c) = 10

-- The block at place k of a row: the letters and numbers in order, the switch and the identification the same in each.
abbrev pub row_block : List ℕ → List ℕ → ℕ → Option ℕ → ℕ → Block
row_block letters numbers switch ident k =
    record { letter = get_or letters k 0; switch = switch; number = get_or numbers k 0; ident = ident }

-- The first n blocks of a row, one behind the other.
unfoldable pub row_of : ℕ → List ℕ → List ℕ → ℕ → Option ℕ → List ℕ
row_of zero letters numbers switch ident = []
row_of (suc n) letters numbers switch ident =
    row_of n letters numbers switch ident ++ block_of (row_block letters numbers switch ident n)

-- The bytes are blocks one behind the other, or none: each has this switch digit and this identification.
pub record Blocks (switch : ℕ) (ident : Option ℕ) (bytes : List ℕ) : Type 0 where
  pub count : ℕ
  pub letters : List ℕ
  pub numbers : List ℕ
  pub whole : bytes ≡ row_of count letters numbers switch ident

-- s over the front of d: the bytes after it keep their values.
unfoldable pub over : List ℕ → List ℕ → List ℕ
over s d = s ++ drop (length s) d

-- s over d from the place at on: the bytes before and after it keep their values.
unfoldable pub put : ℕ → List ℕ → List ℕ → List ℕ
put at s d = take at d ++ over s (drop at d)

-- Whether s has room in d from the place at on.
abbrev pub room : ℕ → List ℕ → List ℕ → Bool
room at s d = leb (at + length s) (length d)

-- s laid into d from the place at on; d as it was where s has no room there.
unfoldable pub laid : ℕ → List ℕ → List ℕ → List ℕ
laid at s d = cond (room at s d) (put at s d) d

-- The length of what is laid.
abbrev pub laid_length : ℕ → List ℕ → List ℕ → ℕ
laid_length at s d = cond (room at s d) (length s) 0

-- The front part of d of the length n; empty for a length past the end.
abbrev pub front_of : List ℕ → ℕ → List ℕ
front_of d n = cond (leb n (length d)) (take n d) []
