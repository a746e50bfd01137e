-- What the entry `block` promises beside what it writes: every reply block is taken for one and told in words, and no
-- answer to a block is long.
use Rattle.std.specs.Prelude.{ℕ, ◌≤◌, Bool, true, false, List, [], ◌∷◌, ◌++◌, ◌≡◌, length}
use Rattle.digits.specs.Digits.{end_byte}
use Rattle.receiver.specs.Receiver.{before_end}
use Rattle.reader.specs.Reader as F
use Rattle.reader.specs.Reader.{Figures, read_of}
use Rattle.reader.specs.Blocks.{Says}
use Rattle.readout.specs.Readout.{is_block, figure_text, block_text}

-- Whether the reader takes the bytes: it does not turn them away.
abbrev pub is_read : Figures → Bool
is_read (F.refused n) = false
is_read (F.verdict s n ident) = true
is_read (F.travelled s axis minus travel ident) = true
is_read (F.status s bits ident) = true
is_read (F.echo s digits ident) = true
is_read (F.placed s axis z ident) = true
is_read (F.inputs s word ident) = true

-- The line l is taken for a block, is not too long for one, and is answered by the figures f in words.
pub record ToldBy (l : List ℕ) (f : Figures) : Type 0 where
  pub taken : is_block l ≡ true
  pub short : length l ≤ 9
  pub words : block_text l ≡ figure_text f

-- Every line that the reader takes with 0D behind it, by what is read; and every block that says figures, its bytes
-- before 0D being the line, by these figures.
pub record RepliesTold : Type 0 where
  pub lines : (l : List ℕ) → is_read (read_of (l ++ (end_byte ∷ []))) ≡ true → ToldBy l (read_of (l ++ (end_byte ∷ [])))
  pub blocks : (s : List ℕ) (f : Figures) → Says s f → ToldBy (before_end s) f

-- Whatever the line, its answer as a block has at most 200 bytes.
pub record ShortAnswers : Type 0 where
  pub most : (l : List ℕ) → length (block_text l) ≤ 200
