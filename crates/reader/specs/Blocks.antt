-- The blocks of the forms under Replies (paper 01, "Lines") with each field in its range ("Turned away" 20), and that
-- the reader takes them and nothing else: `BlocksRead`, a promise of `read_block`.
use Rattle.line.specs.declared.Accepted.{Accepted}
use Rattle.line.specs.declared.Refusal.{Refusal}
use Rattle.std.specs.Prelude.{ℕ, ◌≤◌, ◌<◌, Bool, true, false, List, [], ◌∷◌, ◌≡◌, Option, Some, Result, Ok, Err}
use Rattle.digits.specs.Digits.{end_byte, six_digits, top_bit}
use Rattle.digits.specs.Characters.{digit_characters, is_one}
use Rattle.line.specs.Codes.{letter_q, code}
use Rattle.line.specs.Line.{judge_value}
use Rattle.reply.specs.Reply.{
  coded,
  letter_u,
  letter_s,
  letter_small_s,
  letter_r,
  block_for,
  travel_digits,
  twenty,
  refusal_ident,
}
use Rattle.machine.specs.Starts.{outside}
use Rattle.host.specs.Writer.{ident_fits}
use Rattle.reader.specs.Reader.{
  Figures,
  refused,
  verdict,
  travelled,
  status,
  echo,
  placed,
  inputs,
  read_of,
}

-- ---- Each field in its range

-- One digit that isn't C, and an identification that is absent or a character 0-9, A-F or a-f (`named`, below).
pub record Framed (switch : ℕ) (ident : Option ℕ) : Type 0 where
  pub digit : switch < 16
  pub other : switch ≡ 12 → ⊥
  pub named : ident_fits ident ≡ true

-- U has 0, 4 to 17 or 26; a turned-away line's identification from 8 on and none for 4 to 7.
pub record Turned (n : ℕ) (ident : Option ℕ) : Type 0 where
  pub low : 4 ≤ n
  pub high : 17 < n → n ≡ 26
  pub own : refusal_ident n ident ≡ ident

-- Where the number is not 0.
abbrev pub VerdictFits : ℕ → Option ℕ → Type 0
VerdictFits n ident = (n ≡ 0 → ⊥) → Turned n ident

-- A line that no number turns away.
abbrev pub is_accepted : Result Accepted Refusal → Bool
is_accepted (Ok a) = true
is_accepted (Err r) = false

-- Other Q echo: the six digits of a line Q that is accepted, and whose code is of no reading (0-4, 6).
pub record Echoes (n : ℕ) : Type 0 where
  pub six : n < six_digits
  pub no_travel : 5 ≤ code n
  pub no_status : code n ≡ 6 → ⊥
  pub taken : is_accepted (judge_value letter_q 6 n) ≡ true

-- Status bits 0 to 6 are free; a position is -524,288 to 524,287; inputs are a 24-bit word. 20 is no block.
abbrev pub InRange : Figures → Type 0
InRange (refused n) = ⊥
InRange (verdict switch n ident) = Framed switch ident × VerdictFits n ident
InRange (travelled switch k minus t ident) = Framed switch ident × ((k < 5) × (t < top_bit))
InRange (status switch v ident) = Framed switch ident × (v < 128)
InRange (echo switch n ident) = Framed switch ident × Echoes n
InRange (placed switch k z ident) = Framed switch ident × ((k < 5) × (outside z ≡ false))
InRange (inputs switch w ident) = Framed switch ident × (w < six_digits)

-- ---- The bytes of a block that says these figures

abbrev pub spelling : Figures → List ℕ
spelling (refused n) = []
spelling (verdict switch n ident) = block_for switch letter_u n ident
spelling (travelled switch k minus t ident) = block_for switch letter_s (coded k (travel_digits minus t)) ident
spelling (status switch v ident) = block_for switch letter_s (coded 6 v) ident
spelling (echo switch n ident) = block_for switch letter_s n ident
spelling (placed switch k z ident) = block_for switch letter_small_s (coded k (twenty z)) ident
spelling (inputs switch w ident) = block_for switch letter_r w ident

-- The bytes s are a block that says f.
pub record Says (s : List ℕ) (f : Figures) : Type 0 where
  pub fits : InRange f
  pub bytes : spelling f ≡ s

-- ---- What the reader gives of them

-- What is read of the bytes s: 20, or the figures of the block that they are.
abbrev pub Spelt : List ℕ → Figures → Type 0
Spelt s (refused n) = n ≡ 20
Spelt s (verdict switch n ident) = Says s (verdict switch n ident)
Spelt s (travelled switch k minus t ident) = Says s (travelled switch k minus t ident)
Spelt s (status switch v ident) = Says s (status switch v ident)
Spelt s (echo switch n ident) = Says s (echo switch n ident)
Spelt s (placed switch k z ident) = Says s (placed switch k z ident)
Spelt s (inputs switch w ident) = Says s (inputs switch w ident)

-- The figures with another identification; 20 has none.
abbrev pub renamed : Figures → ℕ → Figures
renamed (refused n) x = refused n
renamed (verdict switch n ident) x = verdict switch n (Some x)
renamed (travelled switch k minus t ident) x = travelled switch k minus t (Some x)
renamed (status switch v ident) x = status switch v (Some x)
renamed (echo switch n ident) x = echo switch n (Some x)
renamed (placed switch k z ident) x = placed switch k z (Some x)
renamed (inputs switch w ident) x = inputs switch w (Some x)

-- Ten bytes with x in the ninth place and 0D behind it.
abbrev pub ten_with : ℕ → ℕ → ℕ → ℕ → ℕ → ℕ → ℕ → ℕ → ℕ → List ℕ
ten_with l w a b c d e f x = l ∷ w ∷ a ∷ b ∷ c ∷ d ∷ e ∷ f ∷ x ∷ end_byte ∷ []

-- Every row of bytes.
pub record BlocksRead : Type 0 where
  -- a block is read as the figures that it says
  pub read : (s : List ℕ) (f : Figures) → Says s f → read_of s ≡ f
  -- what is read is a block that says just this, or 20
  pub only : (s : List ℕ) → Spelt s (read_of s)
  -- 20 is exactly for bytes that are no block
  pub without : (s : List ℕ) → read_of s ≡ refused 20 → (f : Figures) → Says s f → ⊥
  pub others : (s : List ℕ) → ((f : Figures) → Says s f → ⊥) → read_of s ≡ refused 20
  -- paper 02, 7/14: a character is an identification exactly if it is one of the 22
  pub named : (x : ℕ) → ident_fits (Some x) ≡ is_one x digit_characters
  -- ten bytes are read alike with each of the 22, but for the identification that is told; with any other character
  -- they are 20
  pub alike : (l w a b c d e f x y : ℕ) → is_one x digit_characters ≡ true → is_one y digit_characters ≡ true
      → read_of (ten_with l w a b c d e f y) ≡ renamed (read_of (ten_with l w a b c d e f x)) y
  pub none : (l w a b c d e f x : ℕ) → is_one x digit_characters ≡ false
      → read_of (ten_with l w a b c d e f x) ≡ refused 20
  -- two blocks are read as two, also where their identifications differ in case alone
  pub apart : (s t : List ℕ) → (read_of s ≡ refused 20 → ⊥) → read_of s ≡ read_of t → s ≡ t
