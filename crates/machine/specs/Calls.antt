-- Paper 01, "The list of demand 3", its subject: any list of calls, each given the machine that the one before it left.
use Rattle.std.specs.Prelude.{ℕ, zero, suc, List, [], ◌∷◌, replicate}
use Prim.Native.Char.{code}
use Prim.Native.String.{String, [] as []ᵀ, ◌∷◌ as ◌∷ᵀ◌}
use Rattle.digits.specs.Digits.{end_byte}
use Rattle.machine.specs.State.{Machine}
use Rattle.machine.specs.Steps.{power_on, byte_step, tick_step}

-- The list holds two kinds of call: a received byte with the content of its lent reply buffer, and a tick with its
-- input word and the content of its lent reply buffer (paper 02, 3/14). Bytes and words have any value, buffers any
-- length and content.
pub data Call : Type 0 where
  byte : ℕ → List ℕ → Call
  tick : ℕ → List ℕ → Call

abbrev pub after : Machine → Call → Machine
after m (byte b buffer) = (byte_step m b buffer).machine
after m (tick word buffer) = (tick_step m word buffer).machine

-- What the first call gets: what power-on with a switch gave, or a given machine.
pub data Origin : Type 0 where
  power : ℕ → Origin
  given : Machine → Origin

-- The machine after a list of calls, the latest first: each call gets the machine that the one before it left.
unfoldable pub run : Origin → List Call → Machine
run (power switch) [] = power_on switch
run (given m) [] = m
run o (x ∷ h) = after (run o h) x

-- From power-on; and from a machine on.
abbrev pub state : ℕ → List Call → Machine
state switch h = run (power switch) h

abbrev pub from : Machine → List Call → Machine
from m h = run (given m) h

-- ---- Lists by what they hold, the latest call first, after those of h

-- A lent buffer of 120 bytes.
abbrev pub buffer : List ℕ
buffer = replicate 120 0

-- The characters of a text.
abbrev pub chars : String → List ℕ
chars []ᵀ = []
chars (c ∷ᵀ s) = code c ∷ chars s

-- Bytes, each with such a buffer.
abbrev pub bytes : List ℕ → List Call → List Call
bytes [] h = h
bytes (b ∷ bs) h = bytes bs (byte b buffer ∷ h)

-- A line: its characters and 0D.
abbrev pub line : String → List Call → List Call
line l h = byte end_byte buffer ∷ bytes (chars l) h

-- Lines, the first of them first.
abbrev pub lines : List String → List Call → List Call
lines [] h = h
lines (l ∷ ls) h = lines ls (line l h)

-- n ticks with the input word w, each with such a buffer.
abbrev pub ticks : ℕ → ℕ → List Call → List Call
ticks zero w h = h
ticks (suc n) w h = tick w buffer ∷ ticks n w h
