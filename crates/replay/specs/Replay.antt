-- A list of calls, nine bytes each, played to the machine after power-on, and the digest of all its answers. The
-- machine that a call gets is `state` (machine/specs/Calls.antt) of the switch and the calls before it.
use Rattle.std.specs.Prelude.{ℕ, zero, suc, ◌+◌, ◌*◌, ◌/◌, ◌%◌, Bool, true, false, cond, List, [], ◌∷◌, ◌≡◌, eqb, ltb, length, get_or, replicate}
use Rattle.reply.specs.Reply.{bias}
use Rattle.machine.specs.State.{Machine}
use Rattle.machine.specs.Entries.{EntryAnswer, no_entry, entry}
use Rattle.machine.specs.Replies.{travel_of, position_of}
use Rattle.machine.specs.Stops.{status}
use Rattle.machine.specs.Steps as steps
use Rattle.machine.specs.Steps.{power_number, byte_step, tick_step, buffer_after, buffer_after_tick}
use Rattle.machine.specs.Calls.{Call, byte, tick, state}
use Rattle.controller.specs.Held.{held}
use Rattle.replay.specs.declared.Kind.{Kind}
use Rattle.replay.specs.declared.Kind.TheVariants as K
use Rattle.replay.specs.declared.play.Played.{Played}
use Rattle.replay.specs.Digest.{mixed, tick_code, mixed_bytes, mixed_entry, mixed_axes}

-- The calls so far, the latest first, and the digest of their answers.
pub record Seen : Type 0 where
  pub calls : List Call
  pub digest : ℕ

abbrev pub seen : List Call → ℕ → Seen
seen h digest = record { calls = h; digest = digest }

-- Power-on: its number is mixed into 0.
abbrev pub begun : ℕ → Seen
begun switch = seen [] (mixed 0 (power_number switch) 0 0)

-- The entry of a move that ends.
abbrev pub entry_told : EntryAnswer → ℕ → ℕ
entry_told no_entry digest = digest
entry_told (entry e) digest = mixed_entry digest e

-- A tick: the block and the entry that it answers; then the words of its halves, and its pulses and number.
abbrev pub tick_told : steps.TickAnswer → ℕ → ℕ
tick_told a digest =
    mixed (entry_told a.entry (mixed_bytes digest a.reply)) a.first a.second (tick_code a.pulse a.number)

-- A tick with d in the lent buffer.
abbrev pub ticked : ℕ → ℕ → List ℕ → Seen → Seen
ticked switch word d x =
    seen (tick word d ∷ x.calls) (tick_told (tick_step (state switch x.calls) word d) x.digest)

-- So many ticks with one input word and a buffer as long as d. What it holds plays no part in the answers.
unfoldable pub ticks : ℕ → ℕ → ℕ → List ℕ → Seen → Seen
ticks switch zero word d x = x
ticks switch (suc n) word d x = ticked switch word d (ticks switch n word d x)

-- The buffer after a tick that found c in it, and after so many ticks, the first of which found d.
abbrev pub tick_lent : ℕ → ℕ → List ℕ → List ℕ → Seen → List ℕ
tick_lent switch word d c x = buffer_after_tick (tick_step (state switch x.calls) word d) c

unfoldable pub lent_after : ℕ → ℕ → ℕ → List ℕ → Seen → List ℕ
lent_after switch zero word d x = d
lent_after switch (suc n) word d x =
    tick_lent switch word d (lent_after switch n word d x) (ticks switch n word d x)

-- So many ticks that are lent one buffer, all of which counts after the last of them, or nothing of it.
abbrev pub lent_ticks : ℕ → ℕ → ℕ → List ℕ → Bool → Seen → Seen
lent_ticks switch n word d whole x =
    seen (ticks switch n word d x).calls
    (mixed_bytes (ticks switch n word d x).digest (cond whole (lent_after switch n word d x) []))

-- A received byte, with d in the lent buffer: the length of the reply and the number, then each byte of the buffer as
-- the call left it, or of the reply alone.
abbrev pub byte_told : steps.ByteAnswer → Bool → List ℕ → ℕ → ℕ
byte_told a whole d digest =
    mixed_bytes (mixed digest (length a.reply) a.number 0) (cond whole (buffer_after a d) a.reply)

abbrev pub sent : ℕ → ℕ → Bool → List ℕ → Seen → Seen
sent switch b whole d x =
    seen (byte b d ∷ x.calls) (byte_told (byte_step (state switch x.calls) b d) whole d x.digest)

-- The readings: travel and position, with 524,288 added, of each axis; then status, speed and slope.
abbrev pub read_of : Machine → ℕ → ℕ
read_of m digest =
    mixed (mixed_axes (travel_of m) (λ k. bias (position_of m k)) digest 5) (status m) m.settings.speed
    m.settings.slope

abbrev pub read : ℕ → Seen → Seen
read switch x = seen x.calls (read_of (state switch x.calls) x.digest)

-- A call by its kind: 0, `count` ticks with the input word `value` and 120 zeros lent, of which the blocks alone count;
-- 3, one such tick with `count` modulo 256 zeros lent, all of which count; 1, the received byte `value` modulo 256 with
-- `count` modulo 256 zeros lent, of which the reply alone counts from a `count` of 256 on; any other, the readings.
abbrev pub kind_of : ℕ → Kind
kind_of kind =
    cond (eqb kind 0) K.Ticks
    (cond (eqb kind 1) K.Byte
    (cond (eqb kind 3) K.Tick
    K.Readings))

abbrev pub called_by : ℕ → Kind → ℕ → ℕ → Seen → Seen
called_by switch K.Ticks value count x = lent_ticks switch count value (replicate 120 0) false x
called_by switch K.Tick value count x = lent_ticks switch 1 value (replicate (count % 256) 0) true x
called_by switch K.Byte value count x = sent switch (value % 256) (ltb count 256) (replicate (count % 256) 0) x
called_by switch K.Readings value count x = read switch x

unfoldable pub called : ℕ → ℕ → ℕ → ℕ → Seen → Seen
called switch kind value count x = called_by switch (kind_of kind) value count x

-- The number of the four bytes from i on, the low one first.
unfoldable pub word_at : List ℕ → ℕ → ℕ
word_at bytes i =
    get_or bytes i 0 + get_or bytes (i + 1) 0 * 256 + get_or bytes (i + 2) 0 * 65536 + get_or bytes (i + 3) 0 * 16777216

-- The first j calls. Byte 0 of a call is its kind, bytes 1 to 4 its value, bytes 5 to 8 its count.
unfoldable pub seen_after : ℕ → List ℕ → ℕ → Seen
seen_after switch bytes zero = begun switch
seen_after switch bytes (suc j) =
    called switch (get_or bytes (9 * j) 0) (word_at bytes (9 * j + 1)) (word_at bytes (9 * j + 5))
    (seen_after switch bytes j)

-- All calls of the list; a rest of fewer than nine bytes is not read.
unfoldable pub replayed : ℕ → List ℕ → ℕ
replayed switch bytes = (seen_after switch bytes (length bytes / 9)).digest

-- ---- How it is held

abbrev pub held_seen : ℕ → Seen → Played
held_seen switch x = record { controller = held (state switch x.calls); digest = x.digest }

-- What is played after a call f, for every switch and list of calls that leave the controller before it.
abbrev pub Plays : Played → Played → (ℕ → Seen → Seen) → Type 0
Plays was r f = (s : ℕ) (h : List Call) → held (state s h) ≡ was.controller
    → r ≡ held_seen s (f s (seen h was.digest))

-- What a lent buffer holds after a call.
abbrev pub Lends : Played → List ℕ → (ℕ → Seen → List ℕ) → Type 0
Lends was x f = (s : ℕ) (h : List Call) → held (state s h) ≡ was.controller → x ≡ f s (seen h was.digest)
