-- The digest of the answers to a list of calls: a number of 32 bits, into which each answer is mixed.
use Rattle.std.specs.Prelude.{ℕ, zero, suc, ◌+◌, ◌-◌, ◌*◌, ◌/◌, ◌%◌, cond, List, [], ◌∷◌, eqb, ℤ, pos, negsuc, get_or}
use Rattle.journal.specs.declared.Entry.{Entry}
use Rattle.reply.specs.declared.readings.Travel.{Travel}
use Rattle.reply.specs.declared.readings.Position.{Position}

-- Three numbers mixed into the digest h.
unfoldable pub mixed : ℕ → ℕ → ℕ → ℕ → ℕ
mixed h x y z = (h * 2147483629 + x * 1073741789 + y * 536870909 + z * 268435399) % 4294967296

-- A pulse as a number: 0, 1, and 2 for any other, which is -1.
abbrev pub pulse_code : ℤ → ℕ
pulse_code (pos n) = cond (eqb n 0) 0 (cond (eqb n 1) 1 2)
pulse_code (negsuc n) = 2

-- The pulses of the five axes and the number of a tick as one number.
unfoldable pub tick_code : (ℕ → ℤ) → ℕ → ℕ
tick_code pulse number =
    pulse_code (pulse 0) + pulse_code (pulse 1) * 3 + pulse_code (pulse 2) * 9
    + pulse_code (pulse 3) * 27 + pulse_code (pulse 4) * 81 + number * 256

-- Each byte of a buffer mixed in, in order.
unfoldable pub mixed_bytes : ℕ → List ℕ → ℕ
mixed_bytes h [] = h
mixed_bytes h (b ∷ bs) = mixed_bytes (mixed h b 0 0) bs

-- What a list of signed numbers has for an axis.
abbrev pub at_axis : List ℤ → ℕ → ℤ
at_axis numbers k = get_or numbers k (pos 0)

-- A signed number of 32 bits with 2,147,483,648 added.
abbrev pub raised : ℤ → ℕ
raised (pos n) = 2147483648 + n
raised (negsuc n) = 2147483647 - n

-- The entry of a move mixed in: ticks in two halves and cause, then the travels.
unfoldable pub mixed_entry : ℕ → Entry → ℕ
mixed_entry h e =
    mixed (mixed (mixed h (e.ticks % 4294967296) (e.ticks / 4294967296) e.cause) (travel 0) (travel 1) (travel 2))
    (travel 3) (travel 4) 0
  where
    travel : ℕ → ℕ
    travel k = raised (at_axis e.travels k)

-- Travel and place of each axis below n mixed in, with its number.
unfoldable pub mixed_axes : (ℕ → ℕ) → (ℕ → ℕ) → ℕ → ℕ → ℕ
mixed_axes travel place h zero = h
mixed_axes travel place h (suc k) = mixed (mixed_axes travel place h k) (travel k) (place k) k

-- ---- What a list holds of an axis

abbrev pub travel_at : List Travel → ℕ → ℕ
travel_at travels k = (get_or travels k (record { 0 = 0 })).0

abbrev pub place_at : List Position → ℕ → ℕ
place_at positions k = (get_or positions k (record { 0 = 0 })).0
