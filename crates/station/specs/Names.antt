-- The commands of the MD5230D (source document 001, the table of chapter 3): its 39 names, in its order.
use Rattle.std.specs.Prelude.{ℕ, Bool, true, false, cond, List, [], ◌∷◌}
use Prim.Native.String.{String}
use Rattle.machine.specs.Calls.{chars}
use Rattle.text.specs.Parts.{same}

unfoldable pub names : List String
names =
    -- program control
    "PRG" ∷ "PSP" ∷ "EDP" ∷ "PRS" ∷ "PSE"
    -- drive
    ∷ "ABS" ∷ "ABB" ∷ "INC" ∷ "ICB" ∷ "ABA" ∷ "ICA" ∷ "CNT" ∷ "HOM" ∷ "HMB" ∷ "SST" ∷ "IST"
    -- interpolation
    ∷ "LNI" ∷ "CWI" ∷ "CCW"
    -- drive setting
    ∷ "SPD" ∷ "HOF" ∷ "HON" ∷ "SLP" ∷ "SRP" ∷ "SAP"
    -- state acquisition
    ∷ "SPG" ∷ "RLP" ∷ "RRP" ∷ "ROT" ∷ "RIN" ∷ "RDR" ∷ "RPE" ∷ "RVR"
    -- other
    ∷ "OUT" ∷ "OTP" ∷ "SSP" ∷ "PST" ∷ "RST" ∷ "ERS"
    ∷ []

-- Whether a name is one of these.
unfoldable pub is_among : List String → List ℕ → Bool
is_among [] w = false
is_among (n ∷ ns) w = cond (same w (chars n)) true (is_among ns w)

abbrev pub is_listed : List ℕ → Bool
is_listed w = is_among names w
