-- Commands and what comes of them, computed: they pin each choice of the converter (paper 02, 8/14; source document
-- 001). `convert` promises `Examples`.
use Rattle.std.specs.Prelude.{ℕ, Bool, true, false, List, [], ◌∷◌, ◌++◌, ◌≡◌, length, None}
use Prim.Native.String.{String}
use Rattle.line.specs.declared.command.Command.{Command}
use Rattle.line.specs.declared.command.Command.TheVariants.{Distance, Set, Start, Order, Read}
use Rattle.line.specs.declared.command.Reading.TheVariants.{Status}
use Rattle.machine.specs.Calls.{chars}
use Rattle.host.specs.declared.Request.{Request}
use Rattle.station.specs.Names.{names}
use Rattle.station.specs.declared.Converted.{Converted}
use Rattle.station.specs.Station.{number_of, values_in, convert_of}

-- ---- How the rows below are written

-- A command with its [NULL].
abbrev pub sent : String → List ℕ
sent s = chars s ++ (0 ∷ [])

-- A command value that asks for a reply and carries no identification.
abbrev pub plain : Command → Request
plain c = record { silent = false; command = c; ident = None }

-- The six of a move: axes 0 and 1 with their signs and lengths, three still axes, the start of a master.
abbrev pub six : Bool → ℕ → Bool → ℕ → ℕ → List Request
six p x q y master =
    plain (Distance 0 p x)
    ∷ plain (Distance 1 q y)
    ∷ plain (Distance 2 false 0)
    ∷ plain (Distance 3 false 0)
    ∷ plain (Distance 4 false 0)
    ∷ plain (Start master false)
    ∷ []

-- A number and no command value.
abbrev pub none : ℕ → Converted
none n =
    record {
      number = n;
      count = 0;
      requests =
          plain (Read Status) ∷ plain (Read Status) ∷ plain (Read Status)
          ∷ plain (Read Status) ∷ plain (Read Status) ∷ plain (Read Status) ∷ [];
    }

-- ---- Command values

pub record Values : Type 0 where
  -- the document's own example, X minus and Y plus, of equal lengths: the lower axis is master
  pub lni : values_in (sent "LNI X -20000, Y 20000") ≡ six true 20000 false 20000 0
  -- no space behind the comma; Y is the longer
  pub lni_y : values_in (sent "LNI X 3,Y 7") ≡ six false 3 false 7 1
  pub inc_x : values_in (sent "INC X 5") ≡ six false 5 false 0 0
  pub inc_y : values_in (sent "INC Y 5") ≡ six false 0 false 5 1
  -- 0 is plus
  pub inc_zero : values_in (sent "INC X 0") ≡ six false 0 false 0 0
  pub inc_minus_zero : values_in (sent "INC X -0") ≡ six false 0 false 0 0
  pub spd_x : values_in (sent "SPD X 250000") ≡ plain (Set 8 1000000) ∷ []
  pub spd_y : values_in (sent "SPD Y 1") ≡ plain (Set 8 4) ∷ []
  pub sst_x : values_in (sent "SST X") ≡ plain (Order 9) ∷ []
  pub sst_y : values_in (sent "SST Y") ≡ plain (Order 9) ∷ []
  pub sst_both : values_in (sent "SST X,Y") ≡ plain (Order 9) ∷ []
  pub sst_spaced : values_in (sent "SST X, Y") ≡ plain (Order 9) ∷ []

-- ---- Numbers

pub record Ranges : Type 0 where
  pub spd_over : number_of (sent "SPD X 250001") ≡ 29
  pub spd_zero : number_of (sent "SPD X 0") ≡ 29
  pub inc_over : number_of (sent "INC X 524288") ≡ 29
  pub inc_under : number_of (sent "INC X -524288") ≡ 29
  pub inc_most : number_of (sent "INC X 524287") ≡ 0
  pub inc_least : number_of (sent "INC X -524287") ≡ 0
  pub lni_over : number_of (sent "LNI X 1,Y 524288") ≡ 29
  -- 3 more than 64 bits hold
  pub inc_long : number_of (sent "INC X 18446744073709551619") ≡ 29
  pub spd_long : number_of (sent "SPD X 18446744073709551617") ≡ 29
  -- leading zeros are digits
  pub inc_zeros : number_of (sent "INC X 0000000000000000000005") ≡ 0

pub record Forms : Type 0 where
  pub spd_minus : number_of (sent "SPD X -5") ≡ 27
  pub inc_plus : number_of (sent "INC X +5") ≡ 27
  pub inc_bare : number_of (sent "INC X") ≡ 27
  pub inc_letter : number_of (sent "INC X A") ≡ 27
  pub inc_two : number_of (sent "INC X,Y 5") ≡ 27
  pub lni_exchanged : number_of (sent "LNI Y 1,X 1") ≡ 27
  pub lni_one : number_of (sent "LNI X 1") ≡ 27
  pub spaced : number_of (sent "INC  X 5") ≡ 27
  -- [NULL] is missing, or is not the last byte and the only one
  pub unended : number_of (chars "INC X 5") ≡ 27
  pub ended_twice : number_of (sent "INC X 5" ++ (0 ∷ [])) ≡ 27

pub record Listed : Type 0 where
  pub count : length names ≡ 39
  pub longer : number_of (sent "ABSX 1") ≡ 27
  pub small : number_of (sent "abs X 1") ≡ 27
  pub event : number_of (sent "EEV") ≡ 27
  pub nothing : number_of [] ≡ 27
  -- the form of what we lack is not judged
  pub lacked : number_of (sent "ABS") ≡ 28
  pub lacked_unended : number_of (chars "ABS") ≡ 28
  pub reset : number_of (sent "RST") ≡ 28

-- ---- Whole answers: what the unused places hold

pub record Answers : Type 0 where
  pub one : convert_of (sent "SPD X 250000")
      ≡ record {
        number = 0;
        count = 1;
        requests =
            plain (Set 8 1000000) ∷ plain (Read Status) ∷ plain (Read Status)
            ∷ plain (Read Status) ∷ plain (Read Status) ∷ plain (Read Status) ∷ [];
      }
  pub all : convert_of (sent "INC Y -1") ≡ record { number = 0; count = 6; requests = six false 0 true 1 1 }
  pub unknown : convert_of (sent "EEV") ≡ none 27
  pub lacked : convert_of (sent "HOM X") ≡ none 28
  pub out : convert_of (sent "SPD Y 0") ≡ none 29

pub record Examples : Type 0 where
  pub values : Values
  pub ranges : Ranges
  pub forms : Forms
  pub listed : Listed
  pub answers : Answers
