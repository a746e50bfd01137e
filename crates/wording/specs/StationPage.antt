-- The examples of docs/PROTOCOL.md, "Lines of the other bench make": what the desk answers to each command, computed.
use Rattle.std.specs.Prelude.{ℕ, List, [], ◌∷◌, ◌++◌, ◌≡◌}
use Prim.Native.String.{String}
use Rattle.machine.specs.Calls.{chars}
use Rattle.wording.specs.Wording.{answer_text}

-- Lines, a line feed (10) between two of them.
abbrev pub lines : List String → List ℕ
lines [] = []
lines (r ∷ []) = chars r
lines (r ∷ (s ∷ rs)) = chars r ++ (10 ∷ lines (s ∷ rs))

-- Commands that are converted.
pub record ConvertedRows : Type 0 where
  pub speed : answer_text (chars "SPD X 35000") ≡ chars "P08222E0"
  pub single_x : answer_text (chars "INC X 5000")
      ≡ lines ("P0001388" ∷ "P0100000" ∷ "P0200000" ∷ "P0300000" ∷ "P0400000" ∷ "Q0800000" ∷ [])
  pub single_y : answer_text (chars "INC Y -5000")
      ≡ lines ("P0000000" ∷ "P0181388" ∷ "P0200000" ∷ "P0300000" ∷ "P0400000" ∷ "Q0810000" ∷ [])
  pub pair : answer_text (chars "LNI X -20000, Y 20000")
      ≡ lines ("P0084E20" ∷ "P0104E20" ∷ "P0200000" ∷ "P0300000" ∷ "P0400000" ∷ "Q0800000" ∷ [])
  pub stop_x : answer_text (chars "SST X") ≡ chars "Q0900000"
  pub stop_y : answer_text (chars "SST Y") ≡ chars "Q0900000"
  pub stop_both : answer_text (chars "SST X,Y") ≡ chars "Q0900000"
  pub stop_spaced : answer_text (chars "SST X, Y") ≡ chars "Q0900000"

-- A name that the station has not, a word of ours in capitals too, or one of the four in another form.
pub record UnknownRows : Type 0 where
  pub name : answer_text (chars "FOO X 1") ≡ chars "turned away by 27: no MD5230D command, or not in its form"
  pub word : answer_text (chars "LOW 00010") ≡ chars "turned away by 27: no MD5230D command, or not in its form"
  pub no_number : answer_text (chars "INC X") ≡ chars "turned away by 27: no MD5230D command, or not in its form"
  pub exchanged : answer_text (chars "LNI Y 1,X 1") ≡ chars "turned away by 27: no MD5230D command, or not in its form"
  pub minus : answer_text (chars "SPD X -5") ≡ chars "turned away by 27: no MD5230D command, or not in its form"
  pub plus : answer_text (chars "INC X +5") ≡ chars "turned away by 27: no MD5230D command, or not in its form"
  pub no_axis : answer_text (chars "SST") ≡ chars "turned away by 27: no MD5230D command, or not in its form"

-- The other names of the station. The last begins as a reply block does.
pub record LackedRows : Type 0 where
  pub absolute : answer_text (chars "ABS X 1000") ≡ chars "turned away by 28: an MD5230D command that this bench lacks"
  pub home : answer_text (chars "HOM X") ≡ chars "turned away by 28: an MD5230D command that this bench lacks"
  pub restart : answer_text (chars "RST") ≡ chars "turned away by 28: an MD5230D command that this bench lacks"
  pub block : answer_text (chars "SAP X 1") ≡ chars "turned away by 28: an MD5230D command that this bench lacks"

-- A speed or a distance out of its range, however long the number is.
pub record RangeRows : Type 0 where
  pub no_speed : answer_text (chars "SPD X 0")
      ≡ chars "turned away by 29: a speed of 0 or over 250,000 pps, or a distance over 524,287"
  pub speed : answer_text (chars "SPD X 250001")
      ≡ chars "turned away by 29: a speed of 0 or over 250,000 pps, or a distance over 524,287"
  pub distance : answer_text (chars "INC X -524288")
      ≡ chars "turned away by 29: a speed of 0 or over 250,000 pps, or a distance over 524,287"
  pub long : answer_text (chars "INC X 18446744073709551619")
      ≡ chars "turned away by 29: a speed of 0 or over 250,000 pps, or a distance over 524,287"

pub record StationPage : Type 0 where
  pub converted : ConvertedRows
  pub unknown : UnknownRows
  pub lacked : LackedRows
  pub range : RangeRows
