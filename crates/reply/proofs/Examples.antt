-- Worked examples of replies, by computation. Assumes nothing.
use Rattle.std.proofs.Common.{None, Some}
use Prim.Native.Nat.{ℕ}
use Prim.Native.Char.{code}
use Prim.Native.String as S
use mathlib.Core.Bool.{true, false}
use mathlib.Core.List.{List, [], ◌∷◌, ◌++◌}
use mathlib.Core.Path.{◌≡◌, refl}
use lib.IntN.{pos, negsuc}
use Rattle.digits.specs.Digits.{six_of}
use Rattle.block.specs.Block.{block_of, row_of}
use Rattle.line.specs.declared.command.Command.TheVariants as C
use Rattle.line.specs.declared.command.Reading.TheVariants as R
use Rattle.reply.specs.declared.readings.Readings.{Readings}
use Rattle.reply.specs.Reply.{twenty, position_of, told_by, reply_of, inputs_of, refusal_of}

-- The bytes of a text, then 0D.
abbrev ended : S.String → List ℕ
ended S.[] = 13 ∷ []
ended (S.◌∷◌ c s) = code c ∷ ended s

-- Switch 0. Travels 5, 1, minus 3, 0, 0; positions -1, -10, 0, 524,287, -524,288; status 3; input 12 high.
abbrev readings : Readings
readings = record {
  travels = record { 0 = 5 } ∷ record { 0 = 1 } ∷ record { 0 = 3 } ∷ record { 0 = 0 } ∷ record { 0 = 0 } ∷ [];
  positions =
      record { 0 = 524287 } ∷ record { 0 = 524278 } ∷ record { 0 = 524288 } ∷ record { 0 = 1048575 } ∷ record { 0 = 0 }
      ∷ [];
  inputs = 4096;
  minus = false ∷ false ∷ true ∷ false ∷ false ∷ [];
  switch = 0;
  status = 3;
}

pub record Examples : Type 0 where
  pub least : position_of (record { 0 = 0 }) ≡ negsuc 524287
  pub most : position_of (record { 0 = 1048575 }) ≡ pos 524287
  pub minus_one : twenty (position_of (record { 0 = 524287 })) ≡ 0xFFFFF
  pub minus_ten : twenty (position_of (record { 0 = 524278 })) ≡ 0xFFFF6
  pub travel : reply_of (told_by readings) (C.Read (R.Travel 2)) 0x200000 None ≡ ended "S0280003"
  pub position : reply_of (told_by readings) (C.Read (R.Position 1)) 0x100000 (Some 49) ≡ ended "s01FFFF61"
  pub no_travel : reply_of (told_by readings) (C.Read (R.Travel 5)) 0x500000 None ≡ ended "S0500000"
  pub no_position : reply_of (told_by readings) (C.Read (R.Position 5)) 0x500000 None ≡ ended "s0500000"
  pub echo : reply_of (told_by readings) (C.Order 11) 0xB1FA00 None ≡ ended "S0B1FA00"
  pub input_setting : reply_of (told_by readings) (C.Set 13 1) 0xD00001 None ≡ ended "S0D00001"
  pub setting : reply_of (told_by readings) (C.Set 8 1) 0x800001 None ≡ ended "U0000000"
  pub query : reply_of (told_by readings) (C.Read R.Inputs) 0 None ≡ []
  pub outputs : reply_of (told_by readings) (C.Outputs 0xABCDEF) 0xABCDEF (Some 49) ≡ []
  pub inputs : inputs_of 0 4096 (Some 49) ≡ ended "R00010001"
  pub everything : reply_of (told_by readings) (C.Read R.Everything) 0x800000 (Some 57) ≡
      ended "S00000059" ++ ended "S01000019" ++ ended "S02800039" ++ ended "S03000009" ++ ended "S04000009"
      ++ ended "S06000039" ++ ended "s00FFFFF9" ++ ended "s01FFFF69" ++ ended "s02000009" ++ ended "s037FFFF9"
      ++ ended "s04800009" ++ ended "R00010009"
  pub sixteen : refusal_of 10 16 (Some 66) ≡ ended "UA000010B"
  pub seven : refusal_of 10 7 (Some 66) ≡ ended "UA000007"

pub examples : Examples
unfolding reply_of inputs_of refusal_of block_of row_of six_of
examples =
    record {
      least = refl;
      most = refl;
      minus_one = refl;
      minus_ten = refl;
      travel = refl;
      position = refl;
      no_travel = refl;
      no_position = refl;
      echo = refl;
      input_setting = refl;
      setting = refl;
      query = refl;
      outputs = refl;
      inputs = refl;
      everything = refl;
      sixteen = refl;
      seven = refl;
    }
