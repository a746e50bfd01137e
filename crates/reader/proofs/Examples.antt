-- Worked examples of blocks read, by computation. Assumes nothing.
use Rattle.std.proofs.Common.{None, Some}
use mathlib.Core.List.{[], ◌∷◌, ◌++◌}
use mathlib.Core.Path.{◌≡◌, refl}
use mathlib.Core.Bool.{true}
use lib.IntN.{negsuc}
use Rattle.digits.specs.Digits.{number_of}
use Rattle.line.proofs.Examples.{chars}
use Rattle.reader.specs.Reader.{
  refused,
  verdict,
  travelled,
  status,
  echo,
  placed,
  inputs,
  fields_in,
  read_of,
}

pub record Examples : Type 0 where
  pub thirteen : read_of (chars "U000000D" ++ (13 ∷ [])) ≡ verdict 0 13 None
  pub twenty_six : read_of (chars "U000001AB" ++ (13 ∷ [])) ≡ verdict 0 26 (Some 66)
  pub twenty_five : read_of (chars "U0000019" ++ (13 ∷ [])) ≡ refused 20
  pub twenty_seven : read_of (chars "U000001B" ++ (13 ∷ [])) ≡ refused 20
  pub eighteen : read_of (chars "U0000012" ++ (13 ∷ [])) ≡ refused 20
  pub three : read_of (chars "U0000003" ++ (13 ∷ [])) ≡ refused 20
  pub five_named : read_of (chars "U0000005A" ++ (13 ∷ [])) ≡ refused 20
  pub eight_named : read_of (chars "U0000008A" ++ (13 ∷ [])) ≡ verdict 0 8 (Some 65)
  pub start : read_of (chars "S0812AB0" ++ (13 ∷ [])) ≡ echo 0 0x812AB0 None
  pub carry_on_lem : read_of (chars "S0C12300" ++ (13 ∷ [])) ≡ echo 0 0xC12300 None
  pub no_code : read_of (chars "S0700000" ++ (13 ∷ [])) ≡ refused 20
  pub no_switch : read_of (chars "SC600000" ++ (13 ∷ [])) ≡ refused 20
  pub status_over : read_of (chars "S0600080" ++ (13 ∷ [])) ≡ refused 20
  pub status_full : read_of (chars "SF60007F" ++ (13 ∷ [])) ≡ status 15 127 None
  pub lowest : read_of (chars "s0080000" ++ (13 ∷ [])) ≡ placed 0 0 (negsuc 524287) None
  pub minus_travel : read_of (chars "S02800037" ++ (13 ∷ [])) ≡ travelled 0 2 true 3 (Some 55)
  pub word : read_of (chars "R0FFFFFF" ++ (13 ∷ [])) ≡ inputs 0 0xFFFFFF None
  pub small_digit : read_of (chars "s0000abc" ++ (13 ∷ [])) ≡ refused 20
  pub small_ident : read_of (chars "U0000000a" ++ (13 ∷ [])) ≡ verdict 0 0 (Some 97)
  pub small_both : read_of (chars "s0000abca" ++ (13 ∷ [])) ≡ refused 20
  pub small_switch : read_of (chars "Sa600000" ++ (13 ∷ [])) ≡ refused 20
  pub switch_named : read_of (chars "SA600000a" ++ (13 ∷ [])) ≡ status 10 0 (Some 97)
  pub no_ident : read_of (chars "U0000000g" ++ (13 ∷ [])) ≡ refused 20
  pub byte_behind : read_of (chars "U0000000" ++ (13 ∷ 13 ∷ [])) ≡ refused 20

pub examples : Examples
unfolding read_of fields_in number_of
examples =
    record {
      thirteen = refl;
      twenty_six = refl;
      twenty_five = refl;
      twenty_seven = refl;
      eighteen = refl;
      three = refl;
      five_named = refl;
      eight_named = refl;
      start = refl;
      carry_on_lem = refl;
      no_code = refl;
      no_switch = refl;
      status_over = refl;
      status_full = refl;
      lowest = refl;
      minus_travel = refl;
      word = refl;
      small_digit = refl;
      small_ident = refl;
      small_both = refl;
      small_switch = refl;
      switch_named = refl;
      no_ident = refl;
      byte_behind = refl;
    }
