-- Paper 02, 7/14, from power-on with switch 0: replies with small identifications and with capitals. The block that a
-- tick answers to a W line stands in Blocks.antt.
use Rattle.std.specs.Prelude.{◌++◌, ◌≡◌}
use Rattle.machine.specs.Steps.{power_on}
use Rattle.machine.specs.Calls.{chars}
use Rattle.machine.specs.Marked.{told}

pub record ReturnWitness : Type 0 where
  -- U, S of a reading and of an order, s, and q 8, and both cases of a letter
  pub setting : (told (power_on 0) "P0000001a").reply ≡ chars "U0000000a\r"
  pub capital : (told (power_on 0) "P0000001A").reply ≡ chars "U0000000A\r"
  pub small_digits : (told (power_on 0) "P08f4240F").reply ≡ chars "U0000000F\r"
  pub reading : (told (power_on 0) "Q0600000c").reply ≡ chars "S0600000c\r"
  pub order : (told (power_on 0) "Q0Babcdee").reply ≡ chars "S0BABCDEe\r"
  pub position : (told (power_on 0) "q0100000d").reply ≡ chars "s0100000d\r"
  pub everything : (told (power_on 0) "q0800000b").reply
      ≡ chars "S0000000b\rS0100000b\rS0200000b\rS0300000b\rS0400000b\rS0600000b\r"
      ++ chars "s0000000b\rs0100000b\rs0200000b\rs0300000b\rs0400000b\rR0000000b\r"
  -- turned away from 8 on with it, by 4 to 7 without
  pub unlisted : (told (power_on 0) "P0500001f").reply ≡ chars "U0000008f\r"
  pub nothing_open : (told (power_on 0) "Q0C00000d").reply ≡ chars "U000001Ad\r"
  pub switch : (told (power_on 0) "P1000001a").reply ≡ chars "U0000006\r"
  -- the characters next to the letters are none
  pub beyond : (told (power_on 0) "P0000001g").reply ≡ chars "U0000007\r"
  pub below : (told (power_on 0) "P0000001`").reply ≡ chars "U0000007\r"
  -- 7 keeps its place: behind 4, 5 and 6, before 8 and 10
  pub too_long : (told (power_on 0) "P00000001g").reply ≡ chars "U0000004\r"
  pub letter_first : (told (power_on 0) "X0000001g").reply ≡ chars "U0000005\r"
  pub switch_first : (told (power_on 0) "P1000001g").reply ≡ chars "U0000006\r"
  pub before_code : (told (power_on 0) "P0500001g").reply ≡ chars "U0000007\r"
  pub before_range : (told (power_on 0) "P0800000g").reply ≡ chars "U0000007\r"
  pub silent : (told (power_on 0) "P4500001g").number ≡ 7
  -- no identification without six digits
  pub five_digits : (told (power_on 0) "Q0B1234").reply ≡ chars "S0B12340\r"
  pub three_digits : (told (power_on 0) "P0B3a").reply ≡ chars "U0000000\r"
  -- a W line with one has no reply at once
  pub later : (told (power_on 0) "W0123456f").reply ≡ chars ""
