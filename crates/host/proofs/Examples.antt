-- Worked examples of lines written and masters picked, by computation. Assumes nothing.
use Rattle.std.proofs.Common.{None, Some}
use mathlib.Core.Bool.{true, false}
use mathlib.Core.List.{[], ◌∷◌, ◌++◌}
use mathlib.Core.Path.{◌≡◌, refl}
use lib.ListN.{replicate}
use Rattle.digits.specs.Digits.{six_of}
use Rattle.block.specs.Block.{block_of, over}
use Rattle.line.specs.declared.command.Reading.TheVariants as R
use Rattle.line.specs.declared.command.Command.TheVariants as C
use Rattle.line.proofs.Examples.{chars}
use Rattle.host.specs.declared.Request.{Request}
use Rattle.host.specs.Master.{master_of}
use Rattle.host.specs.Writer.{line_of, line, refused, written_of, buffer_of}

abbrev query : Request
query = record { silent = false; command = C.Read R.Inputs; ident = None }

abbrev named : Request
named = record { silent = false; command = C.Read R.Inputs; ident = Some 49 }

abbrev minus_zero : Request
minus_zero = record { silent = true; command = C.Distance 0 true 0; ident = Some 55 }

abbrev carry_on : Request
carry_on = record { silent = false; command = C.Order 12; ident = None }

abbrev too_fast : Request
too_fast = record { silent = false; command = C.Set 8 1000001; ident = None }

pub record Examples : Type 0 where
  pub query_line : line_of query ≡ chars "W0" ++ (13 ∷ [])
  pub query_rest : buffer_of query (replicate 10 7) ≡ chars "W0" ++ (13 ∷ replicate 7 7)
  pub query_named : written_of named (replicate 10 7) ≡ refused 19
  pub minus_zero_lem : line_of minus_zero ≡ chars "P40800007" ++ (13 ∷ [])
  pub minus_zero_length : written_of minus_zero (replicate 12 7) ≡ line 10
  pub carry_on_lem : line_of carry_on ≡ chars "Q0C00000" ++ (13 ∷ [])
  pub short_first : written_of too_fast (replicate 9 7) ≡ refused 18
  pub too_fast_lem : written_of too_fast (replicate 10 7) ≡ refused 19
  pub lowest_of_equals : master_of (5 ∷ 9 ∷ 0 ∷ 9 ∷ 9 ∷ []) ≡ 1
  pub all_rest : master_of (0 ∷ 0 ∷ 0 ∷ 0 ∷ 0 ∷ []) ≡ 0

pub examples : Examples
unfolding line_of written_of buffer_of master_of block_of six_of over
examples =
    record {
      query_line = refl;
      query_rest = refl;
      query_named = refl;
      minus_zero_lem = refl;
      minus_zero_length = refl;
      carry_on_lem = refl;
      short_first = refl;
      too_fast_lem = refl;
      lowest_of_equals = refl;
      all_rest = refl;
    }
