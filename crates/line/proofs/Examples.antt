-- Worked examples of lines, by computation. Assumes nothing.
use Rattle.line.specs.declared.Refusal.TheVariants as N
use Rattle.std.proofs.Common.{Err}
use Prim.Native.Nat.{ℕ}
use Prim.Native.Char.{code}
use Prim.Native.String as S
use mathlib.Core.Bool.{true}
use mathlib.Core.List.{List, [], ◌∷◌, ◌++◌}
use mathlib.Core.Path.{◌≡◌, refl}
use lib.ListN.{replicate}
use Rattle.digits.specs.Digits.{number_of}
use Rattle.line.specs.declared.command.Command.TheVariants as C
use Rattle.line.specs.declared.command.Reading.TheVariants as R
use Rattle.line.specs.Line.{silent_of, judge_row, judge_of, accepting}

-- The characters of a text.
abbrev pub chars : S.String → List ℕ
chars S.[] = []
chars (S.◌∷◌ c s) = code c ∷ chars s

-- A line of 264 characters that starts with P4.
abbrev pub over_long : List ℕ
over_long = chars "P4" ++ replicate 262 48

pub record Examples : Type 0 where
  pub speed_full : judge_of (chars "P08F4240") ≡ accepting (C.Set 8 1000000) 0x8F4240
  pub speed_over : judge_of (chars "P08F4241") ≡ Err N.Range
  pub distance_minus : judge_of (chars "P0281388") ≡ accepting (C.Distance 2 true 5000) 0x281388
  pub digits_absent : judge_of (chars "Q0B1fa") ≡ accepting (C.Order 11) 0xB1FA00
  pub line_empty : judge_of [] ≡ Err N.Length
  pub inputs_query : judge_of (chars "W0") ≡ accepting (C.Read R.Inputs) 0
  pub outputs_short : judge_of (chars "W01") ≡ Err N.Count
  pub code_absent : judge_of (chars "P0") ≡ Err N.Code
  pub switch_wrong : judge_of (chars "P1") ≡ Err N.Switch
  pub ident_small : judge_of (chars "P08f4240f") ≡ accepting (C.Set 8 1000000) 0x8F4240
  pub ident_none : judge_of (chars "P08f4240g") ≡ Err N.Digits
  pub long_silent : silent_of over_long ≡ true
  pub long_refused : judge_of over_long ≡ Err N.Length

pub examples : Examples
unfolding judge_of judge_row number_of
examples =
    record {
      speed_full = refl;
      speed_over = refl;
      distance_minus = refl;
      digits_absent = refl;
      line_empty = refl;
      inputs_query = refl;
      outputs_short = refl;
      code_absent = refl;
      switch_wrong = refl;
      ident_small = refl;
      ident_none = refl;
      long_silent = refl;
      long_refused = refl;
    }
