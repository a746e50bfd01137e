-- What words mean has a small number, if it has one. Assumes nothing.
use Rattle.std.proofs.Common.{Option, None, Some, Result, Ok, Err}
use Prim.Native.Nat.{ℕ, ◌≤◌}
use native.Mathlib.Omega.{arith}
use mathlib.Core.Bool.{Bool, true, false, cond}
use mathlib.Core.List.{List, [], ◌∷◌}
use lib.Ieee.{Float}
use Rattle.line.specs.declared.command.Command.{Command}
use Rattle.figures.specs.Figures.{number_of, pick_units, units_of, asks, command_of}
use Rattle.figures.specs.declared.NotExact.{NotExact}
use Rattle.figures.specs.declared.Setting.{Setting}
use Rattle.numerals.specs.Numerals.{figure_of}
use Rattle.numerals.specs.declared.Signed.{Signed}
use Rattle.numerals.specs.declared.NoFigure.{NoFigure}
use Rattle.numerals.specs.declared.NoFigure.TheVariants.{Misspelled, Inexact}
use Rattle.sentences.specs.Sentences.{place_of}
use Rattle.phrases.specs.declared.meaning.NoCommand.TheVariants as N
use Rattle.phrases.specs.Meanings.{
  Meant,
  formed,
  word,
  plain_of,
  with_decimal,
  with_hexadecimal,
  setting_of,
  answer_meant,
  asked_meant,
  with_figure,
  single_of,
  axis_distance,
  pair_of,
  waiting_start,
  waiting_of,
  meant_at,
  meant_by,
}

-- 21 at most, the number of what is not exact.
unfoldable pub Small : Meant → Type 0
Small (Err N.Misspelled) = Unit {0}
Small (Ok c) = Unit {0}
Small (Err N.NotExact) = (e : NotExact) → number_of e ≤ 21

none : Small (Err N.Misspelled)
unfolding Small
none = tt

some : (c : Command) → Small (Ok c)
unfolding Small
some c = tt

number : Small (Err N.NotExact)
unfolding Small
number e = omega arith

either : (t : Bool) (x y : Meant) → Small x → Small y → Small (cond t x y)
either true x y p q = p
either false x y p q = q

-- A command or none.
formed_small : (c : Option Command) → Small (formed c)
formed_small None = none
formed_small (Some c) = some c

ruleset smalls = (either, formed_small, none, some, number)

small_plain : (k : ℕ) → Small (formed (plain_of k))
small_plain k = search smalls depth 15

small_decimal : (k : ℕ) (s : Option ℕ) → Small (formed (with_decimal k s))
small_decimal k s = search smalls

small_hexadecimal : (k : ℕ) (s : Option ℕ) → Small (formed (with_hexadecimal k s))
small_hexadecimal k s = search smalls

small_answer : (cs : List Command) → Small (answer_meant cs)
small_answer [] = number
small_answer (c ∷ cs) = some c

picked : (command : ℕ → Command) (t : Bool) (n : ℕ) → Small (asked_meant (asks command (pick_units t n)))
picked command t n = small_answer (asks command (pick_units t n)).values

small_asked : (command : ℕ → Command) (a most : ℕ) (x : Float) → Small (asked_meant (asks command (units_of a 4 most x)))
small_asked command a most x = small_answer (asks command (units_of a 4 most x)).values

small_setting : (s : Setting) → Small (asked_meant (command_of s))
small_setting s = small_answer (command_of s).values

small_figure : (k : ℕ) (f : Result ℕ NoFigure) → Small (with_figure k f)
small_figure k (Err Misspelled) = none
small_figure k (Err Inexact) = search smalls
small_figure k (Ok q) = search (smalls, small_setting (setting_of k q))

small_distance : (a : Option ℕ) (d : Option Signed) → Small (formed (axis_distance a d))
small_distance a d = search smalls

small_waiting : (s : Option ℕ) → Small (formed (waiting_start s))
small_waiting s = search smalls

small_single : (k : ℕ) (w : List ℕ) → Small (single_of k w)
small_single k w = search (smalls, small_figure k (figure_of w)) depth 15

small_pair : (k : ℕ) (a d : List ℕ) → Small (formed (pair_of k a d))
small_pair k a d = search smalls

small_after : (k : ℕ) (master w x : List ℕ) → Small (formed (waiting_of k master w x))
small_after k master w x = search smalls

small_at : (k : ℕ) (l : List ℕ) → Small (meant_at k l)
small_at k l = search (smalls, small_single k (word 1 l)) depth 15

pub small_meant : (l : List ℕ) → Small (meant_by l)
unfolding meant_by
small_meant l = small_at (place_of (word 0 l)) l
