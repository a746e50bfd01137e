-- The first line, one part behind another. Assumes nothing.
use mathlib.Core.List.{[], ◌∷◌, ◌++◌}
use Rattle.machine.specs.Calls.{chars}
use Rattle.text.specs.Decimal.{decimal_of}
use Rattle.text.proofs.TextLaws.{joined}
use Rattle.screen.specs.Screen.{end_text}
use native.Mathlib.Omega.{arith}
use Rattle.screen.proofs.WholeLaws.{master_length}
use Rattle.screen.proofs.lines.master_line.Goals as goal

pub returns : goal.returns
returns c =
    record {
      value = joined c.args.text (chars "master ") _ c.characters.ensures
          (joined _ (decimal_of c.args.master) _ c.decimal.ensures
          (joined _ (chars ": ") _ c.characters-mark.ensures
          (joined _ (end_text c.args.tick c.args.ticks) (chars " s" ++ (10 ∷ [])) c.end.ensures
          c.characters-2.ensures)));
      ticks_len_bound = master_length c.args.master c.args.tick c.args.ticks (omega arith) (omega arith) (omega arith);
    }
