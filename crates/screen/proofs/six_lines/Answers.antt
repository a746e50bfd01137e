-- The line of the end, and the lines of the wines. Assumes nothing.
use Rattle.text.proofs.TextLaws.{joined}
use Rattle.screen.specs.Screen.{master_line, wine_lines}
use Rattle.screen.proofs.WholeLaws.{six_length}
use Rattle.screen.proofs.six_lines.Goals as goal

pub returns : goal.returns
returns c =
    record {
      value = joined c.args.text (master_line c.args.master c.args.trial.end c.args.ticks) (wine_lines 5 c.args.trial)
          c.master_line-first.ensures.value c.wine_lines.ensures.value;
      ticks_len_bound = six_length c.args.trial c.args.master c.args.ticks
          c.master_line-first.ensures.ticks_len_bound c.wine_lines.ensures.trial_len_bound;
    }
