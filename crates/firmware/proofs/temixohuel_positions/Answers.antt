-- The positions that are handed out are those of every machine so held, and so of every list that `positions` may
-- answer. Assumes nothing.
use mathlib.Core.List.{map}
use mathlib.Core.Path.{sym, ap, ◌∙◌}
use Rattle.reply.specs.Reply.{position_of}
use Rattle.controller.proofs.AnswerLaws.{positions_signed}
use Rattle.firmware.proofs.temixohuel_positions.Goals as goal

pub returns : goal.returns
returns c =
    record {
      axes_value = λ ps q. c.signed_positions-axes.ensures c.requires.switch c.requires.history c.requires.made
          ∙ sym (ap (map position_of) (q c.requires.switch c.requires.history c.requires.made)
          ∙ positions_signed c.requires.switch c.requires.history);
      made = λ s h e. c.signed_positions-axes.ensures s h e;
    }
