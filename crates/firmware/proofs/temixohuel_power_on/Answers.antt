-- What power-on of `controller` promises, but for what speaks of the machine alone and for computed examples. Assumes
-- nothing.
use Rattle.firmware.proofs.temixohuel_power_on.Goals as goal

pub returns : goal.returns
returns c =
    record {
      value = c.power_on.ensures.value;
      reachable = c.power_on.ensures.reachable;
      demand3answers = c.power_on.ensures.demand3answers;
      journal_answers = c.power_on.ensures.journal_answers;
      settles_answers = c.power_on.ensures.settles_answers;
      carry_answers = c.power_on.ensures.carry_answers;
      returns_answers = c.power_on.ensures.returns_answers;
    }
