-- What is promised of every reply block and of every line's answer, beside the answer itself. Assumes nothing.
use Rattle.readout.proofs.ReplyLaws.{replies_told}
use Rattle.readout.proofs.Lengths.{fits}

pub ruleset promised = (replies_told, fits)
