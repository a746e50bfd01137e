-- What the five bytes are to a machine. Assumes nothing.
use Rattle.host.proofs.WatchLaws.{watch_off_lem}
use Rattle.host.proofs.watch_off.Goals as goal

pub returns-clause-watch_off : goal.returns-clause-watch_off
returns-clause-watch_off c = watch_off_lem
