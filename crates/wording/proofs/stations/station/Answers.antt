-- The command with its end is converted, and told. Assumes nothing.
use Rattle.wording.proofs.ConvertedLaws.{within_six, station_told}
use Rattle.wording.proofs.stations.station.Goals as goal

pub told-requires : goal.told-requires
told-requires c = within_six _ c.convert.ensures.value

pub returns : goal.returns
returns c =
    station_told c.args.text c.args.line.now c.requires c.command.ensures
    c.bytes.ensures c.convert.ensures.value c.told.ensures
