-- What a command says and the format lines, both ways, and the digits of numbers. Assumes nothing.
use Rattle.station.specs.Spelled.{Spelled}
use Rattle.station.proofs.CompleteLaws.{complete}
use Rattle.station.proofs.SoundLaws.{sound}
use Rattle.station.proofs.DigitLaws.{numbers, distances}

pub spelled : Spelled
spelled = record { complete = complete; sound = sound; numbers = numbers; distances = distances }
