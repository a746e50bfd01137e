-- What the reader promises of every reply and of every row of bytes, beside what it answers. Assumes nothing.
use Rattle.reader.proofs.OnlyBlocks.{blocks_read}
use Rattle.reader.proofs.ReadBack.{replies_read}

pub ruleset promised = (replies_read, blocks_read)
