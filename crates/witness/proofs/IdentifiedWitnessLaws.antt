-- The replies of specs/Identified.antt, by computation. Assumes nothing.
use mathlib.Core.Path.{refl}
use Rattle.laws.specs.Bits.{weigh}
use Rattle.digits.specs.Digits.{six_of, number_of}
use Rattle.block.specs.Block.{block_of, row_of}
use Rattle.line.specs.Line.{judge_of, judge_row}
use Rattle.reply.specs.Reply.{reply_of, refusal_of}
use Rattle.machine.specs.Calls.{run}
use Rattle.witness.specs.Identified.{ReturnWitness}

pub returned : ReturnWitness
unfolding run number_of judge_of judge_row six_of block_of row_of reply_of refusal_of weigh
returned = record {
  setting = refl;
  capital = refl;
  small_digits = refl;
  reading = refl;
  order = refl;
  position = refl;
  everything = refl;
  unlisted = refl;
  nothing_open = refl;
  switch = refl;
  beyond = refl;
  below = refl;
  too_long = refl;
  letter_first = refl;
  switch_first = refl;
  before_code = refl;
  before_range = refl;
  silent = refl;
  five_digits = refl;
  three_digits = refl;
  later = refl;
}
