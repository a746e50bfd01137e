-- The blocks of specs/Blocks.antt, by computation. Assumes nothing.
use mathlib.Core.Path.{refl}
use Rattle.laws.specs.Bits.{weigh}
use Rattle.digits.specs.Digits.{six_of, number_of}
use Rattle.block.specs.Block.{block_of, row_of}
use Rattle.line.specs.Line.{judge_of, judge_row}
use Rattle.outputs.specs.Outputs.{word_of}
use Rattle.reply.specs.Reply.{reply_of, inputs_of}
use Rattle.machine.specs.Calls.{run}
use Rattle.machine.specs.Journal.{latest_entry}
use Rattle.machine.specs.Settle.{latest_block}
use Rattle.witness.specs.Blocks.{OneTick, Words, BlockWitness}

shared : OneTick
unfolding run latest_block latest_entry number_of judge_of judge_row six_of block_of inputs_of
shared = record { block = refl; entry = refl; block_too = refl; number = refl }

worded : Words
unfolding run number_of judge_of judge_row six_of block_of row_of reply_of word_of weigh
worded = record {
  shown = refl;
  kept = refl;
  silent = refl;
  short = refl;
  dark = refl;
  large = refl;
  taken = refl;
  first = refl;
  inputs = refl;
}

pub blocks_answered : BlockWitness
unfolding run latest_block number_of judge_of judge_row six_of block_of inputs_of
blocks_answered = record {
  before = refl;
  due = refl;
  after = refl;
  uncounted = refl;
  later = refl;
  none = refl;
  short = refl;
  one_tick = shared;
  words = worded;
}
