-- Worked examples of journals, by computation. Assumes nothing.
use mathlib.Core.List.{◌∷◌}
use mathlib.Core.Path.{refl}
use native.Mathlib.Omega.{arith}
use Rattle.block.specs.Block.{over, put}
use Rattle.journal.specs.Numbers.{groups, found}
use Rattle.journal.specs.Entries.{fit_all, spell_all, read_all}
use Rattle.journal.specs.Journal.{appended, append_buffer, read_at}
use Rattle.journal.specs.Examples.{six_times, WriteExamples, ReadExamples}
use Rattle.journal.proofs.AnswerLaws.{inside}

pub write_examples : WriteExamples
unfolding over put groups fit_all spell_all appended append_buffer
write_examples = record {
  written = refl;
  at_a_place = refl;
  next_place = refl;
  no_space = refl;
  past_the_end = refl;
  range_first = refl;
  no_space_unaltered = refl;
  range_unaltered = refl;
  ticks_over = refl;
  cause_over = refl;
  travel_over = refl;
  travel_under = refl;
}

pub read_examples : ReadExamples
unfolding found read_all read_at
read_examples = record {
  sample_read = refl;
  behind_the_first = refl;
  at_the_end = refl;
  no_bytes = refl;
  past_the_end = refl;
  one_open = refl;
  longer = refl;
  ticks_zero = refl;
  ticks_alone = refl;
  cause_two = refl;
  cause_open = refl;
  cause_seventh = λ rest. inside (0x01 ∷ six_times 0x80 (0x80 ∷ rest)) 0 (omega arith);
  six_open = refl;
  seventh_open = refl;
  seventh_before_zero = refl;
  seventh_whatever_follows = λ rest. inside (six_times 0x80 (0x80 ∷ rest)) 0 (omega arith);
  seventh_zero = refl;
  ticks_over = refl;
  ticks_most = refl;
  travel_most = refl;
  travel_least = refl;
  travel_over = refl;
  travel_seventh = λ rest. inside (1 ∷ 0 ∷ six_times 0x80 (0x80 ∷ rest)) 0 (omega arith);
}
