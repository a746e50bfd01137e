-- The entry at a place, the end, or the number that refuses it. Assumes nothing.
use mathlib.Core.Bool.{true}
use mathlib.Core.Path.{ap, ◌∙◌}
use Rattle.journal.specs.Journal.{nothing_at}
use Rattle.journal.proofs.AnswerLaws.{at_end, read_refused, read_taken, read_values}
use Rattle.journal.proofs.Examples.{read_examples}
use Rattle.journal.proofs.OneSpellingLaws.{one_spelling}
use Rattle.journal.proofs.read.Goals as goal

pub returns-then-bytes-at : goal.returns-then-bytes-at
returns-then-bytes-at c =
    record {
      value = c.nothing.ensures ∙ at_end c.args.bytes.now c.args.at c.if-bytes-at.true;
      one_spelling = one_spelling;
      read_examples = read_examples;
    }

pub returns-in-Err : goal.returns-in-Err
returns-in-Err c =
    record {
      value =
          c.nothing-in-Err.ensures ∙ ap (nothing_at c.args.at) c.into.ensures
          ∙ read_refused c.args.bytes.now c.args.at c.in-Err.refusal c.in-Err.ensures c.if-bytes-at.false;
      one_spelling = one_spelling;
      read_examples = read_examples;
    }

pub entry_from-requires : goal.entry_from-requires
entry_from-requires c = read_values c.args.bytes.now c.args.at c.in-Ok.all c.in-Ok.ensures

pub returns-in-Ok : goal.returns-in-Ok
returns-in-Ok c =
    record {
      value =
          (λ i. record {
            entry = c.entry_from.ensures i;
            next = c.in-Ok.all.next;
            found = true;
            number = 0;
          })
          ∙ read_taken c.args.bytes.now c.args.at c.in-Ok.all c.in-Ok.ensures c.if-bytes-at.false;
      one_spelling = one_spelling;
      read_examples = read_examples;
    }
