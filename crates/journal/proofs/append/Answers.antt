-- The entry at its place, or nothing and the number that refuses it. Assumes nothing.
use Prim.Native.Nat.{ℕ, ◌+◌}
use native.Mathlib.Omega.{arith}
use mathlib.Core.List.{List}
use mathlib.Core.Path.{sym, ap, ◌∙◌}
use lib.ListN.{length}
use Rattle.block.specs.Block.{put}
use Rattle.journal.specs.Entries.{ranges, fit_all, spell_all}
use Rattle.journal.specs.Inner.{taken}
use Rattle.journal.proofs.AnswerLaws.{entry_accepted, taken_number, appended_not, appended_at}
use Rattle.journal.proofs.Examples.{write_examples}
use Rattle.journal.proofs.RoundTripLaws.{round_trip}
use Rattle.journal.proofs.append.Goals as goal

pub returns-in-Err : goal.returns-in-Err
returns-in-Err c =
    let a = c.args in
    let numbers = ap (taken (length a.buf.now) a.at) c.numbers_of-numbers.ensures in
    let w = appended_not a.buf.now a.at a.entry c.in-Err.refusal (sym (c.in-Err.ensures ∙ numbers)) in
    record {
      value = (λ i. record { next = a.at; number = c.into.ensures i }) ∙ w.0;
      buf_after = w.1;
      round_trip = round_trip;
      write_examples = write_examples;
    }

pub write_all-requires : goal.write_all-requires
write_all-requires c =
    let a = c.args in
    let numbers = c.numbers_of-numbers.ensures in
    let number = taken_number a.buf.now a.at a.entry (sym (c.in-Ok.ensures ∙ ap (taken (length a.buf.now) a.at) numbers)) in
    let w = entry_accepted a.buf.now a.at a.entry number in
    (omega (arith, w.1, ap (λ (ns : List ℕ). length (spell_all ns)) numbers), ap (fit_all ranges) numbers ∙ w.0)

pub returns-in-Ok : goal.returns-in-Ok
returns-in-Ok c =
    let a = c.args in
    let numbers = c.numbers_of-numbers.ensures in
    let number = taken_number a.buf.now a.at a.entry (sym (c.in-Ok.ensures ∙ ap (taken (length a.buf.now) a.at) numbers)) in
    let w = appended_at a.buf.now a.at a.entry number in
    let next = c.write_all.ensures.value ∙ ap (λ ns. a.at + length (spell_all ns)) numbers in
    record {
      value = (λ j. record { next = next j; number = 0 }) ∙ w.0;
      buf_after = c.write_all.ensures.buf_after ∙ ap (λ ns. put a.at (spell_all ns) a.buf.now) numbers ∙ w.1;
      round_trip = round_trip;
      write_examples = write_examples;
    }
