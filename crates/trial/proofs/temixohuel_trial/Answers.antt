-- `temixohuel_trial` meets its contract: each return by the tests before it, in their order. Assumes nothing.
use Prim.Native.Nat.{◌≤◌}
use native.Mathlib.Omega.{arith}
use mathlib.Core.Path.{sym, ap, ◌∙◌}
use Rattle.machine.specs.Calls.{state}
use Rattle.controller.specs.declared.state.ByteAnswer.{ByteAnswer}
use Rattle.trial.specs.Trial.{turned}
use Rattle.trial.specs.Promises.{Numbers, PlainStart, FirstEnd, Rest, OnTheBench}
use Rattle.trial.specs.Witness.{TrialWitness, WholeTrial}
use Rattle.trial.proofs.TrialLaws.{by_word, by_ticks, by_master, by_start, by_run}
use Rattle.trial.proofs.RunLaws.{run_reached, run_is}
use Rattle.trial.proofs.EndLaws.{first_end}
use Rattle.trial.proofs.PlainLaws.{plain_start}
use Rattle.trial.proofs.BenchLaws.{on_the_bench}
use Rattle.trial.proofs.NumberLaws.{numbers}
use Rattle.trial.proofs.RestLaws.{rest}
use Rattle.trial.proofs.WitnessLaws.{trials, whole_trial}
use Rattle.trial.proofs.temixohuel_trial.Goals as goal

-- What is answered, and what is promised beside it.
promised : (M : Type 0) → M → record {
  made : M;
  numbers : Numbers;
  plain_start : PlainStart;
  first_end : FirstEnd;
  rest : Rest;
  on_the_bench : OnTheBench;
  trial_witness : TrialWitness;
  whole_trial : WholeTrial;
}
promised M made = record {
  made = made;
  numbers = numbers;
  plain_start = plain_start;
  first_end = first_end;
  rest = rest;
  on_the_bench = on_the_bench;
  trial_witness = trials;
  whole_trial = whole_trial;
}

pub returns-then-word-gt-LAST_WORD : goal.returns-then-word-gt-LAST_WORD
returns-then-word-gt-LAST_WORD c =
    let a = c.args in
    promised _ (
    λ s h e. c.turned.ensures
    ∙ by_word (state s h) a.master a.word a.ticks (omega (arith, c.if-word-gt-LAST_WORD.true)))

pub returns-then-ticks-gt-MOST_TICKS : goal.returns-then-ticks-gt-MOST_TICKS
returns-then-ticks-gt-MOST_TICKS c =
    let a = c.args in
    let word : a.word ≤ 16777215 = omega (arith, c.if-word-gt-LAST_WORD.false) in
    promised _ (
    λ s h e. c.turned-then-ticks-gt-MOST_TICKS.ensures
    ∙ by_ticks (state s h) a.master a.word a.ticks word (omega (arith, c.if-ticks-gt-MOST_TICKS.true)))

pub returns-then-master-gt-LAST_AXIS : goal.returns-then-master-gt-LAST_AXIS
returns-then-master-gt-LAST_AXIS c =
    let a = c.args in
    let word : a.word ≤ 16777215 = omega (arith, c.if-word-gt-LAST_WORD.false) in
    let ticks : a.ticks ≤ 1000000 = omega (arith, c.if-ticks-gt-MOST_TICKS.false) in
    promised _ (
    λ s h e. c.turned-then-master-gt-LAST_AXIS.ensures
    ∙ by_master (state s h) a.master a.word a.ticks word ticks (omega (arith, c.if-master-gt-LAST_AXIS.true)))

pub start-start-requires : goal.start-start-requires
start-start-requires c = record {
  reachable = c.requires;
  master_bound = omega (arith, c.if-master-gt-LAST_AXIS.false);
}

pub returns-then-start-ne0 : goal.returns-then-start-ne0
returns-then-start-ne0 c =
    let a = c.args in
    let word : a.word ≤ 16777215 = omega (arith, c.if-word-gt-LAST_WORD.false) in
    let ticks : a.ticks ≤ 1000000 = omega (arith, c.if-ticks-gt-MOST_TICKS.false) in
    let master : a.master ≤ 4 = omega (arith, c.if-master-gt-LAST_AXIS.false) in
    promised _ (
    λ s h e.
    let p = ap (λ (x : ByteAnswer). x.number) (c.start-start.ensures.made s h e) in
    c.turned-then-start-ne0.ensures
    ∙ (ap turned p
    ∙ by_start (state s h) a.master a.word a.ticks word ticks master (λ z. c.if-start-ne0.true (p ∙ z))))

pub shown-requires : goal.shown-requires
shown-requires c =
    let a = c.args in
    run_reached a.c a.master a.word a.ticks c.start-start.result c.start-start.ensures.made c.run.result
    c.run.ensures c.start-start.ensures.reachable_2

pub returns : goal.returns
returns c =
    let a = c.args in
    let word : a.word ≤ 16777215 = omega (arith, c.if-word-gt-LAST_WORD.false) in
    let ticks : a.ticks ≤ 1000000 = omega (arith, c.if-ticks-gt-MOST_TICKS.false) in
    let master : a.master ≤ 4 = omega (arith, c.if-master-gt-LAST_AXIS.false) in
    promised _ (
    λ s h e.
    run_is a.c a.master a.word a.ticks c.start-start.result c.start-start.ensures.made c.run.result
    c.run.ensures c.shown.result c.shown.ensures (omega (arith, master)) (omega (arith, c.if-start-ne0.false))
    s h e
    ∙ by_run (state s h) a.master a.word a.ticks word ticks master
    (sym (ap (λ (x : ByteAnswer). x.number) (c.start-start.ensures.made s h e))
    ∙ omega (arith, c.if-start-ne0.false)))
