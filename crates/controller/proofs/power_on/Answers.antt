-- `power_on` meets its contract: each return, by the tests and the answers that led there. Assumes nothing.
use Prim.Native.Nat.{ℕ}
use mathlib.Core.Path.{◌≡◌, sym, ◌∙◌}
use Rattle.machine.specs.Carry.{CarryOn}
use Rattle.machine.specs.Demand.{Demand3}
use Rattle.machine.specs.Identified.{Returns}
use Rattle.machine.specs.Journal.{Journal}
use Rattle.machine.specs.Marked.{Marked}
use Rattle.machine.specs.Settle.{Settles}
use Rattle.machine.specs.Watch.{Watch}
use Rattle.machine.proofs.CarryLaws.{carry_on_lem}
use Rattle.machine.proofs.DemandLaws.{demand_3}
use Rattle.machine.proofs.IdentifiedLaws as machine
use Rattle.machine.proofs.MarkedLaws.{marked}
use Rattle.machine.proofs.SettleLaws.{settled}
use Rattle.machine.proofs.TakenLaws.{journal_is}
use Rattle.machine.proofs.WatchLaws.{watched}
use Rattle.witness.specs.Blocks.{BlockWitness}
use Rattle.witness.specs.Carried.{CarryWitness}
use Rattle.witness.specs.Entries.{EntryWitness}
use Rattle.witness.specs.Identified.{ReturnWitness}
use Rattle.witness.specs.Witness.{Witness}
use Rattle.witness.proofs.BlockWitnessLaws.{blocks_answered}
use Rattle.witness.proofs.CarriedLaws.{carries_on}
use Rattle.witness.proofs.EntryWitnessLaws.{entries}
use Rattle.witness.proofs.IdentifiedWitnessLaws.{returned}
use Rattle.witness.proofs.WitnessLaws.{witness}
use Rattle.controller.specs.declared.state.PowerOn.{PowerOn}
use Rattle.controller.specs.Held.{held_power}
use Rattle.controller.specs.Reach.{Reachable}
use Rattle.controller.specs.Answers.{Demand3Answers}
use Rattle.controller.specs.Carry.{CarryAnswers}
use Rattle.controller.specs.Identified.{ReturnsAnswers}
use Rattle.controller.specs.Journal.{JournalAnswers}
use Rattle.controller.specs.Settle.{SettlesAnswers}
use Rattle.controller.proofs.EntryPowerLaws.{power_bad, power_good}
use Rattle.controller.proofs.ReachLaws.{reach_power}
use Rattle.controller.proofs.AnswerLaws.{demand_3_answers}
use Rattle.controller.proofs.CarryAnswerLaws.{carry_answers}
use Rattle.controller.proofs.IdentifiedAnswerLaws.{returns_answers}
use Rattle.controller.proofs.JournalAnswerLaws.{journal_answers}
use Rattle.controller.proofs.SettleAnswerLaws.{settles_answers}
use Rattle.controller.proofs.power_on.Goals as goal

-- What power-on promises, given its answer.
powered : (s : ℕ) (r : PowerOn) → r ≡ held_power s → record {
  value : r ≡ held_power s;
  reachable : Reachable r.controller;
  demand3 : Demand3;
  marked : Marked;
  witness : Witness;
  demand3answers : Demand3Answers;
  journal : Journal;
  journal_answers : JournalAnswers;
  entry_witness : EntryWitness;
  watch : Watch;
  settles : Settles;
  settles_answers : SettlesAnswers;
  block_witness : BlockWitness;
  carry_on : CarryOn;
  carry_answers : CarryAnswers;
  carry_witness : CarryWitness;
  returns : Returns;
  returns_answers : ReturnsAnswers;
  return_witness : ReturnWitness;
}
powered s r e = record {
  value = e;
  reachable = reach_power s r e;
  demand3 = demand_3;
  marked = marked;
  witness = witness;
  demand3answers = demand_3_answers;
  journal = journal_is;
  journal_answers = journal_answers;
  entry_witness = entries;
  watch = watched;
  settles = settled;
  settles_answers = settles_answers;
  block_witness = blocks_answered;
  carry_on = carry_on_lem;
  carry_answers = carry_answers;
  carry_witness = carries_on;
  returns = machine.returns;
  returns_answers = returns_answers;
  return_witness = returned;
}

pub returns-then-is_bad : goal.returns-then-is_bad
returns-then-is_bad c = powered c.args.switch _
    (power_bad c.args.switch _
    (sym c.is_bad.ensures ∙ c.if-is_bad.true) c.fresh-controller.ensures)

pub returns : goal.returns
returns c = powered c.args.switch _
    (power_good c.args.switch _
    (sym c.is_bad.ensures ∙ c.if-is_bad.false) c.fresh-controller-2.ensures)
