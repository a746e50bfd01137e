-- A desk with no character. Assumes nothing.
use Rattle.wording.proofs.WholeLaws.{answers_are}
use Rattle.wording.proofs.Desk.new.Goals as goal

pub returns : goal.returns
returns c = record {
  value = λ i. record { line = c.new.ensures i };
  answers_in_order = answers_are;
}
