-- The five bytes of `watch_off` are heard and obeyed as the writer's full line of the same request is. Assumes nothing.
use Prim.Native.Nat.{ℕ}
use native.Mathlib.Omega.{arith}
use mathlib.Core.List.{List, [], ◌∷◌, ◌++◌}
use mathlib.Core.Path.{◌≡◌, refl, ap, ◌∙◌}
use Rattle.digits.specs.Digits.{six_of, number_of}
use Rattle.block.specs.Block.{block_of}
use Rattle.line.specs.Line.{judge_of, judge_row}
use Rattle.receiver.specs.Receiver.{heard_line}
use Rattle.machine.specs.State.{Machine, with_line}
use Rattle.machine.specs.Steps.{ByteAnswer, power_on}
use Rattle.machine.specs.Calls.{run, from, chars}
use Rattle.host.specs.Writer.{digits_of, line_of}
use Rattle.host.specs.RoundTrip.{calls_of, Roomy, answers_to, gathers, heard_as, answer_to}
use Rattle.host.specs.Watch.{watch_off, watch_request, WatchOff}
use Rattle.host.proofs.Lines.{NoEnd}
use Rattle.host.proofs.MachineTrip.{end_of, Answers, line_answers, end_answer, calls_left}

no_end : NoEnd (chars "P0B0")
no_end = (refl, (refl, (refl, (refl, omega arith))))

heard : heard_line (chars "P0B0") ≡ heard_as watch_request (digits_of watch_request.command)
unfolding judge_of judge_row number_of
heard = refl

module _ (m : Machine) where
  ended : end_of m (chars "P0B0") ≡ answer_to m watch_request
  ended = end_answer m watch_request (chars "P0B0") heard

  module _ (lent : ℕ → List ℕ) (none : m.line ≡ []) (room : Roomy lent 5) where
    sent : Answers m m [] [] (chars "P0B0") lent
    unfolding run
    sent = line_answers m m [] [] (chars "P0B0") lent (λ i. with_line m (none i)) no_end room

    answers_is : answers_to m [] lent watch_off ≡ gathers m [] (chars "P0B0") ++ (answer_to m watch_request ∷ [])
    answers_is = sent.answers ∙ ap (λ (x : ByteAnswer). gathers m [] (chars "P0B0") ++ (x ∷ [])) ended

    left_is : from m (calls_of lent watch_off []) ≡ (answer_to m watch_request).machine
    left_is = sent.left ∙ ap (λ (x : ByteAnswer). x.machine) ended

pub watch_off_lem : WatchOff
unfolding line_of block_of six_of run
watch_off_lem = record {
  full = refl;
  answers = answers_is;
  left = left_is;
  first = λ s lent room. calls_left s lent watch_off [] [] ∙ left_is (power_on s) lent refl room;
}
