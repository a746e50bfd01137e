-- Paper 02, 7/14, over the code's own calls (specs/Identified.antt): the reply that an answer tells is the machine's,
-- which returns the line's identification. Assumes nothing.
use mathlib.Core.Bool.{true}
use mathlib.Core.List.{[], ◌∷◌}
use mathlib.Core.Path.{refl, sym, ap, subst, transport}
use Rattle.machine.specs.Calls.{state}
use Rattle.machine.specs.Settle.{switch_of}
use Rattle.machine.specs.Identified.{received, latest_w, is_returned, Returned}
use Rattle.machine.proofs.IdentifiedLaws as machine
use Rattle.controller.specs.Answers.{byte, tick, stretch, calls_of}
use Rattle.controller.specs.Identified.{ReturnsAnswers}
use Rattle.controller.proofs.AnswerLaws.{last_held}
use Rattle.controller.proofs.FrontLaws.{reply_in, block_in}

pub returns_answers : ReturnsAnswers
returns_answers s p [] f = tt
returns_answers s p (byte b entry exit r ∷ l) f =
    let h = calls_of l in
    let a = f.1.0 s h (last_held s p l f.0) in
    let x = reply_in exit r.length _ refl (state s h) b entry (f.1.1.0 s h (last_held s p l f.0))
    (ap (λ y. y.length) a) in
    transport (λ i. Returned (switch_of s) (received h) (is_returned (sym (ap (λ y. y.number) a) i)) (sym x i))
    ((machine.returns s h).reply b entry)
returns_answers s p (tick w entry exit r ∷ l) f =
    let h = calls_of l in
    let e = last_held s p l f.0 in
    subst (Returned (switch_of s) (latest_w s h) true)
    (sym (block_in exit r.length _ refl (state s h) w entry (f.1.1.0 s h e)
    (ap (λ y. y.length) (f.1.0 s h e)))) ((machine.returns s h).block w entry)
returns_answers s p (stretch bs r ∷ l) f = tt
