-- The host's first line after power-on: what its calls leave, and that nothing but the watch has altered. Assumes
-- nothing.
use Prim.Native.Nat.{ℕ}
use native.Mathlib.Omega.{arith}
use mathlib.Core.List.{List, [], ◌∷◌}
use mathlib.Core.Path.{◌≡◌, refl, sym, ap, subst, ◌∙◌}
use lib.ListN.{get_or}
use Rattle.digits.specs.Digits.{number_of, six_of}
use Rattle.block.specs.Block.{row_of, block_of}
use Rattle.line.specs.Line.{judge_of, judge_row}
use Rattle.receiver.specs.Receiver.{before}
use Rattle.reply.specs.Reply.{reply_of}
use Rattle.machine.specs.State.{Machine, put, with_settings}
use Rattle.machine.specs.Steps.{power_on, byte_step}
use Rattle.machine.specs.Calls.{run, state, buffer, bytes, chars}
use Rattle.controller.specs.declared.state.Controller.{Controller}
use Rattle.controller.specs.declared.state.Gathered.{Gathered}
use Rattle.controller.specs.Held.{held}
use Rattle.controller.specs.Answers as answered
use Rattle.controller.specs.Answers.{Promised}
use Rattle.controller.specs.Reach.{Made}
use Rattle.host.specs.Watch.{watch_off}
use Rattle.host.proofs.WatchLaws.{watch_off_lem}
use Rattle.session.specs.declared.state.Sent.{Sent}
use Rattle.session.specs.Session.{fresh, Passed}
use Rattle.session.specs.Lines.{prints, fed, all_zero, at_line}

-- The characters before the line's last byte are gathered, and then that byte goes in.
pub opened_is : (c : Controller) (l exit entry : List ℕ) (g : Gathered) (r : Sent) → c ≡ held (power_on 0)
    → l ≡ watch_off → Promised c (answered.stretch l g)
    → Made g.controller (λ m. Passed r exit entry (byte_step m (get_or l 4 0) buffer))
    → r.controller ≡ held fresh.machine
unfolding run before
opened_is c l exit entry g r p q s e =
    ap (λ (x : Sent). x.controller) (e 0 (bytes (chars "P0B0") []) (sym gathered)).0
    ∙ ap (λ (x : List ℕ). held (byte_step (state 0 (bytes (chars "P0B0") [])) (get_or x 4 0) buffer).machine) q
  where
    gathered : g.controller ≡ held (state 0 (bytes (chars "P0B0") []))
    gathered = ap (λ (x : Gathered). x.controller)
        ((subst (λ (x : List ℕ). Promised c (answered.stretch x g)) q s).0 0 [] (sym p))

-- It leaves the watch off.
pub off_is : fresh.machine ≡ with_settings (power_on 0) (put (power_on 0).settings 11 0)
off_is = watch_off_lem.first 0 (λ i. buffer) (λ i h. omega arith)

-- The first line q08, by computation.
first_told : prints (at_line (with_settings (power_on 0) (put (power_on 0).settings 11 0))) (fed ("q08" ∷ []))
    ≡ fed all_zero
unfolding prints judge_of judge_row number_of reply_of row_of block_of six_of
first_told = refl

pub first_is : prints fresh (fed ("q08" ∷ [])) ≡ fed all_zero
first_is = ap (λ (m : Machine). prints (at_line m) (fed ("q08" ∷ []))) off_is ∙ first_told
