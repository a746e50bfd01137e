-- What the private functions of ticking.rt do: a means of proof.
use Rattle.std.specs.Prelude.{ℕ, cond, eqb}
use Rattle.machine.specs.State.{Machine}
use Rattle.machine.specs.Steps as steps
use Rattle.controller.specs.Held.{held, is_end}
use Rattle.trial.specs.declared.ticking.Ticked.{Ticked}
use Rattle.trial.specs.Trial.{after_ticks, first_of, end_of}

-- One tick, the n-th, by the end before it and the machine's answer.
abbrev pub ticked_of : ℕ → ℕ → steps.TickAnswer → Ticked
ticked_of before n a = record { controller = held a.machine; end = first_of before (is_end a.entry) n }

-- So many; and how many there are of n: all, or those to the end.
abbrev pub ran_of : Machine → ℕ → ℕ → Ticked
ran_of m word n = record { controller = held (after_ticks m word n); end = end_of m word n }

abbrev pub last_of : Machine → ℕ → ℕ → ℕ
last_of m word n = cond (eqb (end_of m word n) 0) n (end_of m word n)
