-- Reads to the end of the input. The invariant: passes of bytes made what the program is of the start. Assumes nothing.
use Rattle.turns.specs.Turns.{Takes, Passes}
use Rattle.turns.proofs.read_all.Given as goal

abbrev pub invariant-loop : goal.invariant-loop
invariant-loop g l =
    Takes (goal.F-pre g) l.pass l.end × Passes (goal.F-step g) (l.fn.pass, l.fn.start) (l.pass, l.end)
