-- The lines of all wines. The invariant: those of the first k are written. Assumes nothing.
use Prim.Native.Nat.{◌*◌, ◌≤◌}
use mathlib.Core.Path.{◌≡◌}
use lib.ListN.{length}
use Rattle.text.specs.Text.{writes}
use Rattle.screen.specs.Screen.{wine_lines}
use Rattle.screen.proofs.lines.wine_lines.Given as goal

abbrev pub invariant-loop-k : goal.invariant-loop-k
invariant-loop-k l =
    (l.next ≡ writes l.initial.next (wine_lines l.k l.trial)) × (length (wine_lines l.k l.trial) ≤ l.k * 36)
