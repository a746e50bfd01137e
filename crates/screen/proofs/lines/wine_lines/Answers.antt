-- The lines of all wines. The invariant: those of the first k are written. Assumes nothing.
use Prim.Native.Nat.{ℕ, ◌*◌, ◌≤◌}
use native.Mathlib.Numerals.{add-one}
use native.Mathlib.Omega.{arith}
use mathlib.Core.Path.{sym, ap, subst, ◌∙◌}
use lib.ListN.{length}
use Rattle.text.specs.Text.{writes}
use Rattle.text.proofs.TextLaws.{writes_none, joined}
use Rattle.screen.specs.Screen.{wine_line, wine_lines}
use Rattle.screen.proofs.WholeLaws.{wines_more}
use Rattle.screen.proofs.lines.wine_lines.Goals as goal

pub loop-k-init : goal.loop-k-init
unfolding wine_lines
loop-k-init c = (writes_none c.args.text, omega arith)

pub loop-k-preserved : goal.loop-k-preserved
unfolding wine_lines
loop-k-preserved c = (
  joined c.args.text (wine_lines c.loop-k.k c.args.trial) (wine_line c.args.trial c.loop-k.k) c.loop-k.invariant.0
      c.wine_line-next.ensures.value
      ∙ ap (λ (n : ℕ). writes c.args.text (wine_lines n c.args.trial)) (sym (add-one c.loop-k.k)),
  subst (λ (n : ℕ). length (wine_lines n c.args.trial) ≤ n * 36) (sym (add-one c.loop-k.k))
      (wines_more c.args.trial c.loop-k.k c.loop-k.invariant.1 c.wine_line-next.ensures.k_len_bound),
)
