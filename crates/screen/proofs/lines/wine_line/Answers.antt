-- The line of a wine, one part behind another. Assumes nothing.
use Prim.Native.Nat.{ℕ}
use mathlib.Core.List.{[], ◌∷◌, ◌++◌}
use mathlib.Core.Path.{◌≡◌, ap, ◌∙◌}
use Rattle.machine.specs.Calls.{chars}
use Rattle.text.specs.Decimal.{decimal_of}
use Rattle.text.specs.Text.{writes}
use Rattle.text.proofs.TextLaws.{joined}
use Rattle.screen.specs.Screen.{pulses, share_at, share_text}
use native.Mathlib.Omega.{arith}
use Rattle.screen.proofs.WholeLaws.{wine_length}
use Rattle.screen.proofs.lines.wine_line.Goals as goal

pub returns : goal.returns
returns c =
    let x : c.pulses.result ≡ pulses c.args.trial c.args.k = c.pulses.ensures in record {
      value = joined c.args.text (chars "wine ") _ c.characters.ensures
          (joined _ (decimal_of c.args.k) _ c.decimal.ensures
          (joined _ (chars ": ") _ c.characters-2.ensures
          (joined _ (decimal_of (pulses c.args.trial c.args.k)) _
          (c.decimal-2.ensures ∙ ap (λ (n : ℕ). writes c.characters-2.result (decimal_of n)) x)
          (joined _ (chars " pulses, ") _ c.characters-told.ensures
          (joined _ (share_text (share_at c.args.trial c.args.k)) (chars " %" ++ (10 ∷ []))
          (c.share.ensures
          ∙ ap (λ (h : ℕ). writes c.characters-told.result (share_text h)) c.share_at.ensures)
          c.characters-3.ensures)))));
      k_len_bound = wine_length c.args.trial c.args.k c.requires (omega (arith, x));
    }
