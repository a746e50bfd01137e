-- `figures_of` shows the settings of the machine that the controller holds. Assumes nothing.
use Rattle.std.proofs.Common.{ℕ, ◌*◌, subst}
use Rattle.figures.specs.Figures.{Exactly}
use Rattle.figures.proofs.figures_of.Goals as goal

pub returns : goal.returns
returns c =
    λ s h e.
    record {
      speed_is =
          subst (λ (n : ℕ). Exactly c.speed_hz-speed.result n 4) (c.speed.ensures s h e) c.speed_hz-speed.ensures;
      slope_is =
          subst (λ (n : ℕ). Exactly c.slope_hz_per_ms-slope.result (5 * n) 4) (c.slope.ensures s h e)
          c.slope_hz_per_ms-slope.ensures;
    }
