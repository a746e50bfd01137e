-- What a list of calls leaves of the machine against what is read off the list, and one call more. Assumes nothing.
use Prim.Native.Nat.{ℕ, ◌<◌}
use mathlib.Core.Bool.{true, false}
use mathlib.Core.List.{List}
use mathlib.Core.Path.{◌≡◌, subst}
use Rattle.machine.specs.State.{Pause}
use Rattle.machine.specs.Shares as shares
use Rattle.machine.specs.Calls.{Call, after, state}
use Rattle.machine.specs.Roles.{line_of, takes_effect, stops_in, sent, is_tick}
use Rattle.machine.specs.List.{
  last_dwell,
  paused,
  effect,
  last_distance,
  last_minus,
  started,
  distance,
  minus,
  master,
  counted,
  signed,
  stop_begun,
  goes_on,
}
use Rattle.machine.proofs.Runs.{Good}
use Rattle.machine.proofs.CalledLaws.{Called}
use Rattle.machine.proofs.CallLaws.{called}

-- What a list leaves, against what is read off it.
pub record Told (s : ℕ) (h : List Call) : Type 0 where
  pub good : Good (state s h).move
  pub pause : (state s h).pause ≡ paused s h
  pub dwell : (state s h).settings.dwell ≡ last_dwell s h
  pub next_distance : (k : ℕ) → (state s h).next.distance k ≡ last_distance s h k
  pub next_minus : (k : ℕ) → (state s h).next.minus k ≡ last_minus s h k
  pub distances : (k : ℕ) → (state s h).move.plan.distance k ≡ distance s h k
  pub minuses : (k : ℕ) → (state s h).move.plan.minus k ≡ minus s h k
  pub masters : (state s h).move.master ≡ master s h
  pub counts : (k : ℕ) → k < 5 → (state s h).move.travel k ≡ counted s h k
  pub sums : (k : ℕ) → (state s h).position k ≡ signed s h k
  pub goes : (state s h).move.moving ≡ goes_on s h
  pub stops : (state s h).move.moving ≡ true → (state s h).move.stopping ≡ stop_begun s h
  pub positive : started s h ≡ true → 0 < shares.whole (state s h).move
  pub rest : started s h ≡ true → (state s h).move.moving ≡ false → stop_begun s h ≡ false
      → (k : ℕ) → k < 5 → (state s h).move.travel k ≡ (state s h).move.plan.distance k

-- What a call does after the list, the start that it tries being the one that the list stored.
abbrev pub Calls : ℕ → List Call → Call → Type 0
Calls s h x =
    Called (state s h) (line_of (state s h) x) (effect s h x) (stops_in (state s h) x) (is_tick x) (sent (state s h) x)
    (after (state s h) x)

pub called_on : (s : ℕ) (h : List Call) (x : Call) → Told s h → Calls s h x
called_on s h x t =
    subst
    (λ (p : Pause). Called (state s h) (line_of (state s h) x) (takes_effect (state s h) p x) (stops_in (state s h) x)
    (is_tick x) (sent (state s h) x) (after (state s h) x))
    t.pause (called (state s h) x t.good)
