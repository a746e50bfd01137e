-- Demand 3, whole: one claim about every list of calls from power-on. What it reads off the list is in List.antt.
use Rattle.std.specs.Prelude.{ℕ, ◌+◌, ◌*◌, ◌≤◌, ◌<◌, true, false, List, ◌≡◌, nat_abs}
use Rattle.laws.specs.Axes.{directed}
use Rattle.machine.specs.Starts.{outside}
use Rattle.machine.specs.Calls.{Call, state}
use Rattle.machine.specs.List.{
  paused,
  started,
  distance,
  minus,
  counted,
  signed,
  stop_begun,
  goes_on,
  ends,
  latest,
  travel,
  position,
  gone,
  whole,
}

-- Once a start has taken effect: t × M ≤ m × d < (t + 1) × M, with d ≤ M and M > 0; m ≤ M, and so t ≤ d; and each
-- travel equals the pulses that pump has sent in that move.
pub record ShareLaw (s : ℕ) (h : List Call) (k : ℕ) : Type 0 where
  pub longest : distance s h k ≤ whole s h
  pub positive : 0 < whole s h
  pub not_past : gone s h ≤ whole s h
  pub at_most : travel s h k ≤ distance s h k
  pub not_ahead : travel s h k * whole s h ≤ gone s h * distance s h k
  pub not_behind : gone s h * distance s h k < (travel s h k + 1) * whole s h
  pub counts : travel s h k ≡ counted s h k

-- Each answer is -1, 0 or 1, and where it is not 0 it has the latest move's sign.
pub record Answer (s : ℕ) (h : List Call) (k : ℕ) : Type 0 where
  pub single : nat_abs (latest s h k) ≤ 1
  pub sign : 0 < nat_abs (latest s h k) → latest s h k ≡ directed (minus s h k) 1

-- At the end of a move in which no stop begins m = M, every pump is at its distance, and all with a distance above 0
-- send a pulse in that one tick; it is their last, since the travel stays (`stays`). `ends` and `stop_begun` count only
-- the calls since its last carry-on (paper 02, 6/14).
pub record Ended (s : ℕ) (h : List Call) (k : ℕ) : Type 0 where
  pub full : gone s h ≡ whole s h
  pub there : travel s h k ≡ distance s h k
  pub last : 0 < distance s h k → nat_abs (latest s h k) ≡ 1

pub record Holds (s : ℕ) (h : List Call) (k : ℕ) : Type 0 where
  -- the dwell's ticks left and the waiting start, of which the machine makes its next steps, are those of the list
  pub pause : (state s h).pause ≡ paused s h
  pub shares : started s h ≡ true → ShareLaw s h k
  pub sums : position s h k ≡ signed s h k
  pub within : outside (position s h k) ≡ false
  pub answer : Answer s h k
  pub ending : ends s h ≡ true → stop_begun s h ≡ false → Ended s h k
  -- and there it stays until another start takes effect
  pub stays : started s h ≡ true → goes_on s h ≡ false → stop_begun s h ≡ false → travel s h k ≡ distance s h k

-- For every switch, every list of calls (each is some list in order of time, read from its end), and each of the five
-- axes.
abbrev pub Demand3 : Type 0
Demand3 = (s : ℕ) (h : List Call) (k : ℕ) → k < 5 → Holds s h k
