-- Paper 02, 8/14: "On a controller that turns none of the lines away and meets no stop, executing them, each move run
-- to its end, moves exactly the distances named." The commands are those of the MD5230D, the lines what the writer
-- makes of their values, the controller the machine of paper 01 (`byte_step`, `tick_step`) after any list of calls from
-- power-on. `convert` promises `Executes`.
use Rattle.std.specs.Prelude.{ℕ, ◌<◌, Bool, true, false, cond, not, ◌&&◌, List, [], ◌∷◌, ◌++◌, ◌≡◌, eqb, ℤ, pos, ◌+ℤ◌, take}
use Rattle.machine.specs.Steps.{byte_step}
use Rattle.machine.specs.Calls.{Call, byte, tick, state}
use Rattle.machine.specs.Roles.{begins, is_tick, stops_in}
use Rattle.machine.specs.List.{effect, goes_on, position}
use Rattle.machine.specs.Identified.{received}
use Rattle.host.specs.Writer.{line_of}
use Rattle.host.specs.declared.Request.{Request}
use Rattle.station.specs.Forms.{Form, other, speed, move, stop, form_of}
use Rattle.station.specs.Station.{convert_of}

-- ---- The distances named

-- X is axis 0, Y axis 1; no command names another.
abbrev pub of_axis : ℤ → ℤ → ℕ → ℤ
of_axis x y k = cond (eqb k 0) x (cond (eqb k 1) y (pos 0))

abbrev pub named_by : Form → ℕ → ℤ
named_by other k = pos 0
named_by (speed n) k = pos 0
named_by (move x y) k = of_axis x y k
named_by stop k = pos 0

-- The sum of the distances that commands name for an axis.
unfoldable pub named : List (List ℕ) → ℕ → ℤ
named [] k = pos 0
named (c ∷ cs) k = named_by (form_of c) k +ℤ named cs k

-- ---- The lines of their values

unfoldable pub are_converted : List (List ℕ) → Bool
are_converted [] = true
are_converted (c ∷ cs) = eqb (convert_of c).number 0 && are_converted cs

-- What the converter answers: the values of its first places, as many as it counts.
abbrev pub answered : List ℕ → List Request
answered c = take (convert_of c).count (convert_of c).requests

unfoldable pub written : List Request → List ℕ
written [] = []
written (r ∷ rs) = line_of r ++ written rs

unfoldable pub lines_of : List (List ℕ) → List ℕ
lines_of [] = []
lines_of (c ∷ cs) = written (answered c) ++ lines_of cs

-- ---- Calls in order of time

-- Behind those of h, which has the latest first.
unfoldable pub onto : List Call → List Call → List Call
onto [] h = h
onto (x ∷ f) h = onto f (x ∷ h)

-- The bytes among them.
unfoldable pub bytes_in : List Call → List ℕ
bytes_in [] = []
bytes_in (byte b buffer ∷ f) = b ∷ bytes_in f
bytes_in (tick w buffer ∷ f) = bytes_in f

-- A byte is turned away, itself or with the line that it ends: its answer is another number than 0.
abbrev pub is_refused : ℕ → List Call → Call → Bool
is_refused s h (byte b buffer) = not (eqb (byte_step (state s h) b buffer).number 0)
is_refused s h (tick w buffer) = false

-- A start that was stored before takes effect in a tick. It is none of the lines.
abbrev pub is_foreign : ℕ → List Call → Call → Bool
is_foreign s h x = is_tick x && begins (effect s h x)

-- No call is turned away so, begins a stop or a foreign move.
unfoldable pub is_undisturbed : ℕ → List Call → List Call → Bool
is_undisturbed s h [] = true
is_undisturbed s h (x ∷ f) =
    not (is_refused s h x)
    && (not (stops_in (state s h) x)
    && (not (is_foreign s h x)
    && is_undisturbed s (x ∷ h) f))

-- ---- The theorem

-- A controller after any calls h, with no half-received line and no move that runs; any commands that are converted;
-- any calls f behind h whose bytes are those of the commands' lines, with any ticks before, between and behind them.
pub record Executed (s : ℕ) (h f : List Call) (cs : List (List ℕ)) : Type 0 where
  pub fresh : received h ≡ []
  pub rests : goes_on s h ≡ false
  pub converted : are_converted cs ≡ true
  pub lines : bytes_in f ≡ lines_of cs
  pub undisturbed : is_undisturbed s h f ≡ true
  -- the last move has run to its end, as all before it: while a move runs a distance line and a start are turned away
  pub ended : goes_on s (onto f h) ≡ false

-- Each position changes by exactly the sum of the distances named for its axis.
abbrev pub Executes : Type 0
Executes =
    (s : ℕ) (h f : List Call) (cs : List (List ℕ)) (k : ℕ) → k < 5 → Executed s h f cs
    → position s (onto f h) k ≡ position s h k +ℤ named cs k
