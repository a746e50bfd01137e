-- Paper 02, 2/14, of every list of calls: whether the watch stops a running move, read off the list as in List.antt.
-- Which lines are accepted and which other causes a tick meets is what the machine of paper 01 does.
use Rattle.std.specs.Prelude.{ℕ, ◌+◌, min, Bool, true, false, cond, ◌&&◌, ◌||◌, List, [], ◌∷◌, ◌≡◌, leb, eqb}
use Rattle.laws.specs.Bits.{bit}
use Rattle.line.specs.declared.command.Command.{Command}
use Rattle.line.specs.declared.command.Command.TheVariants as C
use Rattle.machine.specs.State.{Machine}
use Rattle.machine.specs.Stops.{blocked, sensor_active, status}
use Rattle.machine.specs.Steps.{Outcome, untaken, gathered, refused, accepted, outcome, looks, tick_turned}
use Rattle.machine.specs.Calls.{Call, byte, tick, state}
use Rattle.machine.specs.Roles.{begins, stops_in}
use Rattle.machine.specs.List.{effect, stop_begun, goes_on}

-- ---- One call

-- P B sets the watch: bit 0 is for the axes, bit 1 for the general outputs.
abbrev pub watch_of : Command → ℕ → ℕ
watch_of (C.Distance k s d) old = old
watch_of (C.Set code v) old = cond (eqb code 11) v old
watch_of (C.Start k waits) old = old
watch_of (C.Order code) old = old
watch_of (C.Outputs v) old = old
watch_of (C.Read r) old = old

-- The watch after a byte: an accepted line may set it.
abbrev pub watch_by : Outcome → ℕ → ℕ
watch_by untaken old = old
watch_by gathered old = old
watch_by (refused n silent ident) old = old
watch_by (accepted c digits silent ident) old = watch_of c old

-- Accepted lines, and lines turned away by 10 to 17 or by a number that a later request adds (26), zero the watch
-- count.
abbrev pub zeroes : Outcome → Bool
zeroes untaken = false
zeroes gathered = false
zeroes (refused n silent ident) = leb 10 n
zeroes (accepted c digits silent ident) = true

-- The watch that is set, and the ticks since a line last zeroed the count, after a call. A tick that is turned away is
-- none.
abbrev pub watch_after : Machine → Call → ℕ → ℕ
watch_after m (byte b buffer) old = watch_by (outcome m b buffer) old
watch_after m (tick w buffer) old = old

abbrev pub unheard_after : Machine → Call → ℕ → ℕ
unheard_after m (byte b buffer) old = cond (zeroes (outcome m b buffer)) 0 old
unheard_after m (tick w buffer) old = cond (tick_turned w buffer) old (old + 1)

-- ---- A list of calls

-- The last accepted watch line, 1 (axes) without one.
unfoldable pub last_watch : ℕ → List Call → ℕ
last_watch s [] = 1
last_watch s (x ∷ h) = watch_after (state s h) x (last_watch s h)

-- The ticks that were not turned away since the last line that zeroes the watch count, or since power-on.
unfoldable pub ticks_unheard : ℕ → List Call → ℕ
ticks_unheard s [] = 0
ticks_unheard s (x ∷ h) = unheard_after (state s h) x (ticks_unheard s h)

-- 1,000,000 ticks (4 s) without a line that zeroes the watch count, with watch bit 0.
abbrev pub watch_stops : ℕ → List Call → Bool
watch_stops s h = leb 1000000 (ticks_unheard s h) && bit (last_watch s h) 0

-- What else begins a stop of a running move: emergency is held, sensor active, or some axis blocked.
abbrev pub other_cause : Machine → Bool
other_cause m = m.flags.emergency || sensor_active m || blocked m m.move.plan

-- What the watch does after a list, and in a tick behind it.
pub record Watched (s : ℕ) (h : List Call) : Type 0 where
  -- the setting and the count, by which the machine makes its next steps, are those of the list
  pub setting : (state s h).settings.watch ≡ last_watch s h
  pub count : (state s h).watch ≡ min 1000000 (ticks_unheard s h)
  -- a tick w that is not turned away begins a stop of the move that runs or begins in it exactly if the watch stops it
  -- or another cause is there
  pub stop_begins : (w : ℕ) (buffer : List ℕ) → tick_turned w buffer ≡ false
      → begins (effect s h (tick w buffer)) || goes_on s h ≡ true
      → stops_in (state s h) (tick w buffer)
      ≡ watch_stops s (tick w buffer ∷ h) || other_cause (looks (state s h) w)
  -- status bit 3 tells it, also where that tick ends the move
  pub told : (w : ℕ) (buffer : List ℕ) → tick_turned w buffer ≡ false
      → begins (effect s h (tick w buffer)) || goes_on s h ≡ true → watch_stops s (tick w buffer ∷ h) ≡ true
      → bit (status (state s (tick w buffer ∷ h))) 3 ≡ true
  -- so no move runs on past it in which no stop has begun
  pub stopped : goes_on s h ≡ true → watch_stops s h ≡ true → stop_begun s h ≡ true
  -- and a move that runs is being stopped, as the ramp has it, exactly if a stop has begun in it
  pub stopping : goes_on s h ≡ true → (state s h).move.stopping ≡ stop_begun s h

-- For every switch and every list of calls.
abbrev pub Watch : Type 0
Watch = (s : ℕ) (h : List Call) → Watched s h
