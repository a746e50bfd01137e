-- Paper 01, "Stops (6.6 to 6.10)": inputs, limits, emergency, sensor, watch, and the status.
use Rattle.std.specs.Prelude.{ℕ, ◌+◌, ◌-◌, min, Bool, true, cond, ◌&&◌, ◌||◌, ltb, leb}
use Rattle.laws.specs.Bits.{bit, weight}
use Rattle.inputs.specs.Inputs.{some_blocked, active_at}
use Rattle.machine.specs.State.{
  Plan,
  Move,
  Flags,
  Machine,
  move_of,
  mark,
  with_move,
  with_flags,
  with_inputs,
  with_outputs,
  with_watch,
  with_settle,
}

-- An axis of a plan is blocked by the inputs under the present settings.
abbrev pub blocked : Machine → Plan → Bool
blocked m p = some_blocked m.settings.low_on m.settings.high_on m.inputs p.distance p.minus

-- Bit 12 is emergency, bit 13 sensor.
abbrev pub emergency_active : Machine → Bool
emergency_active m = active_at m.settings.low_on m.settings.high_on m.inputs 12

abbrev pub sensor_active : Machine → Bool
sensor_active m = active_at m.settings.low_on m.settings.high_on m.inputs 13

-- The full watch count (4 s).
abbrev pub watch_most : ℕ
watch_most = 1000000

-- The watch count is full, and the watch setting has bit i.
abbrev pub watch_full : Machine → ℕ → Bool
watch_full m i = leb watch_most m.watch && bit m.settings.watch i

-- ---- The tick order, up to the dwell.

-- One tick less until the block of a W line (paper 02, 3/14). Where it stands in the order alters nothing.
abbrev pub counts_down : Machine → Machine
counts_down m = with_settle m (record { left = m.settle.left - 1; ident = m.settle.ident })

-- Raise the watch count by 1 up to the full one.
abbrev pub raises_watch : Machine → Machine
raises_watch m = with_watch m (min watch_most (m.watch + 1))

-- If emergency is active, hold it.
abbrev pub holds : Machine → Machine
holds m = with_flags m (mark m.flags 5 (m.flags.emergency || emergency_active m))

-- At a full watch count with watch bit 1, clear the general outputs.
abbrev pub clears : Machine → Machine
clears m = with_outputs m (cond (watch_full m 1) 0 m.outputs)

-- Take inputs; one tick less until a block; watch count; emergency; general outputs.
abbrev pub takes : Machine → ℕ → Machine
takes m word = clears (holds (raises_watch (counts_down (with_inputs m word))))

-- ---- Begin a stop of a running move.

-- The causes: emergency is held, sensor active, some axis blocked, or the watch count full with watch bit 0.
-- A limit or the watch: those that set bit 3.
abbrev pub limit_or_watch : Machine → Bool
limit_or_watch m = blocked m m.move.plan || watch_full m 0

abbrev pub cause : Machine → Bool
cause m = m.move.moving && (m.flags.emergency || sensor_active m || limit_or_watch m)

-- The move is being stopped.
abbrev pub stopping : Move → Move
stopping v =
    move_of v.plan v.master v.travel v.speed v.phase v.ticks v.moving true v.replanned

-- Bits 3 (order, limit or watch) and 6 (sensor) are set as a stop cause meets a running move.
abbrev pub marks : Flags → Bool → Bool → Flags
marks f three six = mark (mark f 3 (f.stopped || three)) 6 (f.sensed || six)

abbrev pub stops : Machine → Machine
stops m =
    cond (cause m)
    (with_flags (with_move m (stopping m.move)) (marks m.flags (limit_or_watch m) (sensor_active m)))
    m

-- ---- Status: bit 0 moving or dwell, 1 moving, 2 wrong master, 3 stopped by order, limit or watch, 4 some axis blocked
-- (running move's distances, else the next move's), 5 emergency held, 6 stopped by sensor.

abbrev pub current : Machine → Plan
current m = cond m.move.moving m.move.plan m.next

abbrev pub status : Machine → ℕ
status m =
    weight (m.move.moving || ltb 0 m.pause.left) 1
    + weight m.move.moving 2
    + weight m.flags.wrong_master 4
    + weight m.flags.stopped 8
    + weight (blocked m (current m)) 16
    + weight m.flags.emergency 32
    + weight m.flags.sensed 64
