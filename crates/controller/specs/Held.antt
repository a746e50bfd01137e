-- How the controller holds the values of the machine: the one definition that says so. Positions are held with 524,288
-- added, the move's ticks in two halves, and with its master whether a distance line was accepted since it began;
-- beside each travel stands the remainder of m × d / M; M, m and the parts of the output words are kept ready, and of
-- the general outputs only their part of a word.
use Rattle.std.specs.Prelude.{ℕ, ◌+◌, ◌*◌, ◌/◌, ◌%◌, Bool, true, false, List, [], ℤ, length, is_some, unwrap_or}
use Rattle.laws.specs.Axes.{each}
use Rattle.laws.specs.Bits.{weight}
use Rattle.outputs.specs.Outputs.{general_of, rest_of, fire_of, still_of}
use Rattle.receiver.specs.Receiver.{holding, before_end}
use Rattle.reply.specs.declared.readings.Travel.{Travel}
use Rattle.reply.specs.declared.readings.Position.{Position}
use Rattle.reply.specs.Reply.{bias}
use Rattle.machine.specs.State as M
use Rattle.machine.specs.State.{Machine, none, start}
use Rattle.machine.specs.Shares.{whole, gone}
use Rattle.journal.specs.declared.Entry.{Entry}
use Rattle.journal.specs.Journal.{zero_entry}
use Rattle.machine.specs.Entries.{EntryAnswer, no_entry, entry}
use Rattle.machine.specs.Replies.{travel_of, position_of}
use Rattle.machine.specs.Steps as steps
use Rattle.machine.specs.Steps.{power_on, power_number}
use Rattle.machine.specs.Calls.{bytes, from}
use Rattle.controller.specs.declared.state.Controller.{Controller}
use Rattle.controller.specs.declared.state.Cold.{Cold}
use Rattle.controller.specs.declared.state.PowerOn.{PowerOn}
use Rattle.controller.specs.declared.state.ByteAnswer.{ByteAnswer}
use Rattle.controller.specs.declared.state.Gathered.{Gathered}
use Rattle.controller.specs.declared.state.TickAnswer.{TickAnswer}
use Rattle.controller.specs.declared.state.Hot.{Hot}
use Rattle.controller.specs.declared.state.Settings.{Settings}
use Rattle.controller.specs.declared.state.Plan.{Plan}
use Rattle.controller.specs.declared.state.Run.{Run}
use Rattle.controller.specs.declared.state.Counters.{Counters}
use Rattle.controller.specs.declared.state.Pause.{Pause}
use Rattle.controller.specs.declared.state.Flags.{Flags}
use Rattle.controller.specs.declared.state.Wires.{Wires}

-- Settings and flags as they are; of a plan the five axes as lists.
abbrev pub held_settings : M.Settings → Settings
held_settings s = record {
  speed = s.speed;
  slope = s.slope;
  dwell = s.dwell;
  polarity = s.polarity;
  low = s.low_on;
  high = s.high_on;
  watch = s.watch;
}

abbrev pub held_plan : M.Plan → Plan
held_plan p = record { distances = each p.distance; minus = each p.minus }

-- A tick count in two halves: whole rounds of 2 to the 32 ticks, and the ticks of the last.
abbrev pub round : ℕ
round = 4294967296

abbrev pub ticks_left : ℕ → ℕ
ticks_left n = n % round

abbrev pub rounds_of : ℕ → ℕ
rounds_of n = n / round

-- The master, and 256 more once a distance line was accepted since the move began (paper 02, 6/14).
abbrev pub held_master : M.Move → ℕ
held_master v = v.master + weight v.replanned 256

-- M and m stand beside the speed and the phase.
abbrev pub held_run : M.Move → Run
held_run v = record {
  length = whole v;
  gone = gone v;
  speed = v.speed;
  phase = v.phase;
  master = held_master v;
  moving = v.moving;
  stopping = v.stopping;
  ticks = ticks_left v.ticks;
  rounds = rounds_of v.ticks;
}

-- The remainder is what m × d leaves when divided by M.
abbrev pub held_counters : M.Move → (ℕ → ℤ) → Counters
held_counters v p = record {
  travels = each (λ k. record { 0 = v.travel k });
  remainders = each (λ k. gone v * v.plan.distance k % whole v);
  positions = each (λ k. record { 0 = bias (p k) });
}

-- A waiting start as its master and 1, none as 0.
abbrev pub held_waiting : M.Waiting → ℕ
held_waiting none = 0
held_waiting (start k) = k + 1

-- Beside the dwell stand the ticks until the block of a W line.
abbrev pub held_pause : M.Pause → M.Settle → Pause
held_pause p x = record { left = p.left; waiting = held_waiting p.waiting; block = x.left }

abbrev pub held_flags : M.Flags → Flags
held_flags f = record { wrong = f.wrong_master; stopped = f.stopped; emergency = f.emergency; sensed = f.sensed }

-- What the general outputs and each axis add to an output word.
abbrev pub held_wires : ℕ → ℕ → ℕ → M.Plan → Wires
held_wires switch polarity outputs p = record {
  general = general_of switch outputs;
  cells = record {
    rests = each (rest_of switch polarity p.minus);
    fires = each (fire_of switch polarity p.minus);
    still = still_of switch polarity p.minus;
  };
}

-- What a tick may alter.
abbrev pub held_hot : Machine → Hot
held_hot m = record {
  plan = held_plan m.move.plan;
  counters = held_counters m.move m.position;
  run = held_run m.move;
  wires = held_wires m.switch m.settings.polarity m.outputs m.move.plan;
  pause = held_pause m.pause m.settle;
  inputs = m.inputs;
  watch = m.watch;
  flags = held_flags m.flags;
}

-- What only bytes alter. A half-received line is held as the receiver holds it; an identification by whether there is
-- one, and its character, 0 without one.
abbrev pub held_cold : Machine → Cold
held_cold m = record {
  settings = held_settings m.settings;
  next = held_plan m.next;
  line = holding m.line;
  switch = m.switch;
  ident = unwrap_or m.settle.ident 0;
  named = is_some m.settle.ident;
}

-- The controller that holds a machine.
abbrev pub held : Machine → Controller
held m = record { hot = held_hot m; cold = held_cold m }

-- ---- The answers

-- Power-on: the controller and its number.
abbrev pub held_power : ℕ → PowerOn
held_power s = record { controller = held (power_on s); number = power_number s }

-- The travel and the position of axis k, as `travels` and `positions` hand them out.
abbrev pub held_travel : Machine → ℕ → Travel
held_travel m k = record { 0 = travel_of m k }

abbrev pub held_position : Machine → ℕ → Position
held_position m k = record { 0 = bias (position_of m k) }

-- A byte: the next controller, the length of the reply, the number.
abbrev pub held_byte : steps.ByteAnswer → ByteAnswer
held_byte a = record { controller = held a.machine; length = length a.reply; number = a.number }

-- The bytes before the first 0D, each a call with a buffer of 120 bytes.
abbrev pub held_gathered : Machine → List ℕ → Gathered
held_gathered m bs =
    record { controller = held (from m (bytes (before_end bs) [])); count = length (before_end bs) }

-- Whether a tick ends a move, and the entry of that move; zeros without one.
abbrev pub is_end : EntryAnswer → Bool
is_end no_entry = false
is_end (entry e) = true

abbrev pub held_entry : EntryAnswer → Entry
held_entry no_entry = zero_entry
held_entry (entry e) = e

-- A tick: the next controller, the pulses as a list, the two words, the number, the entry, the length of the block.
abbrev pub held_tick : steps.TickAnswer → TickAnswer
held_tick a = record {
  controller = held a.machine;
  pulses = each a.pulse;
  first = a.first;
  second = a.second;
  number = a.number;
  ended = is_end a.entry;
  length = length a.reply;
  entry = held_entry a.entry;
}
