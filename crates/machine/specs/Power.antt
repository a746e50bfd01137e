-- Power-on: V 10,000, a 16, all else 0; watch 1 (axes) by paper 02, 2/14. 1: a switch over 15 or equal to 12 gives
-- switch 0 with this number.
use Rattle.std.specs.Prelude.{ℕ, Bool, false, cond, ◌||◌, [], ltb, eqb, pos, None}
use Rattle.machine.specs.State.{Plan, none, Machine, move_of}

abbrev pub bad_switch : ℕ → Bool
bad_switch switch = ltb 15 switch || eqb switch 12

abbrev pub plan₀ : Plan
plan₀ = record { distance = λ k. 0; minus = λ k. false }

abbrev pub power_on : ℕ → Machine
power_on switch = record {
  switch = cond (bad_switch switch) 0 switch;
  settings = record { speed = 10000; slope = 16; dwell = 0; watch = 1; polarity = 0; low_on = 0; high_on = 0 };
  next = plan₀;
  move = move_of plan₀ 0 (λ k. 0) 0 0 0 false false false;
  position = λ k. pos 0;
  inputs = 0;
  outputs = 0;
  watch = 0;
  flags = record { wrong_master = false; stopped = false; emergency = false; sensed = false };
  pause = record { left = 0; waiting = none };
  settle = record { left = 0; ident = None };
  line = [];
}

abbrev pub power_number : ℕ → ℕ
power_number switch = cond (bad_switch switch) 1 0
