-- The examples of docs/PROTOCOL.md, "From words": what the desk answers to each line, computed; but for the row of all
-- words, which `Tables` of crate sentences has. Those of a station's commands are in `StationPage`. They tie the words
-- to the codes and letters of paper 01, whatever the tables of the code and of these specs have in common.
use Rattle.std.specs.Prelude.{◌≡◌}
use Rattle.machine.specs.Calls.{chars}
use Rattle.text.specs.Parts.{part}
use Rattle.sentences.specs.Places as K
use Rattle.sentences.specs.Sentences.{forms}
use Rattle.wording.specs.StationPage.{StationPage}
use Rattle.wording.specs.Wording.{answer_text}

-- Each command in words, and the line that is printed.
pub record CommandRows : Type 0 where
  pub start : answer_text (chars "start 0") ≡ chars "Q0800000"
  pub waiting_start_lem : answer_text (chars "start 0 after dwell") ≡ chars "Q0880000"
  pub travel : answer_text (chars "travel 2") ≡ chars "Q0200000"
  pub position : answer_text (chars "position 1") ≡ chars "q0100000"
  pub dwell : answer_text (chars "dwell 20") ≡ chars "P0A00014"
  pub watch : answer_text (chars "watch 3") ≡ chars "P0B30000"
  pub polarity : answer_text (chars "polarity 003") ≡ chars "P0C00003"
  pub low : answer_text (chars "low 00010") ≡ chars "Q0D00010"
  pub high : answer_text (chars "high 01000") ≡ chars "Q0E01000"
  pub outputs : answer_text (chars "outputs ABCDEF") ≡ chars "W0ABCDEF"
  pub speed : answer_text (chars "speed 2500.25") ≡ chars "P0802711"
  pub slope : answer_text (chars "slope 1250") ≡ chars "P09003E8"
  pub distance : answer_text (chars "distance 2 -5000") ≡ chars "P0281388"
  pub stop : answer_text (chars "stop") ≡ chars "Q0900000"
  pub status : answer_text (chars "status") ≡ chars "Q0600000"
  pub everything : answer_text (chars "everything") ≡ chars "q0800000"
  pub inputs : answer_text (chars "inputs") ≡ chars "W0"
  pub clear : answer_text (chars "clear") ≡ chars "Q0A00000"
  pub reset : answer_text (chars "reset") ≡ chars "Q0B00000"
  pub carry : answer_text (chars "carry on") ≡ chars "Q0C00000"

-- `silent`, an identification, and the two numbers of a command.
pub record MarkRows : Type 0 where
  pub silent : answer_text (chars "silent stop") ≡ chars "Q4900000"
  pub identification : answer_text (chars "stop as A") ≡ chars "Q0900000A"
  pub small : answer_text (chars "stop as a") ≡ chars "Q0900000a"
  pub no_line : answer_text (chars "dwell 16384") ≡ chars "turned away by 19: no line has this value"
  pub not_exact : answer_text (chars "speed 0.3") ≡ chars "turned away by 21: a figure is not exact or out of range"

-- What is no command.
pub record ProgramRows : Type 0 where
  pub opening : answer_text (chars "opening") ≡ chars "P0B0"
  pub master : answer_text (chars "master 5 2 3 0 0") ≡ chars "master 0"
  pub ticks : answer_text (chars "ticks 1000") ≡ chars "T 1000 000000"
  pub ticks_with_word : answer_text (chars "ticks 1000 000010") ≡ chars "T 1000 000010"

-- A trial: its line, or the first number that applies.
pub record TrialRows : Type 0 where
  pub alone : answer_text (chars "trial 0") ≡ chars "D 0 1000000 000000"
  pub with_ticks : answer_text (chars "trial 0 6000") ≡ chars "D 0 6000 000000"
  pub with_word : answer_text (chars "trial 0 6000 002000") ≡ chars "D 0 6000 002000"
  pub over_word : answer_text (chars "trial 5 1000001 1000000") ≡ chars "turned away by 3: an input word is over FFFFFF"
  pub over_ticks : answer_text (chars "trial 5 1000001") ≡ chars "turned away by 25: more than 1,000,000 ticks"
  pub over_master : answer_text (chars "trial 5") ≡ chars "turned away by 10: a value is out of its range"

-- Each kind of reply, and what it is in words.
pub record ReplyRows : Type 0 where
  pub accepted : answer_text (chars "U0000000") ≡ chars "accepted"
  pub turned_away : answer_text (chars "U000000E") ≡ chars "turned away by 14: an axis is longer than the master"
  pub minus_travel : answer_text (chars "S0281388") ≡ chars "travel 2 minus 5000"
  pub plus_travel : answer_text (chars "S0000005") ≡ chars "travel 0 plus 5"
  pub at_rest : answer_text (chars "S0600000") ≡ chars "status 0: at rest"
  pub moving : answer_text (chars "S0600003") ≡ chars "status 3: moving"
  pub dwell : answer_text (chars "S0600009") ≡ chars "status 9: dwell, stopped by order, limit or watch"
  pub wrong_master : answer_text (chars "S0600004") ≡ chars "status 4: at rest, wrong master"
  pub blocked : answer_text (chars "S0600010") ≡ chars "status 16: at rest, an axis is blocked"
  pub held : answer_text (chars "S0600020") ≡ chars "status 32: at rest, emergency is held"
  pub sensor : answer_text (chars "S0600040") ≡ chars "status 64: at rest, stopped by the sensor"
  pub start : answer_text (chars "S0800000") ≡ chars "accepted: start 0"
  pub waiting_start_lem : answer_text (chars "S0880000") ≡ chars "accepted: start 0 after dwell"
  pub stop : answer_text (chars "S0900000") ≡ chars "accepted: stop"
  pub clear : answer_text (chars "S0A00000") ≡ chars "accepted: clear"
  pub reset : answer_text (chars "S0B1FA00") ≡ chars "accepted: reset"
  pub carry : answer_text (chars "S0C12300") ≡ chars "accepted: carry on"
  pub nothing_to_carry : answer_text (chars "U000001A") ≡ chars "turned away by 26: there is nothing to carry on"
  pub low : answer_text (chars "S0D00010") ≡ chars "accepted: low 000010"
  pub high : answer_text (chars "S0E01000") ≡ chars "accepted: high 001000"
  pub position : answer_text (chars "s01FFFFF") ≡ chars "position 1 -1"
  pub inputs : answer_text (chars "R0000012") ≡ chars "inputs 000012"
  pub switch : answer_text (chars "SA281388") ≡ chars "travel 2 minus 5000 (switch A)"
  pub identification : answer_text (chars "S02813887") ≡ chars "travel 2 minus 5000 (as 7)"
  pub small : answer_text (chars "U0000000a") ≡ chars "accepted (as a)"
  pub both : answer_text (chars "UA00000EB")
      ≡ chars "turned away by 14: an axis is longer than the master (switch A) (as B)"
  pub no_block : answer_text (chars "S0700000") ≡ chars "turned away by 20: this is no reply block"
  pub small_digits : answer_text (chars "s0000abca") ≡ chars "turned away by 20: this is no reply block"
  pub sums : answer_text (chars "1 -1 0 0 0") ≡ chars "pulses 1 -1 0 0 0"

-- What has no form.
pub record NearestRows : Type 0 where
  pub capital : answer_text (chars "Speed 5") ≡ chars "? speed 2500.25"
  pub letters : answer_text (chars "strt 0") ≡ chars "? start 0, start 0 after dwell"
  pub silent : answer_text (chars "silent ticks 5") ≡ chars "? ticks 1000, ticks 1000 000010"
  pub first : answer_text (chars "help") ≡ chars "? high 01000"
  pub carry_alone : answer_text (chars "carry") ≡ chars "? carry on"
  pub carry_more : answer_text (chars "carry on on") ≡ chars "? carry on"

-- The higher axes, which the page has not.
pub record AxisRows : Type 0 where
  pub distance_4 : answer_text (chars "distance 4 1") ≡ chars "P0400001"
  pub travel_3 : answer_text (chars "travel 3") ≡ chars "Q0300000"
  pub position_4 : answer_text (chars "position 4") ≡ chars "q0400000"
  pub start_3 : answer_text (chars "start 3") ≡ chars "Q0830000"
  pub start_4 : answer_text (chars "start 4 after dwell") ≡ chars "Q08C0000"

-- The form that stands behind a question mark for each word: those of the rows above, so that each is right.
pub record FormRows : Type 0 where
  pub start : part 10 K.start forms ≡ chars "start 0, start 0 after dwell"
  pub travel : part 10 K.travel forms ≡ chars "travel 2"
  pub position : part 10 K.position forms ≡ chars "position 1"
  pub dwell : part 10 K.dwell forms ≡ chars "dwell 20"
  pub watch : part 10 K.watch forms ≡ chars "watch 3"
  pub polarity : part 10 K.polarity forms ≡ chars "polarity 003"
  pub low : part 10 K.low forms ≡ chars "low 00010"
  pub high : part 10 K.high forms ≡ chars "high 01000"
  pub outputs : part 10 K.outputs forms ≡ chars "outputs ABCDEF"
  pub speed : part 10 K.speed forms ≡ chars "speed 2500.25"
  pub slope : part 10 K.slope forms ≡ chars "slope 1250"
  pub distance : part 10 K.distance forms ≡ chars "distance 2 -5000"
  pub stop : part 10 K.stop forms ≡ chars "stop"
  pub status : part 10 K.status forms ≡ chars "status"
  pub everything : part 10 K.everything forms ≡ chars "everything"
  pub inputs : part 10 K.inputs forms ≡ chars "inputs"
  pub clear : part 10 K.clear forms ≡ chars "clear"
  pub reset : part 10 K.reset forms ≡ chars "reset"
  pub carry : part 10 K.carry forms ≡ chars "carry on"
  pub opening : part 10 K.opening forms ≡ chars "opening"
  pub master : part 10 K.master forms ≡ chars "master 5 2 3 0 0"
  pub ticks : part 10 K.ticks forms ≡ chars "ticks 1000, ticks 1000 000010"
  pub trial : part 10 K.trial forms ≡ chars "trial 0, trial 0 6000, trial 0 6000 002000"

pub record Page : Type 0 where
  pub commands : CommandRows
  pub marked : MarkRows
  pub programs : ProgramRows
  pub trials : TrialRows
  pub replies : ReplyRows
  pub nearest : NearestRows
  pub axes : AxisRows
  pub forms_are : FormRows
  pub stations : StationPage
