-- The examples of docs/PROTOCOL.md, "A dose on screen first", computed: they tie the text on screen and the form of a
-- line to the page, whatever the code and these specs have in common.
use Rattle.std.specs.Prelude.{ℕ, List, [], ◌∷◌, ◌≡◌, pos, None}
use Rattle.laws.specs.Axes.{each}
use Rattle.machine.specs.Calls.{chars}
use Rattle.sentences.specs.Sentences.{rows}
use Rattle.reply.specs.declared.readings.Travel.{Travel}
use Rattle.trial.specs.declared.Trial.{Trial}
use Rattle.screen.specs.Asked.{asking, asked_of}
use Rattle.screen.specs.Screen.{question_text, screen_text}

-- ---- Lines that begin with D

pub record Forms : Type 0 where
  pub plain : asked_of (chars "D 0 1000000 000000") ≡ asking 0 1000000 0
  pub with_word : asked_of (chars "D 4 0 002aFF") ≡ asking 4 0 11007
  -- what a trial turns away has the form all the same
  pub large : asked_of (chars "D 5 1000001 1000000") ≡ asking 5 1000001 16777216
  pub no_word : asked_of (chars "D 0 1000000") ≡ None
  pub two_spaces : asked_of (chars "D  0 1000000 000000") ≡ None
  pub no_letter : asked_of (chars "DD 0 1000000 000000") ≡ None
  pub no_number : asked_of (chars "D 0 -1 000000") ≡ None
  pub no_decimal : asked_of (chars "D A 1000000 000000") ≡ None

-- ---- Screens

-- A trial with these travels and this tick of the end.
abbrev pub trial_with : List Travel → ℕ → Trial
trial_with travels end = record { positions = each (λ k. pos 0); travels = travels; end = end; number = 0 }

abbrev pub travel : ℕ → Travel
travel n = record { 0 = n }

-- The dose of the page.
abbrev pub dose : List Travel
dose = travel 5000 ∷ travel 1777 ∷ travel 2903 ∷ travel 0 ∷ travel 0 ∷ []

abbrev pub turned_away : ℕ → Trial
turned_away number = record {
  positions = each (λ k. pos 0);
  travels = each (λ k. travel 0);
  end = 0;
  number = number;
}

pub record Screens : Type 0 where
  pub ends : screen_text (trial_with dose 15497) 0 1000000
      ≡ rows
      ("master 0: ends in tick 15497, 0.061988 s"
      ∷ "wine 0: 5000 pulses, 51.65 %"
      ∷ "wine 1: 1777 pulses, 18.35 %"
      ∷ "wine 2: 2903 pulses, 29.98 %"
      ∷ "wine 3: 0 pulses, 0.00 %"
      ∷ "wine 4: 0 pulses, 0.00 %"
      ∷ [])
  pub stays : screen_text (trial_with (each (λ k. travel 0)) 0) 0 1000
      ≡ rows
      ("master 0: does not end in 1000 ticks, 0.004000 s"
      ∷ "wine 0: 0 pulses, 0.00 %"
      ∷ "wine 1: 0 pulses, 0.00 %"
      ∷ "wine 2: 0 pulses, 0.00 %"
      ∷ "wine 3: 0 pulses, 0.00 %"
      ∷ "wine 4: 0 pulses, 0.00 %"
      ∷ [])
  pub refused : screen_text (turned_away 14) 0 1000000
      ≡ rows ("turned away by 14: an axis is longer than the master" ∷ [])
  pub asks_back : question_text ≡ rows ("? D 0 1000000 000000" ∷ [])
