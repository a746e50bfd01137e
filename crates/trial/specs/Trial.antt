-- Paper 02, 5/14: what a plain start, a half-received line aside, and so many ticks would leave, done on a copy of the
-- machine by its own line and its own ticks.
use Rattle.std.specs.Prelude.{ℕ, zero, suc, ◌+◌, Bool, cond, List, [], ◌∷◌, ◌++◌, ltb, eqb, pos}
use Rattle.laws.specs.Axes.{each}
use Rattle.digits.specs.Digits.{end_byte}
use Rattle.machine.specs.State.{Machine, with_line}
use Rattle.machine.specs.Steps as steps
use Rattle.machine.specs.Steps.{byte_step, too_large, tick_step}
use Rattle.machine.specs.Calls.{from, buffer, chars, bytes, ticks}
use Rattle.controller.specs.Held.{held_travel, is_end}
use Rattle.trial.specs.declared.Trial.{Trial}

-- ---- The start

-- A half-received line aside.
abbrev pub aside : Machine → Machine
aside m = with_line m []

-- The line of a plain start, without its 0D: Q, 0 for a reply, code 8 and the master, 0 to 4.
abbrev pub start_line : ℕ → List ℕ
start_line master = chars "Q08" ++ ((48 + master) ∷ [])

-- What its 0D answers: the machine after the start, and the number that turns it away, or 0. The line's checks read the
-- last word before; the word of the trial comes with the ticks alone.
abbrev pub start_answer : Machine → ℕ → steps.ByteAnswer
start_answer m master = byte_step (from (aside m) (bytes (start_line master) [])) end_byte buffer

-- ---- The ticks, each with the input word and a buffer of 120 bytes

-- The machine after n of them.
abbrev pub after_ticks : Machine → ℕ → ℕ → Machine
after_ticks m word n = from m (ticks n word [])

-- Tick n + 1 ends the move: it answers its entry (1/14).
abbrev pub ends_next : Machine → ℕ → ℕ → Bool
ends_next m word n = is_end (tick_step (after_ticks m word n) word buffer).entry

-- The tick of the end, counted from 1: the first of n that ends the move; 0 where none of them does.
abbrev pub first_of : ℕ → Bool → ℕ → ℕ
first_of before ends n = cond (eqb before 0) (cond ends n 0) before

unfoldable pub end_of : Machine → ℕ → ℕ → ℕ
end_of m word zero = 0
end_of m word (suc n) = first_of (end_of m word n) (ends_next m word n) (suc n)

-- ---- What is shown

-- A number, and zeros.
abbrev pub turned : ℕ → Trial
turned number = record {
  number = number;
  end = 0;
  travels = each (λ k. record { 0 = 0 });
  positions = each (λ k. pos 0);
}

-- Positions, travels and the tick of the end.
abbrev pub shown : Machine → ℕ → Trial
shown m end = record { number = 0; end = end; travels = each (held_travel m); positions = each m.position }

-- What n ticks after an accepted start show.
abbrev pub run_of : Machine → ℕ → ℕ → Trial
run_of m word n = shown (after_ticks m word n) (end_of m word n)

-- 3 the input word, 25 over 1,000,000 ticks, 10 a master over 4, then the start's own (11 to 17).
abbrev pub trial_of : Machine → ℕ → ℕ → ℕ → Trial
trial_of m master word n =
    cond (too_large word) (turned 3)
    (cond (ltb 1000000 n) (turned 25)
    (cond (ltb 4 master) (turned 10)
    (cond (eqb (start_answer m master).number 0) (run_of (start_answer m master).machine word n)
    (turned (start_answer m master).number))))
