-- Paper 01, "Host end and program", of whole lines: what the bench prints for an input, taken byte by byte, is what the
-- paper says of each of its lines in turn.
use Rattle.std.specs.Prelude.{ℕ, Bool, true, false, cond, not, ◌&&◌, List, [], ◌∷◌, ◌++◌, ◌≡◌, eqb}
use Prim.Native.String.{String}
use Rattle.digits.specs.Digits.{end_byte}
use Rattle.machine.specs.State.{Machine, put, with_settings}
use Rattle.machine.specs.Steps.{power_on, byte_step}
use Rattle.machine.specs.Calls.{state, buffer, bytes, chars, line, lines, ticks, from}
use Rattle.session.specs.Asked.{letter_t, asked_of}
use Rattle.session.specs.Session.{starting, Bench, Answer, fresh, shown, asks, taken, finished}

-- What is printed for an input, taken byte by byte to its end.
unfoldable pub prints : Bench → List ℕ → List ℕ
prints x [] = (finished x).printed
prints x (b ∷ bs) = (taken x b).printed ++ prints (taken x b).bench bs

-- What some bytes of an input print, taken one after another: the same without the end of the input.
unfoldable pub printed_by : Bench → List ℕ → List ℕ
printed_by x [] = []
printed_by x (b ∷ bs) = (taken x b).printed ++ printed_by (taken x b).bench bs

-- The bench after an input, or a part of it, taken byte by byte.
unfoldable pub after : Bench → List ℕ → Bench
after x [] = x
after x (b ∷ bs) = after (taken x b).bench bs

-- Texts, each ended by a line feed.
abbrev pub fed : List String → List ℕ
fed [] = []
fed (l ∷ ls) = chars l ++ (10 ∷ fed ls)

-- What q 8 tells where nothing has moved: travels, status, positions and inputs, all 0.
abbrev pub all_zero : List String
all_zero =
    "S0000000" ∷ "S0100000" ∷ "S0200000" ∷ "S0300000" ∷ "S0400000" ∷ "S0600000"
    ∷ "s0000000" ∷ "s0100000" ∷ "s0200000" ∷ "s0300000" ∷ "s0400000" ∷ "R0000000" ∷ []

-- The machine after a W line and 2,499 ticks: the next tick is the 2,500th, and has the one pulse of a move.
abbrev pub settling : Machine
settling =
    state 0 (ticks 206 0 (lines ("P0000001" ∷ "P08F4240" ∷ "P0900FFF" ∷ "Q080" ∷ []) (ticks 2293 0
    (line "W0ABCDEF1" []))))

-- Before a line.
abbrev pub at_line : Machine → Bench
at_line m = record { machine = m; place = starting }

-- What a line does: the bench after it, and what it prints.
pub record Done : Type 0 where
  pub bench : Bench
  pub printed : List ℕ

-- What bytes that go in one after another print: their replies.
unfoldable pub replies : Machine → List ℕ → List ℕ
replies m [] = []
replies m (b ∷ bs) = shown (byte_step m b buffer).reply ++ replies (byte_step m b buffer).machine bs

-- Bytes go in one after another, and their replies print.
abbrev pub goes_in : Machine → List ℕ → Done
goes_in m bs = record { bench = at_line (from m (bytes bs [])); printed = replies m bs }

abbrev pub begins_with_t : List ℕ → Bool
begins_with_t [] = false
begins_with_t (c ∷ cs) = eqb c letter_t

abbrev pub done_by : Answer → Done
done_by a = record { bench = a.bench; printed = a.printed }

-- A line that begins with T runs ticks or prints `?`; other lines go in with 0D for their line feed.
abbrev pub line_done : Machine → List ℕ → Done
line_done m cs = cond (begins_with_t cs) (done_by (asks m (asked_of cs))) (goes_in m (cs ++ (end_byte ∷ [])))

-- No character is a line feed.
abbrev pub is_line : List ℕ → Bool
is_line [] = true
is_line (c ∷ cs) = not (eqb c 10) && is_line cs

-- The first three say how the bench begins, before any input; the next two what a W line and its block print; then that
-- an input prints what its bytes print and then what its end does; the last three what is printed for every input.
pub record Lines : Type 0 where
  -- power-on with switch 0 and the host's first line, whose reply is dropped (paper 02, 2/14): as the first line of an
  -- input to a bench at plain power-on it prints U0000000, and then all that is printed here
  pub opens : (bs : List ℕ)
      → prints (at_line (power_on 0)) (fed ("P0B0" ∷ []) ++ bs) ≡ fed ("U0000000" ∷ []) ++ prints fresh bs
  -- it leaves the watch off, and all else as power-on made it
  pub off : fresh ≡ at_line (with_settings (power_on 0) (put (power_on 0).settings 11 0))
  -- so a first line q08 prints its twelve blocks and nothing else
  pub first : prints fresh (fed ("q08" ∷ [])) ≡ fed all_zero
  -- a W line prints nothing; its block prints before the sums of the ticks that it comes in (3/14)
  pub silent : prints fresh (fed ("W0ABCDEF1" ∷ [])) ≡ []
  pub settles : prints (at_line settling) (fed ("T 1 123456" ∷ [])) ≡ fed ("R01234561" ∷ "1 0 0 0 0" ∷ [])
  pub parts : (x : Bench) (bs : List ℕ) → prints x bs ≡ printed_by x bs ++ (finished (after x bs)).printed
  pub nothing : (m : Machine) → prints (at_line m) [] ≡ []
  -- a line, its line feed, and the rest of the input
  pub whole : (m : Machine) (cs rest : List ℕ) → is_line cs ≡ true
      → prints (at_line m) (cs ++ (10 ∷ rest)) ≡ (line_done m cs).printed ++ prints (line_done m cs).bench rest
  -- the last line, which lacks its line feed
  pub last : (m : Machine) (c : ℕ) (cs : List ℕ) → is_line (c ∷ cs) ≡ true
      → prints (at_line m) (c ∷ cs) ≡ (line_done m (c ∷ cs)).printed
