-- The round trip of replies (demand 2): the host side "reads every reply back to the figures it was made from". What
-- the replies of a controller are made from (paper 01, "Lines", Replies), block by block, and `RepliesRead`, a promise
-- of `read_block`.
use Rattle.std.specs.Prelude.{ℕ, cond, List, [], ◌∷◌, ◌++◌, map, ◌≡◌, ltb, Option}
use Rattle.line.specs.declared.command.Reading.{Reading}
use Rattle.line.specs.declared.command.Reading.TheVariants as R
use Rattle.line.specs.declared.command.Command.{Command}
use Rattle.line.specs.declared.command.Command.TheVariants as C
use Rattle.reply.specs.Reply.{refusal_ident}
use Rattle.machine.specs.State.{Machine}
use Rattle.machine.specs.Stops as Stops
use Rattle.machine.specs.Replies.{travel_of, position_of}
use Rattle.machine.specs.Steps.{Outcome, untaken, gathered, refused, accepted, outcome, byte_step, tick_step}
use Rattle.machine.specs.Calls.{Call, state}
use Rattle.machine.specs.Settle.{Latest, no_line, w_line, last_w, switch_of, is_due, last_word}
use Rattle.reader.specs.Reader.{Figures, verdict, travelled, status, echo, placed, inputs, read_of}

-- An axis's travel with the latest move's direction, its position; the status; the last tick's inputs w.
abbrev pub travel_in : Machine → Option ℕ → ℕ → Figures
travel_in m ident k = travelled m.switch k (m.move.plan.minus k) (travel_of m k) ident

abbrev pub position_in : Machine → Option ℕ → ℕ → Figures
position_in m ident k = placed m.switch k (position_of m k) ident

abbrev pub status_in : Machine → Option ℕ → Figures
status_in m ident = status m.switch (Stops.status m) ident

abbrev pub inputs_in : Machine → ℕ → Option ℕ → Figures
inputs_in m w ident = inputs m.switch w ident

-- What the reply to a reading says; q 8 reads everything.
abbrev pub said_for : Machine → ℕ → Reading → Option ℕ → List Figures
said_for m w (R.Travel k) ident = travel_in m ident k ∷ []
said_for m w (R.Position k) ident = position_in m ident k ∷ []
said_for m w R.Status ident = status_in m ident ∷ []
said_for m w R.Everything ident =
    travel_in m ident 0 ∷ travel_in m ident 1 ∷ travel_in m ident 2 ∷ travel_in m ident 3 ∷ travel_in m ident 4
    ∷ status_in m ident
    ∷ position_in m ident 0 ∷ position_in m ident 1 ∷ position_in m ident 2 ∷ position_in m ident 3 ∷ position_in m ident 4
    ∷ inputs_in m w ident ∷ []
said_for m w R.Inputs ident = []

-- What the reply to an accepted command with these six digits says. P: 0. Q: a reading, or the digits. q: a position,
-- or everything. W: nothing, its block comes from a tick. Settings are P's up to C, those of the inputs Q's.
abbrev pub said_to : Machine → ℕ → Command → ℕ → Option ℕ → List Figures
said_to m w (C.Distance k minus d) digits ident = verdict m.switch 0 ident ∷ []
said_to m w (C.Set code v) digits ident =
    cond (ltb code 13) (verdict m.switch 0 ident ∷ []) (echo m.switch digits ident ∷ [])
said_to m w (C.Start k waits) digits ident = echo m.switch digits ident ∷ []
said_to m w (C.Order code) digits ident = echo m.switch digits ident ∷ []
said_to m w (C.Outputs v) digits ident = []
said_to m w (C.Read r) digits ident = said_for m w r ident

-- What the reply to a byte says: nothing where there is no reply; a line turned away, its number, with the
-- identification from 8 on.
abbrev pub said_of : Machine → ℕ → Outcome → List Figures
said_of m w untaken = []
said_of m w gathered = []
said_of m w (refused n silent ident) = cond silent [] (verdict m.switch n (refusal_ident n ident) ∷ [])
said_of m w (accepted c digits silent ident) = cond silent [] (said_to m w c digits ident)

-- What the block of a W line says in the tick with the inputs w, off the list of calls (paper 02, 3/14): the switch of
-- power-on, these inputs, the identification of the latest accepted W line. A silent one gives none.
abbrev pub said_later : ℕ → Latest → ℕ → List Figures
said_later s no_line w = []
said_later s (w_line silent ident) w = cond silent [] (inputs (switch_of s) w ident ∷ [])

-- What a tick after the list says, if it is not turned away and is the 2,500th since that line; else nothing.
abbrev pub said_by : ℕ → List Call → ℕ → List ℕ → List Figures
said_by s h w buffer = cond (is_due s h w buffer) (said_later s (last_w s h) w) []

-- Rows of bytes, one behind the other.
abbrev pub joined : List (List ℕ) → List ℕ
joined [] = []
joined (b ∷ bs) = b ++ joined bs

-- The bytes are blocks one behind the other, and the reader gives these figures of them.
pub record ReadsAs (bytes : List ℕ) (figures : List Figures) : Type 0 where
  pub blocks : List (List ℕ)
  pub whole : joined blocks ≡ bytes
  pub read : map read_of blocks ≡ figures

-- Any controller that calls made from power-on, any byte or tick and any buffer: the reply, or the block, is read back
-- whole. Which inputs are the last tick's is read off the list.
pub record RepliesRead : Type 0 where
  pub bytes : (s : ℕ) (h : List Call) (b : ℕ) (buffer : List ℕ)
      → ReadsAs (byte_step (state s h) b buffer).reply
      (said_of (state s h) (last_word s h) (outcome (state s h) b buffer))
  pub ticks : (s : ℕ) (h : List Call) (w : ℕ) (buffer : List ℕ)
      → ReadsAs (tick_step (state s h) w buffer).reply (said_by s h w buffer)
