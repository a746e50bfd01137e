-- Paper 02, 3/14, of every list of calls: which tick answers the block of a W line, and what the block says; the
-- general outputs that the words show; and the inputs that q 8 tells. All is read off the list as in List.antt. Which
-- lines are accepted is what the machine of paper 01 does.
use Rattle.line.specs.Line.{accepting}
use Rattle.std.specs.Prelude.{ℕ, ◌+◌, Bool, true, false, cond, ◌&&◌, List, [], ◌∷◌, ◌≡◌, leb, eqb, Option}
use Rattle.laws.specs.Bits.{bit, weight}
use Rattle.line.specs.declared.command.Command.{Command}
use Rattle.line.specs.declared.command.Command.TheVariants as C
use Rattle.line.specs.Codes.{is_w}
use Rattle.reply.specs.Reply.{letter_r, block_for}
use Rattle.outputs.specs.Outputs.{general_of}
use Rattle.machine.specs.State.{Machine}
use Rattle.machine.specs.Replies.{told_of}
use Rattle.machine.specs.Steps.{
  bad_switch,
  Outcome,
  untaken,
  gathered,
  refused,
  accepted,
  decided,
  outcome,
  byte_step,
  is_short,
  too_large,
  tick_turned,
  refused_tick,
  tick_step,
}
use Rattle.machine.specs.Calls.{Call, byte, tick, state}
use Rattle.machine.specs.Roles.{is_taken}
use Rattle.machine.specs.Watch.{last_watch, ticks_unheard}

-- ---- One call

-- The latest accepted W line, query or not: whether it is silent, and its identification.
pub data Latest : Type 0 where
  no_line : Latest
  w_line : Bool → Option ℕ → Latest

-- A byte that ends an accepted W line.
abbrev pub ends_w : Outcome → Bool
ends_w untaken = false
ends_w gathered = false
ends_w (refused n silent ident) = false
ends_w (accepted c digits silent ident) = is_w c

-- The latest one after a byte: an accepted W line takes the earlier one's place, a silent one too.
abbrev pub latest_by : Outcome → Latest → Latest
latest_by untaken old = old
latest_by gathered old = old
latest_by (refused n silent ident) old = old
latest_by (accepted c digits silent ident) old = cond (is_w c) (w_line silent ident) old

abbrev pub latest_after : Machine → Call → Latest → Latest
latest_after m (byte b buffer) old = latest_by (outcome m b buffer) old
latest_after m (tick w buffer) old = old

-- The accepted ticks since it: those that are not turned away.
abbrev pub since_after : Machine → Call → ℕ → ℕ
since_after m (byte b buffer) old = cond (ends_w (outcome m b buffer)) 0 old
since_after m (tick w buffer) old = old + weight (is_taken (tick w buffer)) 1

-- The block of a W line that a call answers. A byte answers none: a W line has no reply (`WEnded`), and the R block of
-- q 8 is not a W line's.
abbrev pub answers_block : Machine → Call → List ℕ
answers_block m (byte b buffer) = []
answers_block m (tick w buffer) = (tick_step m w buffer).reply

-- The general outputs after a byte: W with six digits sets them.
abbrev pub outputs_of : Command → ℕ → ℕ
outputs_of (C.Distance k minus d) old = old
outputs_of (C.Set code v) old = old
outputs_of (C.Start k waits) old = old
outputs_of (C.Order code) old = old
outputs_of (C.Outputs v) old = v
outputs_of (C.Read r) old = old

abbrev pub outputs_by : Outcome → ℕ → ℕ
outputs_by untaken old = old
outputs_by gathered old = old
outputs_by (refused n silent ident) old = old
outputs_by (accepted c digits silent ident) old = outputs_of c old

-- ---- A list of calls

-- The latest accepted W line.
unfoldable pub last_w : ℕ → List Call → Latest
last_w s [] = no_line
last_w s (x ∷ h) = latest_after (state s h) x (last_w s h)

-- The accepted ticks since it, or since power-on without one. They are counted on after its block.
unfoldable pub ticks_since_w : ℕ → List Call → ℕ
ticks_since_w s [] = 0
ticks_since_w s (x ∷ h) = since_after (state s h) x (ticks_since_w s h)

-- The switch digit: that of power-on.
abbrev pub switch_of : ℕ → ℕ
switch_of s = cond (bad_switch s) 0 s

-- The block of a W line with the inputs w: R, the switch digit, the inputs, and the line's very identification. A
-- silent line gives none.
abbrev pub block_to : ℕ → Latest → ℕ → List ℕ
block_to s no_line w = []
block_to s (w_line silent ident) w = cond silent [] (block_for (switch_of s) letter_r w ident)

-- A tick after the list is not turned away, and the 2,500th since the latest accepted W line.
abbrev pub is_due : ℕ → List Call → ℕ → List ℕ → Bool
is_due s h w buffer = is_taken (tick w buffer) && eqb (ticks_since_w s (tick w buffer ∷ h)) 2500

-- The block that is due in the latest call: that of such a tick, and none otherwise.
unfoldable pub block_due : ℕ → List Call → List ℕ
block_due s [] = []
block_due s (byte b buffer ∷ h) = []
block_due s (tick w buffer ∷ h) = cond (is_due s h w buffer) (block_to s (last_w s h) w) []

-- What the latest call answers of a block.
unfoldable pub latest_block : ℕ → List Call → List ℕ
latest_block s [] = []
latest_block s (x ∷ h) = answers_block (state s h) x

-- The inputs of the last tick that was not turned away, 0 before any.
unfoldable pub last_word : ℕ → List Call → ℕ
last_word s [] = 0
last_word s (byte b buffer ∷ h) = last_word s h
last_word s (tick w buffer ∷ h) = cond (tick_turned w buffer) (last_word s h) w

-- A tick after the list clears the general outputs: 1,000,000 ticks without a line that zeroes the watch count, with
-- watch bit 1.
abbrev pub clears_in : ℕ → List Call → ℕ → List ℕ → Bool
clears_in s h w buffer =
    is_taken (tick w buffer) && (leb 1000000 (ticks_unheard s (tick w buffer ∷ h)) && bit (last_watch s h) 1)

-- The general outputs: those of the last accepted W line with six digits, 0 before any, and cleared by the watch.
unfoldable pub last_outputs : ℕ → List Call → ℕ
last_outputs s [] = 0
last_outputs s (byte b buffer ∷ h) = outputs_by (outcome (state s h) b buffer) (last_outputs s h)
last_outputs s (tick w buffer ∷ h) = cond (clears_in s h w buffer) 0 (last_outputs s h)

-- The words x and y of the latest call, a tick, show them: bits 10 to 23, or 20 to 23 from switch 8 on.
pub record Shows (s : ℕ) (h : List Call) (x y : ℕ) : Type 0 where
  pub first : general_of (switch_of s) x ≡ general_of (switch_of s) (last_outputs s h)
  pub second : general_of (switch_of s) y ≡ general_of (switch_of s) (last_outputs s h)

-- ---- The claim

-- A byte b after the list that ends an accepted W line answers no bytes, and number 0.
pub record WEnded (s : ℕ) (h : List Call) (b : ℕ) (buffer : List ℕ) : Type 0 where
  pub nothing : (byte_step (state s h) b buffer).reply ≡ []
  pub number : (byte_step (state s h) b buffer).number ≡ 0

pub record Settled (s : ℕ) (h : List Call) : Type 0 where
  -- a tick's answer has a block exactly if the latest accepted W line is not silent and that tick is the 2,500th
  -- accepted one after it: this block
  pub answered : latest_block s h ≡ block_due s h
  pub ended : (b : ℕ) (buffer : List ℕ) → ends_w (outcome (state s h) b buffer) ≡ true → WEnded s h b buffer
  -- a W line that none of 4 to 10 turns away is accepted
  pub accepts : (c : Command) (digits : ℕ) (silent : Bool) (ident : Option ℕ) → is_w c ≡ true
      → decided (state s h) silent ident (accepting c digits) ≡ accepted c digits silent ident
  -- its outputs are set at once (a query sets none): the next tick shows them, whatever else it does
  pub words : (w : ℕ) (buffer : List ℕ) → tick_turned w buffer ≡ false
      → Shows s (tick w buffer ∷ h) (tick_step (state s h) w buffer).first (tick_step (state s h) w buffer).second
  -- the inputs that the R block of q 8 is made from are the last tick's
  pub inputs : (told_of (state s h)).inputs ≡ last_word s h
  -- 2, before 3: nothing altered, pulses and words 0, no entry and no block, the number in the failed start's place
  pub short : (w : ℕ) (buffer : List ℕ) → is_short buffer ≡ true
      → tick_step (state s h) w buffer ≡ refused_tick (state s h) 2
  pub large : (w : ℕ) (buffer : List ℕ) → is_short buffer ≡ false → too_large w ≡ true
      → tick_step (state s h) w buffer ≡ refused_tick (state s h) 3

-- For every switch and every list of calls.
abbrev pub Settles : Type 0
Settles = (s : ℕ) (h : List Call) → Settled s h
