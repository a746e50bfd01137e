-- The replies of a machine, block by block: the reader gives of each the figures that it was made from. Assumes
-- nothing.
use Rattle.std.proofs.Common.{Option}
use Prim.Native.Nat.{ℕ, ◌<◌}
use native.Mathlib.Omega.{arith}
use mathlib.Core.Bool.{Bool, true, false, ◌||◌}
use mathlib.Core.List.{List, [], ◌∷◌, append_assoc, append-nil}
use mathlib.Core.Path.{◌≡◌, refl}
use borrow.Author.Tests.{ltb-false}
use lib.Dec.{ltb, lit<}
use Rattle.laws.proofs.BitLaws.{weight_le}
use Rattle.digits.specs.Digits.{six_digits}
use Rattle.block.specs.Block.{row_of}
use Rattle.line.specs.declared.command.Reading.{Reading}
use Rattle.line.specs.declared.command.Reading.TheVariants as R
use Rattle.line.specs.declared.command.Command.{Command}
use Rattle.line.specs.declared.command.Command.TheVariants as C
use Rattle.line.specs.Ranges.{reading_fits}
use Rattle.line.specs.Fits.{CommandFits}
use Rattle.line.proofs.Ranges.{axis}
use Rattle.reply.specs.Reply.{
  coded,
  letter_u,
  letter_s,
  letter_small_s,
  letter_r,
  block_for,
  letters,
  numbers,
  travel_digits,
  twenty,
  reading_of,
  bytes_of,
  reply_of,
  refusal_ident,
  refusal_of,
}
use Rattle.machine.specs.State.{Machine}
use Rattle.machine.specs.Stops as Stops
use Rattle.machine.specs.Replies.{travel_of, position_of, told_of, reply_to, refusal}
use Rattle.machine.proofs.Fits.{Fits}
use Rattle.host.specs.Writer.{ident_fits}
use Rattle.reader.specs.Reader.{Figures, verdict, echo, read_of}
use Rattle.reader.specs.Blocks.{Framed}
use Rattle.reader.specs.ReadBack.{
  travel_in,
  position_in,
  status_in,
  inputs_in,
  said_for,
  said_to,
  joined,
  ReadsAs,
}
use Rattle.reader.proofs.EchoLaws.{EchoFits}
use Rattle.reader.proofs.BlockLaws.{
  verdict_read,
  travel_read,
  status_read,
  echo_read,
  place_read,
  inputs_read,
}
use Rattle.reader.proofs.LineLaws.{Echoed}
use Rattle.reader.proofs.KeptLaws.{Kept}
use Rattle.reader.proofs.NumberLaws.{Known, refusal_fits}
use Rattle.reader.proofs.VerdictLaws.{turned_most}

-- ---- one block, and none

pub none_read : ReadsAs [] []
none_read = record { blocks = []; whole = refl; read = refl }

pub one_read : {bytes : List ℕ} {f : Figures} → read_of bytes ≡ f → ReadsAs bytes (f ∷ [])
one_read {bytes} e = record { blocks = bytes ∷ []; whole = append-nil bytes; read = λ i. e i ∷ [] }

-- ---- the replies of a machine

status_low : (m : Machine) → Stops.status m < 128
status_low m =
    omega (
      arith,
      weight_le (m.move.moving || ltb 0 m.pause.left) 1,
      weight_le m.move.moving 2,
      weight_le m.flags.wrong_master 4,
      weight_le m.flags.stopped 8,
      weight_le (Stops.blocked m (Stops.current m)) 16,
      weight_le m.flags.emergency 32,
      weight_le m.flags.sensed 64,
    )

-- Its switch, with an identification.
framed : (m : Machine) (ident : Option ℕ) → Kept m → ident_fits ident ≡ true → Framed m.switch ident
framed m ident k named = record { digit = k.switch.low; other = k.switch.other; named = named }

module _ (m : Machine) (f : Fits m) (k : Kept m) (ident : Option ℕ) (named : ident_fits ident ≡ true) where
  zero_read : ReadsAs (block_for m.switch letter_u 0 ident) (verdict m.switch 0 ident ∷ [])
  zero_read =
      one_read (verdict_read m.switch ident (framed m ident k named) 0 (omega arith) (λ no. absurd (no refl)))

  travel_back : (j : ℕ) → j < 5
      → read_of (block_for m.switch letter_s (coded j (travel_digits (m.move.plan.minus j) (travel_of m j))) ident)
      ≡ travel_in m ident j
  travel_back j h =
      let a = f.move.within j h in
      let b = f.move.plan j h in
      travel_read m.switch ident (framed m ident k named) j (m.move.plan.minus j) (travel_of m j) h (omega arith)

  place_back : (j : ℕ) → j < 5
      → read_of (block_for m.switch letter_small_s (coded j (twenty (position_of m j))) ident) ≡ position_in m ident j
  place_back j h =
      place_read m.switch ident (framed m ident k named) j (position_of m j) h (f.places.inside j h)

  status_back : read_of (block_for m.switch letter_s (coded 6 (Stops.status m)) ident) ≡ status_in m ident
  status_back = status_read m.switch ident (framed m ident k named) (Stops.status m) (status_low m)

  inputs_back : read_of (block_for m.switch letter_r m.inputs ident) ≡ inputs_in m m.inputs ident
  inputs_back = inputs_read m.switch ident (framed m ident k named) m.inputs k.inputs

  -- The block of a letter and digits.
  abbrev block : ℕ → ℕ → List ℕ
  block letter n = block_for m.switch letter n ident

  abbrev travel_block : ℕ → List ℕ
  travel_block j = block letter_s (coded j (travel_digits (m.move.plan.minus j) (travel_of m j)))

  abbrev place_block : ℕ → List ℕ
  place_block j = block letter_small_s (coded j (twenty (position_of m j)))

  abbrev twelve : List (List ℕ)
  twelve =
      travel_block 0 ∷ travel_block 1 ∷ travel_block 2 ∷ travel_block 3 ∷ travel_block 4
      ∷ block letter_s (coded 6 (Stops.status m))
      ∷ place_block 0 ∷ place_block 1 ∷ place_block 2 ∷ place_block 3 ∷ place_block 4
      ∷ block letter_r m.inputs ∷ []

  twelve_row : joined twelve ≡ row_of 12 letters (numbers (told_of m)) m.switch ident
  unfolding row_of
  twelve_row = simp (append_assoc, append-nil)

  all_read : ReadsAs (row_of 12 letters (numbers (told_of m)) m.switch ident)
      (said_for m m.inputs R.Everything ident)
  all_read = record {
    blocks = twelve;
    whole = twelve_row;
    read = λ i. travel_back 0 (lit< tt) i ∷ travel_back 1 (lit< tt) i ∷ travel_back 2 (lit< tt) i
        ∷ travel_back 3 (lit< tt) i ∷ travel_back 4 (lit< tt) i
        ∷ status_back i
        ∷ place_back 0 (lit< tt) i ∷ place_back 1 (lit< tt) i ∷ place_back 2 (lit< tt) i ∷ place_back 3 (lit< tt) i
        ∷ place_back 4 (lit< tt) i
        ∷ inputs_back i ∷ [];
  }

  echo_back : (n : ℕ) → n < six_digits → EchoFits n → ReadsAs (block letter_s n) (echo m.switch n ident ∷ [])
  echo_back n low e = one_read (echo_read m.switch ident (framed m ident k named) n low e)

  -- The reply to a reading.
  reading_reads : (r : Reading) → reading_fits r ≡ true
      → ReadsAs (bytes_of (told_of m) (reading_of (told_of m) r) ident) (said_for m m.inputs r ident)
  reading_reads (R.Travel j) h = one_read (travel_back j (axis j h))
  reading_reads (R.Position j) h = one_read (place_back j (axis j h))
  reading_reads R.Status h = one_read status_back
  reading_reads R.Everything h = all_read
  reading_reads R.Inputs h = none_read

  -- The reply to an accepted command.
  pub reply_reads : (c : Command) (n : ℕ) → CommandFits c → n < six_digits → Echoed c n
      → ReadsAs (reply_to m c n ident) (said_to m m.inputs c n ident)
  unfolding reply_of
  reply_reads (C.Distance j s d) n h low e = zero_read
  reply_reads (C.Set j v) n h low e = when (ltb j 13) refl
    where
      when : (t : Bool) → ltb j 13 ≡ t
          → ReadsAs (reply_to m (C.Set j v) n ident) (said_to m m.inputs (C.Set j v) n ident)
      when true q = rw q zero_read
      when false q = rw q (echo_back n low (e (ltb-false j 13 q)))
  reply_reads (C.Start j waits) n h low e = echo_back n low e
  reply_reads (C.Order j) n h low e = echo_back n low e
  reply_reads (C.Outputs v) n h low e = none_read
  reply_reads (C.Read r) n h low e = reading_reads r h

-- The reply to a turned-away line.
pub refusal_reads : (m : Machine) (n : ℕ) (ident : Option ℕ) → Kept m → Known n
    → ident_fits (refusal_ident n ident) ≡ true
    → ReadsAs (refusal m n ident) (verdict m.switch n (refusal_ident n ident) ∷ [])
unfolding refusal_of
refusal_reads m n ident k h e =
    one_read (verdict_read m.switch (refusal_ident n ident) (framed m (refusal_ident n ident) k e) n
    (omega (arith, turned_most n h.1)) (refusal_fits n ident h))
