-- The journal (paper 02, 1/14): what appending and reading answer, and what holds of both together.
use Rattle.std.specs.Prelude.{ℕ, ◌+◌, ◌-◌, ◌≤◌, ◌<◌, true, false, cond, List, [], ◌∷◌, ◌++◌, ◌≡◌, leb, eqb, pos, length, take, drop}
use Rattle.block.specs.Block.{room, put}
use Rattle.journal.specs.declared.Entry.{Entry}
use Rattle.journal.specs.declared.Appended.{Appended}
use Rattle.journal.specs.declared.EntryAt.{EntryAt}
use Rattle.journal.specs.Numbers.{Got}
use Rattle.journal.specs.Numbers.Got.{cut, wrong, got}
use Rattle.journal.specs.Entries.{fits, spelled, read_entry}

-- ---- appending

-- 24 for an entry out of range, before 22, no space for the whole entry from the place at on; else 0.
abbrev pub append_number : List ℕ → ℕ → Entry → ℕ
append_number buffer at e = cond (fits e) (cond (room at (spelled e) buffer) 0 22) 24

-- The entry's bytes from the place at on, and the others as they were; on a refusal the buffer is unaltered.
unfoldable pub append_buffer : List ℕ → ℕ → Entry → List ℕ
append_buffer buffer at e = cond (eqb (append_number buffer at e) 0) (put at (spelled e) buffer) buffer

-- The place after the entry and 0, or the given place and the number.
unfoldable pub appended : List ℕ → ℕ → Entry → Appended
appended buffer at e = record {
  next = cond (eqb (append_number buffer at e) 0) (at + length (spelled e)) at;
  number = append_number buffer at e;
}

-- ---- reading

abbrev pub zero_entry : Entry
zero_entry = record { ticks = 0; cause = 0; travels = pos 0 ∷ pos 0 ∷ pos 0 ∷ pos 0 ∷ pos 0 ∷ [] }

-- No entry: with 0 it is the journal's end.
abbrev pub nothing_at : ℕ → ℕ → EntryAt
nothing_at at number = record { entry = zero_entry; next = at; found = false; number = number }

abbrev pub answer_at : ℕ → Got Entry → EntryAt
answer_at at cut = nothing_at at 23
answer_at at wrong = nothing_at at 24
answer_at at (got e used) = record { entry = e; next = at + used; found = true; number = 0 }

-- No byte left before an entry is the journal's end and no refusal.
unfoldable pub read_at : List ℕ → ℕ → EntryAt
read_at bytes at = cond (leb (length bytes) at) (nothing_at at 0) (answer_at at (read_entry (drop at bytes)))

-- ---- writing and then reading yields the entries

-- The bytes of entries, one behind the other.
unfoldable pub journal_of : List Entry → List ℕ
journal_of [] = []
journal_of (e ∷ es) = spelled e ++ journal_of es

-- Each can be written.
abbrev pub AllFit : List Entry → Type 0
AllFit [] = Unit
AllFit (e ∷ es) = (fits e ≡ true) × AllFit es

-- Appending entries to a buffer, each at the place and in the buffer that the last left, leaves this buffer and this
-- place, and none is refused.
abbrev pub Written : List ℕ → ℕ → List Entry → List ℕ → ℕ → Type 0
Written buffer at [] last end = (buffer ≡ last) × (at ≡ end)
Written buffer at (e ∷ es) last end =
    ((appended buffer at e).number ≡ 0)
    × Written (append_buffer buffer at e) (appended buffer at e).next es last end

-- Reading a journal from a place on, each entry from where the last ended, yields these entries, and then the end.
abbrev pub Yields : List ℕ → ℕ → List Entry → Type 0
Yields journal at [] = read_at journal at ≡ nothing_at at 0
Yields journal at (e ∷ es) =
    ((read_at journal at).found ≡ true)
    × (((read_at journal at).number ≡ 0)
    × (((read_at journal at).entry ≡ e) × Yields journal (read_at journal at).next es))

-- The journal is what stands before the place that is left.
pub record RoundTrip : Type 0 where
  -- What was written is what is read from the place where writing began.
  pub yields : (buffer : List ℕ) (at : ℕ) (es : List Entry) (last : List ℕ) (end : ℕ)
      → Written buffer at es last end → Yields (take end last) at es
  -- The journal is what stood before that place, and then the entries' bytes; what stands behind it is as it was.
  pub kept : (buffer : List ℕ) (at : ℕ) (es : List Entry) (last : List ℕ) (end : ℕ) → Written buffer at es last end
      → (take end last ≡ take at buffer ++ journal_of es) × (drop end last ≡ drop end buffer)
  -- Appended to a journal, they are read behind its entries: from its front it yields the old and then the new.
  pub old_first : (buffer : List ℕ) (front at : ℕ) (old es : List Entry) (last : List ℕ) (end : ℕ) → front ≤ at
      → Yields (take at buffer) front old → Written buffer at es last end → Yields (take end last) front (old ++ es)
  -- All entries that fit are written where their bytes have room.
  pub takes : (buffer : List ℕ) (at : ℕ) (es : List Entry) → AllFit es → at + length (journal_of es) ≤ length buffer
      → Written buffer at es (put at (journal_of es) buffer) (at + length (journal_of es))

-- ---- each entry has one spelling

abbrev pub Bytes : List ℕ → Type 0
Bytes [] = Unit
Bytes (b ∷ bs) = (b < 256) × Bytes bs

pub record OneSpelling : Type 0 where
  -- What reads as an entry is its spelling, and the entry is one that can be written.
  pub its_own : (bs : List ℕ) (e : Entry) (used : ℕ) → Bytes bs → read_entry bs ≡ got e used
      → (take used bs ≡ spelled e) × ((used ≡ length (spelled e)) × (fits e ≡ true))
  -- Its spelling reads as the entry, whatever follows.
  pub reads : (e : Entry) (rest : List ℕ) → fits e ≡ true → read_entry (spelled e ++ rest) ≡ got e (length (spelled e))
  -- Bytes that read, to the last of them, as the same entry are the same bytes.
  pub one : (bs ds : List ℕ) (e : Entry) → Bytes bs → Bytes ds → read_entry bs ≡ got e (length bs)
      → read_entry ds ≡ got e (length ds) → bs ≡ ds
  -- What `read` finds at a place are the bytes of the entry that it answers, up to the place that it answers.
  pub at_a_place : (bytes : List ℕ) (at : ℕ) → Bytes bytes → (read_at bytes at).found ≡ true
      → (take ((read_at bytes at).next - at) (drop at bytes) ≡ spelled (read_at bytes at).entry)
      × (fits (read_at bytes at).entry ≡ true)
  -- The writer's 24 is for the entries that no bytes read as, and by `reads` and `bytes` for no others.
  pub refused_alike : (bs : List ℕ) (e : Entry) (used : ℕ) → Bytes bs → fits e ≡ false → read_entry bs ≡ got e used → ⊥
  -- A spelling is bytes,
  pub bytes : (e : Entry) → fits e ≡ true → Bytes (spelled e)
  -- 7 + 1 + 5 × 3 of them at most.
  pub short : (e : Entry) → fits e ≡ true → length (spelled e) ≤ 23
