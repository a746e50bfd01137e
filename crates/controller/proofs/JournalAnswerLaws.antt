-- Paper 02, 1/14, over the code's own calls (specs/Journal.antt): what a list of answers tells is what is read off the
-- machine's list of those calls. Assumes nothing.
use Prim.Native.Nat.{ℕ, ◌+◌, ◌<◌}
use mathlib.Core.Bool.{true, false, cond, ◌||◌}
use mathlib.Core.List.{List, [], ◌∷◌}
use mathlib.Core.Path.{◌≡◌, refl, sym, ap, subst, ◌∙◌}
use native.Mathlib.Omega.{arith}
use lib.Dec.{eqb}
use lib.IntN.{pos, ◌+ℤ◌, +ℤ_idr}
use Rattle.laws.specs.Bits.{weight}
use Rattle.receiver.specs.Receiver.{before_end}
use Rattle.journal.specs.declared.Entry.{Entry}
use Rattle.journal.specs.Entries.{fits}
use Rattle.machine.specs.Entries.{EntryAnswer, no_entry, entry}
use Rattle.machine.specs.Steps.{Outcome, tick_step}
use Rattle.machine.specs.Calls as calls
use Rattle.machine.specs.Calls.{Call, state, buffer, bytes}
use Rattle.machine.specs.Roles.{begins, carries_by, is_taken, role_by, start_by}
use Rattle.machine.specs.List.{effect, start_or_carry, paused, master, ends, whole}
use Rattle.machine.specs.Journal.{ticks_since, moved, move_entry, latest_entry}
use Rattle.machine.proofs.FitLaws.{fits as in_range_lem}
use Rattle.machine.proofs.ListLaws.{told}
use Rattle.machine.proofs.TakenLaws.{journal_is}
use Rattle.controller.specs.declared.state.PowerOn.{PowerOn}
use Rattle.controller.specs.Held.{is_end, held_entry}
use Rattle.controller.specs.Answers.{
  Answered,
  byte,
  tick,
  stretch,
  Follows,
  calls_of,
  after_bytes,
}
use Rattle.controller.specs.Journal.{told_in, latest_entry_in, ticks_in, moved_in, move_entry_in, JournalAnswers}
use Rattle.controller.proofs.AnswerLaws.{last_held, pulse_held, count_held, each_same}
use Rattle.controller.proofs.GatherLaws.{gathers, by_characters}

-- A character adds no tick and to no sum.
ticks_before : (s b : ℕ) (h : List Call) → eqb b 13 ≡ false → ticks_since s (calls.byte b buffer ∷ h) ≡ ticks_since s h
unfolding ticks_since
ticks_before s b h e =
    ap (λ (o : Outcome). cond (carries_by (role_by o) || begins (start_by (paused s h) (role_by o))) 0 (ticks_since s h) + 0)
    (gathers (state s h) b e)
    ∙ omega arith

moved_before : (s k b : ℕ) (h : List Call) → eqb b 13 ≡ false → moved s (calls.byte b buffer ∷ h) k ≡ moved s h k
unfolding moved
moved_before s k b h e =
    ap (λ (o : Outcome). cond (begins (start_by (paused s h) (role_by o))) (pos 0) (moved s h k) +ℤ pos 0)
    (gathers (state s h) b e)
    ∙ +ℤ_idr (moved s h k)

ticks_held : (s : ℕ) (l : List Answered) → ticks_in s l ≡ ticks_since s (calls_of l)
unfolding ticks_in ticks_since
ticks_held s [] = refl
ticks_held s (byte b before exit r ∷ l) =
    ap (cond (start_or_carry s (calls_of l) (calls.byte b before)) 0) (ticks_held s l) ∙ omega arith
ticks_held s (tick w before exit r ∷ l) =
    λ i. cond (begins (effect s (calls_of l) (calls.tick w before))) 0 (ticks_held s l i)
    + weight (is_taken (calls.tick w before)) 1
ticks_held s (stretch bs r ∷ l) =
    ticks_held s l ∙ sym (by_characters (λ (x : List Call). ticks_since s x) (ticks_before s) bs (calls_of l))

moved_held : (s : ℕ) (p : PowerOn) (l : List Answered) → Follows s p l → (k : ℕ) → k < 5
    → moved_in s l k ≡ moved s (calls_of l) k
unfolding moved_in moved
moved_held s p [] f k h = refl
moved_held s p (byte b before exit r ∷ l) f k h =
    ap (cond (begins (effect s (calls_of l) (calls.byte b before))) (pos 0)) (moved_held s p l f.0 k h)
    ∙ sym (+ℤ_idr (cond (begins (effect s (calls_of l) (calls.byte b before))) (pos 0) (moved s (calls_of l) k)))
moved_held s p (tick w before exit r ∷ l) f k h =
    λ i. cond (begins (effect s (calls_of l) (calls.tick w before))) (pos 0) (moved_held s p l f.0 k h i)
    +ℤ pulse_held s p w before exit r l f k h i
moved_held s p (stretch bs r ∷ l) f k h =
    moved_held s p l f.0 k h
    ∙ sym (by_characters (λ (x : List Call). moved s x k) (moved_before s k) bs (calls_of l))

-- A list that ends with bytes answers no entry.
entry_bytes : (s : ℕ) (bs : List ℕ) (h : List Call) → latest_entry s h ≡ no_entry → latest_entry s (bytes bs h) ≡ no_entry
unfolding latest_entry
entry_bytes s [] h e = e
entry_bytes s (b ∷ bs) h e = entry_bytes s bs (calls.byte b buffer ∷ h) refl

entry_after : (s : ℕ) (bs : List ℕ) (h : List Call)
    → after_bytes no_entry bs (latest_entry s h) ≡ latest_entry s (bytes bs h)
unfolding latest_entry
entry_after s [] h = refl
entry_after s (b ∷ bs) h = sym (entry_bytes s bs (calls.byte b buffer ∷ h) refl)

-- A flag and an entry tell what they hold.
told_back : (x : EntryAnswer) → cond (is_end x) (entry (held_entry x)) no_entry ≡ x
told_back no_entry = refl
told_back (entry e) = refl

latest_held : (s : ℕ) (p : PowerOn) (l : List Answered) → Follows s p l → latest_entry_in l ≡ latest_entry s (calls_of l)
unfolding latest_entry_in latest_entry
latest_held s p [] f = refl
latest_held s p (byte b before exit r ∷ l) f = refl
latest_held s p (tick w before exit r ∷ l) f =
    ap told_in (f.1.0 s (calls_of l) (last_held s p l f.0))
    ∙ told_back (tick_step (state s (calls_of l)) w before).entry
latest_held s p (stretch bs r ∷ l) f =
    ap (after_bytes no_entry (before_end bs)) (latest_held s p l f.0) ∙ entry_after s (before_end bs) (calls_of l)

-- The entry that is read off the answers is that of the machine's list.
entry_held : (s : ℕ) (p : PowerOn) (l : List Answered) → Follows s p l → move_entry s (calls_of l) ≡ move_entry_in s l
entry_held s p l f = λ i. record {
  ticks = sym (ticks_held s l) i;
  cause = cond (eqb (sym (count_held s p l f (master s (calls_of l)) small) i) (whole s (calls_of l))) 0 1;
  travels = each_same (moved s (calls_of l)) (moved_in s l) (λ k h. sym (moved_held s p l f k h)) i;
}
  where
    small : master s (calls_of l) < 5
    small = subst (λ (j : ℕ). j < 5) (told s (calls_of l)).masters (in_range_lem s (calls_of l)).move.master

pub journal_answers : JournalAnswers
journal_answers s p l f = record {
  answered = latest_held s p l f
      ∙ ((journal_is s (calls_of l)).answered
      ∙ ap (λ (e : Entry). cond (ends s (calls_of l)) (entry e) no_entry) (entry_held s p l f));
  taken = λ q. subst (λ (e : Entry). fits e ≡ true) (entry_held s p l f) ((journal_is s (calls_of l)).taken q);
}
