-- A stretch of characters, none of which is a line feed or 0D: what the bench is after them, and that they print
-- nothing and have no number. Assumes nothing.
use Rattle.std.proofs.Common.{Option, Some, None}
use Rattle.std.specs.List.{position_or_len}
use Rattle.std.specs.Option.{unwrap_or}
use Rattle.std.proofs.lemmas.List.Recursion.{is_position_or_len}
use Prim.Native.Nat.{ℕ, ◌+◌, ◌<◌}
use native.Mathlib.Omega.{arith}
use mathlib.Core.Bool.{true, false, cond}
use mathlib.Core.List.{List, [], ◌∷◌, ◌++◌, append-nil}
use mathlib.Core.Path.{◌≡◌, refl, sym, ap, subst, ◌∙◌}
use lib.Dec.{ltb, eqb}
use lib.ListN.{length, get_or}
use lib.Seq.{append_snoc}
use Rattle.laws.proofs.Pick.{on_true, on_false, by_bool, by_lt}
use Rattle.receiver.specs.Receiver.{before, before_end}
use Rattle.receiver.proofs.Laws.{before_short}
use Rattle.machine.specs.State.{Machine}
use Rattle.machine.specs.Steps as steps
use Rattle.machine.specs.Calls.{Call, byte, Origin, given, run, from, bytes, buffer}
use Rattle.laws.proofs.Tests.{true_false, neither}
use Rattle.controller.proofs.GatherLaws.{character, run_on}
use Rattle.session.specs.Asked.{letter_t}
use Rattle.session.specs.Session.{
  Place,
  starting,
  sending,
  asking,
  Bench,
  Answer,
  shown,
  sends,
  keeps,
  ended,
  character_at,
  taken,
  held_place,
  kept_in,
}
use Rattle.session.specs.Lines.{after}
use Rattle.session.specs.Stretch.{is_mark, stretch, Silent, keeps_of}

-- ---- Where it ends

marked : (bs : List ℕ) → length (stretch bs) ≡ position_or_len is_mark bs
unfolding before
marked bs =
    is_position_or_len (λ (s : List ℕ). length (stretch s)) is_mark refl
    (λ b s. by_bool (λ (r : List ℕ). length r ≡ cond (is_mark b) 0 (1 + length (stretch s))) (is_mark b) [] (b ∷ stretch s)
    (λ e. rw e) (λ e. rw e (omega arith)))
    bs

-- The place of the first mark, or else the length of the whole.
pub marked_at : (bs : List ℕ) (r : Option ℕ)
    → r ≡ cond (ltb (position_or_len is_mark bs) (length bs)) (Some (position_or_len is_mark bs)) None
    → unwrap_or r (length bs) ≡ length (stretch bs)
marked_at bs r e =
    ap (λ (o : Option ℕ). unwrap_or o (length bs)) e
    ∙ by_lt (λ (o : Option ℕ). unwrap_or o (length bs) ≡ length (stretch bs)) (position_or_len is_mark bs) (length bs) _ _
    (λ h. sym (marked bs))
    (λ h. omega (arith, marked bs, before_short is_mark bs))

-- ---- A byte that is neither

abbrev Untold : Answer → Type 0
Untold a = (a.printed ≡ []) × (a.number ≡ 0)

module _ (b : ℕ) (e : is_mark b ≡ false) where
  no_end : eqb b 13 ≡ false
  no_end = (neither (eqb b 10) (eqb b 13) e).1

  passes : (m : Machine) (p : Place) → taken (record { machine = m; place = p }) b ≡ character_at m p b
  passes m p =
      sym (on_false (eqb b 10) (character_at m p b) (ended (record { machine = m; place = p })) (character_at m p b)
      (neither (eqb b 10) (eqb b 13) e).0 refl)

  sends_nothing : (m : Machine) (p : Place) → Untold (sends m b p)
  sends_nothing m p = (
    ap (λ (a : steps.ByteAnswer). shown a.reply) (character m b no_end),
    ap (λ (a : steps.ByteAnswer). a.number) (character m b no_end),
  )

  tells_nothing : (m : Machine) (p : Place) → Untold (character_at m p b)
  tells_nothing m starting =
      by_bool Untold (eqb b letter_t) (keeps m (b ∷ [])) (sends m b sending) (λ q. (refl, refl))
      (λ q. sends_nothing m sending)
  tells_nothing m sending = sends_nothing m sending
  tells_nothing m (asking l) = (refl, refl)

-- ---- All of them

pub silent : (bs : List ℕ) (x : Bench) → Silent x (stretch bs)
unfolding before
silent [] x = tt
silent (b ∷ bs) x =
    by_bool (Silent x) (is_mark b) [] (b ∷ stretch bs) (λ e. tt)
    (λ e.
    let u = subst Untold (sym (passes b e x.machine x.place)) (tells_nothing b e x.machine x.place) in
    (u.0, (u.1, silent bs (taken x b).bench)))

-- None of them ends a line that goes in.
pub stretch_sent : (bs : List ℕ) → before_end (stretch bs) ≡ stretch bs
unfolding before
stretch_sent [] = refl
stretch_sent (b ∷ bs) =
    by_bool (λ (s : List ℕ). before_end s ≡ s) (is_mark b) [] (b ∷ stretch bs) (λ e. refl)
    (λ e. sym (on_false (eqb b 13) (b ∷ before_end (stretch bs)) [] (b ∷ before_end (stretch bs)) (no_end b e) refl)
    ∙ ap (λ (s : List ℕ). b ∷ s) (stretch_sent bs))

-- In a line whose characters go in.
sent_on : (o : Origin) (bs : List ℕ) (h : List Call)
    → after (record { machine = run o h; place = sending }) (stretch bs)
    ≡ record { machine = run o (bytes (stretch bs) h); place = sending }
unfolding before after
sent_on o [] h = refl
sent_on o (b ∷ bs) h =
    by_bool (λ (s : List ℕ). after (record { machine = run o h; place = sending }) s
    ≡ record { machine = run o (bytes s h); place = sending }) (is_mark b) [] (b ∷ stretch bs)
    (λ e. refl)
    (λ e. ap (λ (a : Answer). after a.bench (stretch bs)) (passes b e (run o h) sending)
    ∙ (ap (λ (m : Machine). after (record { machine = m; place = sending }) (stretch bs))
    (sym (run_on o (byte b buffer) h))
    ∙ sent_on o bs (byte b buffer ∷ h)))

-- In a line that begins with T.
kept_on : (m : Machine) (bs l : List ℕ)
    → after (record { machine = m; place = asking l }) (stretch bs)
    ≡ record { machine = m; place = asking (l ++ stretch bs) }
unfolding before after
kept_on m [] l = ap (λ (k : List ℕ). record { machine = m; place = asking k }) (sym (append-nil l))
kept_on m (b ∷ bs) l =
    by_bool (λ (s : List ℕ). after (record { machine = m; place = asking l }) s
    ≡ record { machine = m; place = asking (l ++ s) }) (is_mark b) [] (b ∷ stretch bs)
    (λ e. ap (λ (k : List ℕ). record { machine = m; place = asking k }) (sym (append-nil l)))
    (λ e. ap (λ (a : Answer). after a.bench (stretch bs)) (passes b e m (asking l))
    ∙ (kept_on m bs (l ++ (b ∷ []))
    ∙ ap (λ (k : List ℕ). record { machine = m; place = asking k }) (append_snoc l b (stretch bs))))

-- ---- From any place on

-- A character that is kept, and one that goes in.
pub kept_passed : (m : Machine) (b : ℕ) (p : Place) → keeps_of (held_place p) b ≡ true
    → character_at m p b ≡ keeps m (kept_in p ++ (b ∷ []))
kept_passed m b starting z = sym (on_true (eqb b letter_t) (keeps m (b ∷ [])) (keeps m (b ∷ [])) (sends m b sending) z refl)
kept_passed m b sending z = true_false false z refl
kept_passed m b (asking l) z = refl

pub sent_passed : (m : Machine) (b : ℕ) (p : Place) → keeps_of (held_place p) b ≡ false
    → character_at m p b ≡ sends m b sending
sent_passed m b starting z = sym (on_false (eqb b letter_t) (sends m b sending) (keeps m (b ∷ [])) (sends m b sending) z refl)
sent_passed m b sending z = refl
sent_passed m b (asking l) z = true_false true refl z

module _ (m : Machine) where
  pub sends_on : (p : Place) (bs : List ℕ) → 0 < length (stretch bs) → keeps_of (held_place p) (get_or bs 0 0) ≡ false
      → after (record { machine = m; place = p }) (stretch bs)
      ≡ record { machine = from m (bytes (stretch bs) []); place = sending }
  unfolding before after run
  sends_on p [] k q = absurd (omega arith)
  sends_on p (b ∷ bs) k q =
      by_bool (λ (s : List ℕ). 0 < length s → after (record { machine = m; place = p }) s
      ≡ record { machine = from m (bytes s []); place = sending }) (is_mark b) [] (b ∷ stretch bs)
      (λ e n. absurd (omega arith))
      (λ e n. ap (λ (a : Answer). after a.bench (stretch bs)) (passes b e m p ∙ sent_passed m b p q)
      ∙ sent_on (given m) bs (byte b buffer ∷ [])) k

  pub keeps_on : (p : Place) (bs : List ℕ) → 0 < length (stretch bs) → keeps_of (held_place p) (get_or bs 0 0) ≡ true
      → after (record { machine = m; place = p }) (stretch bs)
      ≡ record { machine = m; place = asking (kept_in p ++ stretch bs) }
  unfolding before after
  keeps_on p [] k q = absurd (omega arith)
  keeps_on p (b ∷ bs) k q =
      by_bool (λ (s : List ℕ). 0 < length s → after (record { machine = m; place = p }) s
      ≡ record { machine = m; place = asking (kept_in p ++ s) }) (is_mark b) [] (b ∷ stretch bs)
      (λ e n. absurd (omega arith))
      (λ e n. ap (λ (a : Answer). after a.bench (stretch bs)) (passes b e m p ∙ kept_passed m b p q)
      ∙ (kept_on m bs (kept_in p ++ (b ∷ []))
      ∙ ap (λ (l : List ℕ). record { machine = m; place = asking l }) (append_snoc (kept_in p) b (stretch bs)))) k

-- Nothing is kept of a line whose characters go in.
pub none_kept : (p : Place) (b : ℕ) → keeps_of (held_place p) b ≡ false → kept_in p ≡ []
none_kept starting b z = refl
none_kept sending b z = refl
none_kept (asking l) b z = true_false true refl z
