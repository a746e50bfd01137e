-- What the latest call of a list answers: the entry of the move that it ends, or none. Assumes nothing.
use Prim.Native.Nat.{ℕ, ◌+◌, ◌<◌}
use mathlib.Core.Bool.{Bool, true, false, cond, not, ◌&&◌, ◌||◌}
use mathlib.Core.List.{List, [], ◌∷◌}
use mathlib.Core.Path.{◌≡◌, refl, sym, ap, subst, ◌∙◌}
use native.Mathlib.Omega.{arith}
use lib.Dec.{eqb}
use Rattle.laws.specs.Axes.{directed}
use Rattle.laws.specs.Bits.{weight}
use Rattle.laws.proofs.Tests.{true_false, both}
use Rattle.journal.specs.declared.Entry.{Entry}
use Rattle.machine.specs.State.{Pause}
use Rattle.machine.specs.Shares as shares
use Rattle.machine.specs.Entries.{no_entry, entry, entry_of}
use Rattle.machine.specs.Steps.{tick_step}
use Rattle.machine.specs.Calls.{Call, byte, tick, after, run, state}
use Rattle.machine.specs.Roles.{begins, is_taken, takes_effect}
use Rattle.machine.specs.List.{effect, start_or_carry, master, counted, ends}
use Rattle.machine.specs.Journal.{ticks_since, moved, move_entry}
use Rattle.machine.proofs.BitLaws.{status_moving}
use Rattle.machine.proofs.EntryLaws.{Entered, entered_tick}
use Rattle.machine.proofs.FitLaws.{fits as in_range_lem}
use Rattle.machine.proofs.Told.{Told, called_on}
use Rattle.machine.proofs.ListLaws.{told}
use Rattle.machine.proofs.DemandLaws.{same_whole}
use Rattle.machine.proofs.MovedLaws.{moved_is}

-- ---- Ticks

-- The ticks of a move that runs or begins, after one call more.
next_ticks : (B R : Bool) (n o w : ℕ) → B || R ≡ true → (R ≡ true → n ≡ o) → cond B 0 n + w ≡ cond B 0 o + w
next_ticks true R n o w q e = refl
next_ticks false R n o w q e = ap (λ (x : ℕ). x + w) (e q)

-- What a tick does after the list, the start that it tries being the one that the list stored.
pub entered_on : (s : ℕ) (h : List Call) (w : ℕ) (d : List ℕ)
    → Entered (state s h) (effect s h (tick w d)) (weight (is_taken (tick w d)) 1) (tick_step (state s h) w d).entry
    (after (state s h) (tick w d))
entered_on s h w d =
    subst
    (λ (p : Pause). Entered (state s h) (takes_effect (state s h) p (tick w d)) (weight (is_taken (tick w d)) 1)
    (tick_step (state s h) w d).entry (after (state s h) (tick w d)))
    (told s h).pause (entered_tick (state s h) w d (told s h).good)

-- What a call adds to them.
pub adds : (s : ℕ) (h : List Call) (x : Call) → start_or_carry s h x || (state s h).move.moving ≡ true
    → (after (state s h) x).move.ticks ≡ cond (start_or_carry s h x) 0 (state s h).move.ticks + weight (is_taken x) 1
adds s h (byte b buffer) q = (called_on s h (byte b buffer) (told s h)).ticks refl ∙ omega arith
adds s h (tick w d) q = (entered_on s h w d).ticks q

-- A running move's ticks are those of the list.
pub ticks_run : (s : ℕ) (h : List Call) → (state s h).move.moving ≡ true → (state s h).move.ticks ≡ ticks_since s h
unfolding run ticks_since
ticks_run s [] r = true_false false r refl
ticks_run s (x ∷ h) r =
    let q = (both _ _ (sym (called_on s h x (told s h)).goes ∙ r)).0 in
    adds s h x q ∙ next_ticks (start_or_carry s h x) (state s h).move.moving _ _ _ q (ticks_run s h)

-- So are those of a move that a call ends.
pub ticks_next : (s : ℕ) (h : List Call) (x : Call) → start_or_carry s h x || (state s h).move.moving ≡ true
    → (after (state s h) x).move.ticks ≡ ticks_since s (x ∷ h)
unfolding ticks_since
ticks_next s h x q =
    adds s h x q ∙ next_ticks (start_or_carry s h x) (state s h).move.moving _ _ _ q (ticks_run s h)

-- ---- The entry

-- The tick w ends a move that ran or began in it.
abbrev pub ending : ℕ → List Call → ℕ → List ℕ → Bool
ending s h w d =
    (begins (effect s h (tick w d)) || (state s h).move.moving) && not (after (state s h) (tick w d)).move.moving

pub ending_is : (s : ℕ) (h : List Call) (w : ℕ) (d : List ℕ) → ending s h w d ≡ ends s (tick w d ∷ h)
unfolding run ends
ending_is s h w d i =
    (begins (effect s h (tick w d)) || (told s h).goes i)
    && not (sym (status_moving (after (state s h) (tick w d))) i)

-- m is the number of the master's answers that are not 0.
pub counted_gone : (s : ℕ) (h : List Call) → shares.gone (state s h).move ≡ counted s h (master s h)
counted_gone s h =
    let u = told s h in
    ap (λ (j : ℕ). (state s h).move.travel j) u.masters
    ∙ u.counts (master s h) (subst (λ (j : ℕ). j < 5) u.masters (in_range_lem s h).move.master)

-- A list's entry is that of its machine, if the ticks are.
entry_is : (s : ℕ) (h : List Call) → (state s h).move.ticks ≡ ticks_since s h → entry_of (state s h).move ≡ move_entry s h
entry_is s h t i = record {
  ticks = t i;
  cause = cond (eqb (counted_gone s h i) (same_whole s h u i)) 0 1;
  travels = way 0 (omega arith) i ∷ way 1 (omega arith) i ∷ way 2 (omega arith) i ∷ way 3 (omega arith) i
      ∷ way 4 (omega arith) i ∷ [];
}
  where
    u : Told s h
    u = told s h

    way : (k : ℕ) → k < 5 → directed ((state s h).move.plan.minus k) ((state s h).move.travel k) ≡ moved s h k
    way k l = (λ j. directed (u.minuses k j) (u.counts k l j)) ∙ sym (moved_is s h k l)

told_if : (t : Bool) (x y : Entry) → (t ≡ true → x ≡ y) → cond t (entry x) no_entry ≡ cond t (entry y) no_entry
told_if true x y e = ap entry (e refl)
told_if false x y e = refl

pub answered_tick : (s : ℕ) (h : List Call) (w : ℕ) (d : List ℕ)
    → (tick_step (state s h) w d).entry ≡ cond (ends s (tick w d ∷ h)) (entry (move_entry s (tick w d ∷ h))) no_entry
unfolding run
answered_tick s h w d =
    (entered_on s h w d).entry
    ∙ (told_if (ending s h w d) _ _ (λ q. entry_is s (tick w d ∷ h) (ticks_next s h (tick w d) (both _ _ q).0))
    ∙ ap (λ (b : Bool). cond b (entry (move_entry s (tick w d ∷ h))) no_entry) (ending_is s h w d))
