-- One call that is not turned away, begins no stop and no foreign move: a tick, a character of a line, and the 0D of a
-- line with one of the converter's commands. Assumes nothing.
use Rattle.receiver.specs.declared.Line.{Line}
use Rattle.line.specs.Line.{accepting}
use Rattle.std.proofs.Common.{Option, Some, None}
use Prim.Native.Nat.{ℕ}
use mathlib.Core.Bool.{Bool, true, false, cond, not, false≢true}
use mathlib.Core.List.{List, [], ◌∷◌, ◌++◌}
use mathlib.Core.Path.{◌≡◌, refl, sym, ap, subst, ◌∙◌}
use borrow.Author.Tests.{eqb-true, not-false}
use lib.Dec.{eqb}
use lib.IntN.{pos}
use Rattle.digits.specs.Digits.{end_byte}
use Rattle.line.specs.declared.command.Command.{Command}
use Rattle.receiver.specs.Receiver.{Receipt, heard_line, receive, line_heard}
use Rattle.machine.specs.State.{Machine}
use Rattle.machine.specs.Commands.{number}
use Rattle.machine.specs.Steps.{Outcome, untaken, gathered, refused, accepted, outcome_of, outcome, answered, is_short}
use Rattle.machine.specs.Calls.{Call, byte, tick, run, state}
use Rattle.machine.specs.Roles.{role_by, start_by, stops_in}
use Rattle.machine.specs.List.{paused}
use Rattle.machine.specs.Identified.{received}
use Rattle.machine.proofs.CalledLaws.{Called}
use Rattle.machine.proofs.FitLaws.{fits}
use Rattle.machine.proofs.IdentifiedLaws.{received_is}
use Rattle.machine.proofs.ListLaws.{told}
use Rattle.machine.proofs.Told.{called_on}
use Rattle.station.specs.Executed.{is_refused, is_foreign}
use Rattle.station.proofs.CommandLaws.{is_plain, planned, added, Unstopped, Leaves, idles, obeys}

abbrev is_line : Option Line → Bool
is_line None = false
is_line (Some line) = true

-- What the receiver makes of a byte, by whether it is 0D.
abbrev receipt_by : List ℕ → ℕ → Bool → Receipt
receipt_by l b t =
    cond t (record { line = []; heard = heard_line l }) (record { line = l ++ (b ∷ []); heard = None })

-- What is said of a call x after h.
pub record Undisturbed (s : ℕ) (h : List Call) (x : Call) : Type 0 where
  pub taken : is_refused s h x ≡ false
  pub unstopped : stops_in (state s h) x ≡ false
  pub own : is_foreign s h x ≡ false

-- ---- A tick

pub ticked : (s : ℕ) (h : List Call) (w : ℕ) (d : List ℕ) → Undisturbed s h (tick w d) → Unstopped (state s h)
    → Leaves (state s h) (state s (tick w d ∷ h)) (state s h).next (λ k. pos 0)
unfolding run
ticked s h w d e u =
    idles (state s h) (state s (tick w d ∷ h)) _ _ _ _ _ (called_on s h (tick w d) (told s h))
    (fits s (tick w d ∷ h)).move.within refl refl e.unstopped u e.own

-- ---- A byte

-- One that is answered by 0 is taken.
lent : (m : Machine) (b : ℕ) (o : Outcome) (short : Bool)
    → not (eqb (answered m b (cond short untaken o)).number 0) ≡ false → short ≡ false
lent m b o true e = e
lent m b o false e = refl

module _ (s : ℕ) (h : List Call) (b : ℕ) (d : List ℕ) (e : Undisturbed s h (byte b d)) where
  pub long : is_short d ≡ false
  long = lent (state s h) b (outcome_of (state s h) (receive (state s h).line b).heard) (is_short d) e.taken

  -- What it is by what the receiver hears.
  heard_as : (x : Option Line) → (receive (state s h).line b).heard ≡ x → outcome (state s h) b d ≡ outcome_of (state s h) x
  heard_as x q = (λ i. cond (long i) untaken (outcome_of (state s h) (q i)))

  called_as : (o : Outcome) → outcome (state s h) b d ≡ o
      → Called (state s h) (role_by o) (start_by (paused s h) (role_by o)) (stops_in (state s h) (byte b d)) false
      (λ k. pos 0) (state s (byte b d ∷ h))
  unfolding run
  called_as o q =
      subst (λ (x : Outcome). Called (state s h) (role_by x) (start_by (paused s h) (role_by x))
      (stops_in (state s h) (byte b d)) false (λ k. pos 0) (state s (byte b d ∷ h))) q
      (called_on s h (byte b d) (told s h))

  -- The characters after it.
  pub next_line : (state s (byte b d ∷ h)).line ≡ (receive (state s h).line b).line
  unfolding received
  next_line =
      received_is s (byte b d ∷ h)
      ∙ ((λ i. cond (long i) (received h) (cond (eqb b end_byte) [] (received h ++ (b ∷ []))))
      ∙ (ap (λ (l : List ℕ). cond (eqb b end_byte) [] (l ++ (b ∷ []))) (sym (received_is s h))
      ∙ joins (eqb b end_byte)))
    where
      joins : (t : Bool) → cond t [] ((state s h).line ++ (b ∷ []))
          ≡ (receipt_by (state s h).line b t).line
      joins true = refl
      joins false = refl

  -- A character.
  pub gathers : (receive (state s h).line b).heard ≡ None → Unstopped (state s h)
      → Leaves (state s h) (state s (byte b d ∷ h)) (state s h).next (λ k. pos 0)
  gathers q u =
      idles (state s h) (state s (byte b d ∷ h)) _ _ _ _ _ (called_as gathered (heard_as None q))
      (fits s (byte b d ∷ h)).move.within refl refl e.unstopped u refl

  -- The end of a line: no number turns its command away.
  module _ (silent : Bool) (ident : Option ℕ) (c : Command) (digits : ℕ)
      (q : (receive (state s h).line b).heard ≡ line_heard silent ident (accepting c digits)) where
    no_number : number (state s h) c ≡ 0
    no_number = by_test (eqb (number (state s h) c) 0) refl
        (ap (λ (o : Outcome). not (eqb (answered (state s h) b o).number 0)) (sym (heard_as _ q)) ∙ e.taken)
      where
        by_test : (t : Bool) → eqb (number (state s h) c) 0 ≡ t
            → not (eqb (answered (state s h) b (cond t (accepted c digits silent ident)
            (refused (number (state s h) c) silent ident))).number 0) ≡ false
            → number (state s h) c ≡ 0
        by_test true t f = eqb-true (number (state s h) c) 0 t
        by_test false t f = eqb-true (number (state s h) c) 0 (not-false (eqb (number (state s h) c) 0) f)

    is_accepted : outcome (state s h) b d ≡ accepted c digits silent ident
    is_accepted =
        heard_as _ q
        ∙ (λ i. cond (eqb (no_number i) 0) (accepted c digits silent ident) (refused (no_number i) silent ident))

    pub ends : is_plain c ≡ true → Unstopped (state s h)
        → Leaves (state s h) (state s (byte b d ∷ h)) (planned c (state s h).next) (added c (state s h).next)
    ends p u =
        obeys (state s h) (state s (byte b d ∷ h)) (paused s h) c (stops_in (state s h) (byte b d)) p no_number
        e.unstopped u (fits s (byte b d ∷ h)).move.within (called_as _ is_accepted)

    -- No character stays.
    pub no_line : (state s (byte b d ∷ h)).line ≡ []
    no_line = next_line ∙ by_end (eqb b end_byte) q
      where
        by_end : (t : Bool)
            → (receipt_by (state s h).line b t).heard ≡ line_heard silent ident (accepting c digits)
            → (receipt_by (state s h).line b t).line ≡ []
        by_end true f = refl
        by_end false f = absurd (false≢true (ap is_line f))
