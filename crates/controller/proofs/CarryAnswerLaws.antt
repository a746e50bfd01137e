-- Carry-ons over the code's own calls (specs/Carry.antt): what is read off the answers is what the machine's list has.
-- Assumes nothing.
use Prim.Native.Nat.{ℕ, ◌-◌, ◌<◌}
use mathlib.Core.Bool.{Bool, false, cond, not, ◌&&◌, ◌||◌}
use mathlib.Core.List.{List, [], ◌∷◌}
use mathlib.Core.Path.{◌≡◌, refl, sym, ap, subst, ◌∙◌}
use lib.Dec.{ltb, eqb}
use lib.IntN.{◌+ℤ◌}
use Rattle.laws.specs.Axes.{some, directed}
use Rattle.laws.specs.Bits.{bit}
use Rattle.laws.proofs.Some.{some_same}
use Rattle.block.specs.Block.{over}
use Rattle.inputs.specs.Inputs.{blocked_at}
use Rattle.machine.specs.Stops.{blocked, sensor_active, status}
use Rattle.machine.specs.Starts.{turned_by, outside}
use Rattle.machine.specs.Steps.{Outcome}
use Rattle.machine.specs.Calls as calls
use Rattle.machine.specs.Calls.{Call, state, buffer}
use Rattle.machine.specs.Roles.{line_of, role_by, start_by, begins, carries_by, sets_distance}
use Rattle.machine.specs.List.{start_or_carry, distance, minus, master, paused, stop_begun, goes_on, ends, whole}
use Rattle.machine.specs.Settle.{switch_of}
use Rattle.machine.specs.Carry.{stopped_short, open_after, final_after, carry_number_after, carry_reply}
use Rattle.machine.proofs.CarryLaws.{carry_on_lem}
use Rattle.machine.proofs.FitLaws.{fits as in_range_lem}
use Rattle.machine.proofs.ListLaws.{told}
use Rattle.controller.specs.declared.state.PowerOn.{PowerOn}
use Rattle.controller.specs.declared.state.ByteAnswer.{ByteAnswer}
use Rattle.controller.specs.Answers.{Answered, byte, tick, stretch, Follows, calls_of}
use Rattle.controller.specs.Carry.{short_in, open_in, final_in, carry_number_in, CarryAnswers}
use Rattle.controller.proofs.AnswerLaws.{last_held, count_held, sum_held}
use Rattle.controller.proofs.GatherLaws.{gathers, by_characters}

-- A character leaves a stopped move as it was.
short_before : (s b : ℕ) (h : List Call) → eqb b 13 ≡ false
    → stopped_short s (calls.byte b buffer ∷ h) ≡ stopped_short s h
unfolding stopped_short ends
short_before s b h e =
    ap (λ (o : Outcome). not (sets_distance (role_by o))
    && (not (carries_by (role_by o) || begins (start_by (paused s h) (role_by o))) && stopped_short s h))
    (gathers (state s h) b e)

short_held : (s : ℕ) (p : PowerOn) (l : List Answered) → Follows s p l → short_in s l ≡ stopped_short s (calls_of l)
unfolding short_in stopped_short ends
short_held s p [] f = refl
short_held s p (byte b before exit r ∷ l) f =
    ap (λ (t : Bool). not (sets_distance (line_of (state s (calls_of l)) (calls.byte b before)))
    && (not (start_or_carry s (calls_of l) (calls.byte b before)) && t)) (short_held s p l f.0)
short_held s p (tick w before exit r ∷ l) f =
    let h = calls.tick w before ∷ calls_of l in
    let small = subst (λ (j : ℕ). j < 5) (told s h).masters (in_range_lem s h).move.master in
    λ i. cond (ends s h)
    (stop_begun s h && ltb (count_held s p (tick w before exit r ∷ l) f (master s h) small i) (whole s h))
    (not (start_or_carry s (calls_of l) (calls.tick w before)) && short_held s p l f.0 i)
short_held s p (stretch bs r ∷ l) f =
    short_held s p l f.0 ∙ sym (by_characters (stopped_short s) (short_before s) bs (calls_of l))

-- What is open and the final positions, by the answers.
module _ (s : ℕ) (p : PowerOn) (l : List Answered) (f : Follows s p l) where
  open_held : (k : ℕ) → k < 5 → (open_after s (calls_of l)).distance k ≡ (open_in s l).distance k
  open_held k h i = distance s (calls_of l) k - sym (count_held s p l f k h) i

  barred : blocked (state s (calls_of l)) (open_after s (calls_of l)) ≡ blocked (state s (calls_of l)) (open_in s l)
  barred =
      let m = state s (calls_of l) in
      some_same _ _ (λ k h i. blocked_at m.settings.low_on m.settings.high_on m.inputs (open_held k h i)
      (minus s (calls_of l) k) k)

  out : some (λ k. outside (final_after s (calls_of l) k)) ≡ some (λ k. outside (final_in s l k))
  out =
      some_same _ _ (λ k h i. outside (sym (sum_held s p l f k h) i
      +ℤ directed (minus s (calls_of l) k) (open_held k h i)))

  number_held : carry_number_after s (calls_of l) ≡ carry_number_in s l
  number_held = λ i.
      turned_by 11 (goes_on s (calls_of l))
      (turned_by 26 (not (sym (short_held s p l f) i))
      (turned_by 12 (bit (status (state s (calls_of l))) 5)
      (turned_by 13 (sensor_active (state s (calls_of l)))
      (turned_by 16 (barred i)
      (turned_by 17 (out i)
      0)))))

pub carry_answers : CarryAnswers
carry_answers s p l b before exit r f c =
    let e = last_held s p l f.0 in
    let q = carry_on_lem s (calls_of l) b before c in
    record {
      number = ap (λ (a : ByteAnswer). a.number) (f.1.0 s (calls_of l) e)
          ∙ (q.number ∙ number_held s p l f.0);
      reply = f.1.1.0 s (calls_of l) e
          ∙ (ap (λ (x : List ℕ). over x before) q.reply
          ∙ ap (λ (n : ℕ). over (cond c.silent [] (carry_reply (switch_of s) n c.digits c.ident)) before)
          (number_held s p l f.0));
    }
