-- The bench itself, after calls that leave no half-received line, comes to what a trial tells. Assumes nothing.
use Prim.Native.Nat.{ℕ, suc, ◌≤◌, ◌<◌}
use native.Mathlib.Omega.{arith}
use mathlib.Core.Bool.{Bool, true, false, cond}
use mathlib.Core.List.{List, [], ◌∷◌, map}
use mathlib.Core.Path.{◌≡◌, refl, sym, ap, ◌∙◌}
use borrow.Author.Tests.{eqb-true, eqb-false}
use lib.Dec.{ltb, eqb}
use Rattle.laws.specs.Axes.{each}
use Rattle.laws.proofs.Pick.{by_bool}
use Rattle.digits.specs.Digits.{end_byte}
use Rattle.journal.specs.declared.Entry.{Entry}
use Rattle.reply.specs.declared.readings.Travel.{Travel}
use Rattle.machine.specs.State.{Machine, with_line}
use Rattle.machine.specs.Entries.{no_entry, entry}
use Rattle.machine.specs.Replies.{travel_of, position_of}
use Rattle.machine.specs.Steps.{byte_step, too_large, tick_step}
use Rattle.machine.specs.Calls.{Call, byte, run, state, from, buffer, bytes, ticks}
use Rattle.machine.specs.List.{ends}
use Rattle.machine.specs.Journal.{move_entry, latest_entry}
use Rattle.machine.proofs.AsideLaws.{unlined, unlined_is}
use Rattle.machine.proofs.LentLaws.{ticks_on}
use Rattle.machine.proofs.TakenLaws.{journal_is}
use Rattle.controller.specs.Held.{is_end}
use Rattle.controller.proofs.GatherLaws.{stretch_on}
use Rattle.trial.specs.declared.Trial.{Trial}
use Rattle.trial.specs.Trial.{aside, start_line, start_answer, after_ticks, ends_next, run_of, trial_of}
use Rattle.trial.specs.Promises.{doing, Done, OnTheBench}
use Rattle.trial.proofs.TrialLaws.{characters, by_start, by_run}
use Rattle.trial.proofs.EndLaws.{first_end}

-- A trial with no number is that of the ticks.
shows : (m : Machine) (k w n : ℕ) → (trial_of m k w n).number ≡ 0 → trial_of m k w n ≡ run_of (start_answer m k).machine w n
shows m k w n =
    by_bool P (too_large w) _ _ (λ e q. absurd (omega (arith, q)))
    (λ e. by_bool P (ltb 1000000 n) _ _ (λ f q. absurd (omega (arith, q)))
    (λ f. by_bool P (ltb 4 k) _ _ (λ g q. absurd (omega (arith, q)))
    (λ g. by_bool P (eqb (start_answer m k).number 0) _ _ (λ h q. refl)
    (λ h q. absurd (eqb-false (start_answer m k).number 0 h q)))))
  where
    P : Trial → Type 0
    P t = t.number ≡ 0 → t ≡ run_of (start_answer m k).machine w n

-- Whether there is an entry, of one that a test decides.
is_end_lem : (t : Bool) (e : Entry) → is_end (cond t (entry e) no_entry) ≡ t
is_end_lem true e = refl
is_end_lem false e = refl

module _ (s : ℕ) (h g : List Call) (copy : state s g ≡ aside (state s h)) (k : ℕ) where
  typed : state s (bytes (start_line k) g) ≡ from (aside (state s h)) (bytes (start_line k) [])
  typed =
      ap (λ (l : List ℕ). state s (bytes l g)) (sym (characters k))
      ∙ (stretch_on s g (start_line k)
      ∙ (λ i. from (copy i) (bytes (characters k i) [])))

  start_on : state s (byte end_byte buffer ∷ bytes (start_line k) g) ≡ (start_answer (state s h) k).machine
  unfolding run
  start_on = ap (λ (m : Machine). (byte_step m end_byte buffer).machine) typed

  turned_on : (w n : ℕ) → w ≤ 16777215 → n ≤ 1000000 → k < 5
      → (trial_of (state s h) k w n).number ≡ (byte_step (state s (bytes (start_line k) g)) end_byte buffer).number
  turned_on w n p q r =
      by_bool (λ (t : Bool). P) (eqb (start_answer (state s h) k).number 0) true false ran off
      ∙ ap (λ (m : Machine). (byte_step m end_byte buffer).number) (sym typed)
    where
      P : Type 0
      P = (trial_of (state s h) k w n).number ≡ (start_answer (state s h) k).number

      ran : eqb (start_answer (state s h) k).number 0 ≡ true → P
      ran e =
          let z = eqb-true (start_answer (state s h) k).number 0 e in
          sym (ap (λ (t : Trial). t.number) (by_run (state s h) k w n p q (omega (arith, r)) z)) ∙ sym z

      off : eqb (start_answer (state s h) k).number 0 ≡ false → P
      off e =
          sym (ap (λ (t : Trial). t.number)
          (by_start (state s h) k w n p q (omega (arith, r)) (eqb-false (start_answer (state s h) k).number 0 e)))

  module _ (w n : ℕ) where
    ticked_on : (i : ℕ) → state s (doing k w i g) ≡ after_ticks (start_answer (state s h) k).machine w i
    ticked_on i =
        ticks_on s w (byte end_byte buffer ∷ bytes (start_line k) g) i
        ∙ ap (λ (m : Machine). from m (ticks i w [])) start_on

    abbrev begun : Machine
    begun = (start_answer (state s h) k).machine

    ends_on : (i : ℕ) → ends s (doing k w (suc i) g) ≡ ends_next begun w i
    unfolding latest_entry
    ends_on i =
        sym (is_end_lem (ends s (doing k w (suc i) g)) (move_entry s (doing k w (suc i) g)))
        ∙ (sym (ap is_end (journal_is s (doing k w (suc i) g)).answered)
        ∙ ap (λ (m : Machine). is_end (tick_step m w buffer).entry) (ticked_on i))

    done : (trial_of (state s h) k w n).number ≡ 0 → Done s g k w n (trial_of (state s h) k w n)
    done q =
        let t = shows (state s h) k w n q in
        record {
          travels =
              ap (λ (x : Trial). map (λ (y : Travel). y.0) x.travels) t
              ∙ ap (λ (m : Machine). each (travel_of m)) (sym (ticked_on n));
          positions =
              ap (λ (x : Trial). x.positions) t ∙ ap (λ (m : Machine). each (position_of m)) (sym (ticked_on n));
          ended = λ i e.
              let r = first_end.told begun w n i (sym (ap (λ (x : Trial). x.end) t) ∙ e) in
              (r.0, ends_on i ∙ r.1);
          first = λ i e j l. ends_on j ∙ first_end.first begun w n i (sym (ap (λ (x : Trial). x.end) t) ∙ e) j l;
          none = λ e j l. ends_on j ∙ first_end.none begun w n (sym (ap (λ (x : Trial). x.end) t) ∙ e) j l;
        }

pub on_the_bench : OnTheBench
on_the_bench = record {
  copy = λ s h. record { calls = unlined h; leave = unlined_is s h };
  itself = λ s h e i. with_line (state s h) (e i);
  turned = λ s h g k w n e p q r. turned_on s h g e k w n p q r;
  done = λ s h g k w n e q. done s h g e k w n q;
}
