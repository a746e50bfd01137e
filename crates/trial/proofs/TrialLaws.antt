-- The ticks of a trial, one more at a time, and the start before them: what is done on the copy is done in a list of
-- calls. Assumes nothing.
use Prim.Native.Nat.{ℕ, ◌+◌, ◌≤◌, ◌<◌}
use native.Mathlib.Numerals.{add-one}
use native.Mathlib.Omega.{arith}
use mathlib.Core.Bool.{Bool, cond}
use mathlib.Core.List.{List, [], ◌∷◌}
use mathlib.Core.Path.{◌≡◌, refl, sym, ap, ◌∙◌}
use borrow.Author.Tests.{ne_eqb}
use Rattle.laws.proofs.Pick.{on_lt, on_ge, on_eq, on_ne}
use Rattle.digits.specs.Digits.{end_byte}
use Rattle.receiver.specs.Receiver.{before_end, before}
use Rattle.machine.specs.State.{Machine, with_line}
use Rattle.machine.specs.Steps.{byte_step, tick_step}
use Rattle.machine.specs.Calls.{Call, byte, run, state, from, buffer, bytes, ticks}
use Rattle.machine.proofs.AsideLaws.{unlined, unlined_is}
use Rattle.machine.proofs.LentLaws.{ticks_on}
use Rattle.controller.specs.declared.state.Controller.{Controller}
use Rattle.controller.specs.declared.state.ByteAnswer.{ByteAnswer}
use Rattle.controller.specs.declared.state.Gathered.{Gathered}
use Rattle.controller.specs.Held.{held, held_byte, held_gathered}
use Rattle.controller.specs.Reach.{Reachable, Made}
use Rattle.controller.proofs.GatherLaws.{stretch_on, after_stretch}
use Rattle.trial.specs.declared.ticking.Ticked.{Ticked}
use Rattle.trial.specs.Trial.{aside, start_line, start_answer, end_of, turned, run_of, trial_of}
use Rattle.trial.specs.Ticking.{ticked_of, ran_of}

-- ---- Ticks

module _ (c : Controller) (w : ℕ) where
  -- n ticks after every list that leaves c.
  abbrev pub Ran : ℕ → Ticked → Type 0
  Ran n r = Made c (λ m. r ≡ ran_of m w n)

  pub none_ran : Ran 0 (record { controller = c; end = 0 })
  unfolding run end_of
  none_ran s h e = λ i. record { controller = sym e i; end = 0 }

  -- They are calls of a list.
  pub ran_held : (s : ℕ) (h : List Call) (n : ℕ) (r : Ticked) → r ≡ ran_of (state s h) w n
      → held (state s (ticks n w h)) ≡ r.controller
  ran_held s h n r p = ap held (ticks_on s w h n) ∙ sym (ap (λ (x : Ticked). x.controller) p)

  pub ran_reached : (n : ℕ) (r : Ticked) → Reachable c → Ran n r → Reachable r.controller
  ran_reached n r q p = record {
    switch = q.switch;
    history = ticks n w q.history;
    made = ran_held q.switch q.history n r (p q.switch q.history q.made);
  }

  pub next_ran : (n : ℕ) (r next : Ticked) → Ran n r
      → Made r.controller (λ m. next ≡ ticked_of r.end (n + 1) (tick_step m w buffer)) → Ran (n + 1) next
  unfolding run end_of
  next_ran n r next p q s h e =
      rw (add-one n)
      (q s (ticks n w h) (ran_held s h n r (p s h e))
      ∙ (λ i. ticked_of (p s h e i).end (add-one n i) (tick_step (ticks_on s w h n i) w buffer)))

-- ---- The start

-- Its line has no 0D in it.
pub characters : (k : ℕ) → before_end (start_line k) ≡ start_line k
unfolding before
characters k =
    ap (λ (t : Bool). 81 ∷ 48 ∷ 56 ∷ cond t [] ((48 + k) ∷ []))
    (ne_eqb (48 + k) 13 (λ (q : 48 + k ≡ 13). omega (arith, q)))

module _ (s : ℕ) (h : List Call) (k : ℕ) where
  -- The calls that leave the copy as it is before the 0D, and after it.
  abbrev typed : List Call
  typed = bytes (start_line k) (unlined h)

  abbrev pub start_calls : List Call
  start_calls = byte end_byte buffer ∷ typed

  copied : state s typed ≡ from (aside (state s h)) (bytes (start_line k) [])
  copied =
      ap (λ (l : List ℕ). state s (bytes l (unlined h))) (sym (characters k))
      ∙ (stretch_on s (unlined h) (start_line k)
      ∙ (λ i. from (unlined_is s h i) (bytes (characters k i) [])))

  pub start_state : state s start_calls ≡ (start_answer (state s h) k).machine
  unfolding run
  start_state = ap (λ (m : Machine). (byte_step m end_byte buffer).machine) copied

  -- What the copy, the line that it gathers and the 0D answer.
  pub start_is : (c copy : Controller) (line : List ℕ) (g : Gathered) (r : ByteAnswer) → line ≡ start_line k
      → held (state s h) ≡ c → Made c (λ m. copy ≡ held (with_line m [])) → Made copy (λ m. g ≡ held_gathered m line)
      → Made g.controller (λ m. r ≡ held_byte (byte_step m end_byte buffer)) → r ≡ held_byte (start_answer (state s h) k)
  start_is c copy line g r l e bare gathers answers =
      answers s typed
      (ap held (ap (λ (x : List ℕ). state s (bytes x (unlined h))) (sym (ap before_end l ∙ characters k)))
      ∙ after_stretch copy s (unlined h) (ap held (unlined_is s h) ∙ sym (bare s h e)) line g gathers)
      ∙ ap (λ (m : Machine). held_byte (byte_step m end_byte buffer)) copied

-- ---- What is answered, by the tests in their order

module _ (m : Machine) (k w n : ℕ) where
  pub by_word : 16777215 < w → turned 3 ≡ trial_of m k w n
  by_word p = on_lt _ _ _ _ _ p refl

  pub by_ticks : w ≤ 16777215 → 1000000 < n → turned 25 ≡ trial_of m k w n
  by_ticks p q = on_ge _ _ _ _ _ p (on_lt _ _ _ _ _ q refl)

  pub by_master : w ≤ 16777215 → n ≤ 1000000 → 4 < k → turned 10 ≡ trial_of m k w n
  by_master p q r = on_ge _ _ _ _ _ p (on_ge _ _ _ _ _ q (on_lt _ _ _ _ _ r refl))

  module _ (p : w ≤ 16777215) (q : n ≤ 1000000) (r : k ≤ 4) where
    pub by_start : ((start_answer m k).number ≡ 0 → ⊥) → turned (start_answer m k).number ≡ trial_of m k w n
    by_start z = on_ge _ _ _ _ _ p (on_ge _ _ _ _ _ q (on_ge _ _ _ _ _ r (on_ne _ _ _ _ _ z refl)))

    pub by_run : (start_answer m k).number ≡ 0 → run_of (start_answer m k).machine w n ≡ trial_of m k w n
    by_run z = on_ge _ _ _ _ _ p (on_ge _ _ _ _ _ q (on_ge _ _ _ _ _ r (on_eq _ _ _ _ _ z refl)))
