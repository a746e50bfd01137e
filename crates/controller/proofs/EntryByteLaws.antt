-- A received byte, joined from what its parts answer: the held machine's step. Assumes nothing.
use Rattle.line.specs.declared.Accepted.{Accepted}
use Rattle.line.specs.declared.Refusal.{Refusal}
use Rattle.receiver.specs.declared.Line.{Line}
use Rattle.line.specs.Line.{accepting, refusal_number}
use Rattle.std.proofs.Common.{Option, Some, None, Result, Ok, Err}
use Prim.Native.Nat.{ℕ, ◌≤◌, ◌<◌}
use mathlib.Core.Bool.{Bool, true, false, cond}
use mathlib.Core.List.{List, []}
use mathlib.Core.Path.{◌≡◌, refl, sym, ap, subst, ◌∙◌}
use native.Mathlib.Omega.{arith}
use borrow.Author.Tests.{lt-ltb, le-ltb}
use lib.Dec.{eqb}
use lib.ListN.{length}
use Rattle.laws.proofs.Pick.{by_bool}
use Rattle.block.specs.Block.{over}
use Rattle.block.proofs.Buffers.{over_nil}
use Rattle.line.specs.Fits.{JudgedFits}
use Rattle.line.proofs.Fits.{judge_fits}
use Rattle.reply.specs.Reply.{told_by, reply_of}
use Rattle.receiver.specs.declared.Taken.{Taken}
use Rattle.receiver.specs.Receiver.{Receipt, receive, held_taken, line_heard}
use Rattle.machine.specs.State.{Machine, with_watch}
use Rattle.machine.specs.Steps.{
  Outcome,
  untaken,
  refused,
  accepted,
  decided,
  outcome_of,
  answered,
  heard_by,
  byte_step,
  buffer_after,
}
use Rattle.machine.specs.Commands.{number, does}
use Rattle.machine.specs.Replies as machine
use Rattle.machine.proofs.UnalteredLaws.{number_line}
use Rattle.machine.proofs.Fits.{Fits, fits_same}
use Rattle.controller.specs.declared.state.Controller.{Controller}
use Rattle.controller.specs.declared.state.ByteAnswer.{ByteAnswer}
use Rattle.controller.specs.Held.{held, held_byte}
use Rattle.controller.specs.Inner.Numbers.{NumberFits}
use Rattle.controller.specs.Inner.Orders.{zero_watch_of}
use Rattle.controller.specs.Inner.Settle.{awaits_of}
use Rattle.controller.specs.Inner.Status.{readings_of}
use Rattle.controller.specs.Inner.LineEnd.{refuse_of, refuse_reply, obey_of, tell_reply, lined_of, lined_reply}
use Rattle.controller.specs.Inner.Power.{with_line_of}
use Rattle.controller.proofs.StartLaws.{start_fits}
use Rattle.controller.proofs.CarryLaws.{carry_fits}
use Rattle.controller.proofs.ByteLaws.{does_is, awaits_is, turned_is, number_is, reply_is}

-- Whatever is heard is in range.
HeardFits : Option Line → Type 0
HeardFits None = 0 < 1
HeardFits (Some line) = JudgedFits line.judged

heard_fits : (l : List ℕ) (b : ℕ) → HeardFits (receive l b).heard
unfolding HeardFits
heard_fits l b =
    by_bool (λ (r : Receipt). HeardFits r.heard) (eqb b 13) _ _ (λ q. judge_fits l) (λ q. omega arith)

pub judged_fits : (l : List ℕ) (b : ℕ) (silent : Bool) (ident : Option ℕ) (j : Result Accepted Refusal)
    → (receive l b).heard ≡ line_heard silent ident j → JudgedFits j
unfolding HeardFits
judged_fits l b silent ident j e = subst HeardFits e (heard_fits l b)

heard_fit : (m : Machine) (b : ℕ) → Fits m → Fits (heard_by m b)
heard_fit m b f = fits_same m _ f refl refl refl refl refl

-- A line, answered by the held machine.
lined_answer : (m : Machine) (b : ℕ) (silent : Bool) (ident : Option ℕ) (j : Result Accepted Refusal) → Fits (heard_by m b) → JudgedFits j
    → (lined_of (held (heard_by m b)) silent ident j ≡ held_byte (answered m b (decided m silent ident j)))
    × (lined_reply (held (heard_by m b)) silent ident j ≡ (answered m b (decided m silent ident j)).reply)
lined_answer m b silent ident (Err r) f h = (
  (λ i. record {
    controller = turned_is (heard_by m b) (refusal_number r) i;
    length = length (refuse_reply (held (heard_by m b)) silent ident (refusal_number r));
    number = refusal_number r;
  }),
  refl,
)
lined_answer m b silent ident (Ok a) f h =
    subst (λ (n : ℕ).
    (cond (eqb n 0) (obey_of (held (heard_by m b)) silent ident a.command a.digits)
    (refuse_of (held (heard_by m b)) silent ident n)
    ≡ held_byte (answered m b (decided m silent ident (accepting a.command a.digits))))
    × (cond (eqb n 0) (tell_reply (held (heard_by m b)) silent ident a.command a.digits)
    (refuse_reply (held (heard_by m b)) silent ident n)
    ≡ (answered m b (decided m silent ident (accepting a.command a.digits))).reply))
    (sym (number_is (heard_by m b) a.command f h.command ∙ number_line m (receive m.line b).line a.command))
    (by (eqb (number m a.command) 0))
  where
    told : (t : Bool) → cond t [] (reply_of (told_by (readings_of (held (heard_by m b)))) a.command a.digits ident)
        ≡ cond t [] (machine.reply_to m a.command a.digits ident)
    told t = ap (λ (x : List ℕ). cond t [] x) (reply_is (heard_by m b) a.command a.digits ident f h.command)

    by : (t : Bool)
        → (cond t (obey_of (held (heard_by m b)) silent ident a.command a.digits)
        (refuse_of (held (heard_by m b)) silent ident (number m a.command))
        ≡ held_byte (answered m b (cond t (accepted a.command a.digits silent ident) (refused (number m a.command) silent ident))))
        × (cond t (tell_reply (held (heard_by m b)) silent ident a.command a.digits)
        (refuse_reply (held (heard_by m b)) silent ident (number m a.command))
        ≡ (answered m b (cond t (accepted a.command a.digits silent ident) (refused (number m a.command) silent ident))).reply)
    by true = (
      (λ i. record {
        controller = (ap (λ (x : Controller). awaits_of (zero_watch_of x) a.command silent ident)
            (does_is (heard_by m b) a.command f h.command)
            ∙ awaits_is (with_watch (does (heard_by m b) a.command) 0) a.command silent ident) i;
        length = length (told silent i);
        number = 0;
      }),
      told silent,
    )
    by false = (
      (λ i. record {
        controller = turned_is (heard_by m b) (number m a.command) i;
        length = length (refuse_reply (held (heard_by m b)) silent ident (number m a.command));
        number = number m a.command;
      }),
      refl,
    )

-- What a byte answers and leaves in the buffer, with the machine's outcome o.
abbrev Given : Machine → ℕ → ByteAnswer → List ℕ → List ℕ → Outcome → Type 0
Given m b r x d o = (r ≡ held_byte (answered m b o)) × (x ≡ over (answered m b o).reply d)

module _ (m : Machine) (b : ℕ) (d : List ℕ) (f : Fits m) (self : Controller) (e : held m ≡ self) where
  pub byte_short : length d < 120
      → (◌≡◌ {A = ByteAnswer} (record { controller = self; length = 0; number = 2 }) (held_byte (byte_step m b d)))
      × (d ≡ buffer_after (byte_step m b d) d)
  byte_short h =
      subst (λ (t : Bool). Given m b (record { controller = self; length = 0; number = 2 }) d d
      (cond t untaken (outcome_of m (receive m.line b).heard))) (sym (lt-ltb (length d) 120 h))
      ((λ i. record { controller = sym e i; length = 0; number = 2 }), sym (over_nil d))

  module _ (h : 120 ≤ length d) (taken : Taken) (q : taken ≡ held_taken (receive m.line b)) (c : Controller)
      (p : c ≡ with_line_of self taken.next) where
    -- The controller that has heard the byte.
    pub heard_is : c ≡ held (heard_by m b)
    heard_is = p ∙ (λ i. with_line_of (sym e i) (q i).next)

    pub heard_number : NumberFits c
    heard_number = subst NumberFits (sym heard_is) (record { start = start_fits m f; carry = carry_fits m f })

    given : (r : ByteAnswer) (x : List ℕ) → Given m b r x d (outcome_of m taken.heard)
        → (r ≡ held_byte (byte_step m b d)) × (x ≡ buffer_after (byte_step m b d) d)
    given r x g =
        subst (λ (t : Bool). Given m b r x d (cond t untaken (outcome_of m (receive m.line b).heard)))
        (sym (le-ltb (length d) 120 h))
        (subst (λ (k : Option Line). Given m b r x d (outcome_of m k)) (ap (λ (k : Taken). k.heard) q) g)

    pub byte_gathered : taken.heard ≡ None
        → (◌≡◌ {A = ByteAnswer} (record { controller = c; length = 0; number = 0 }) (held_byte (byte_step m b d)))
        × (d ≡ buffer_after (byte_step m b d) d)
    byte_gathered k =
        given _ d (subst (λ (y : Option Line). Given m b (record { controller = c; length = 0; number = 0 }) d d
        (outcome_of m y)) (sym k)
        ((λ i. record { controller = heard_is i; length = 0; number = 0 }), sym (over_nil d)))

    pub byte_judged : (silent : Bool) (ident : Option ℕ) (j : Result Accepted Refusal) → taken.heard ≡ line_heard silent ident j → JudgedFits j
    byte_judged silent ident j k =
        judged_fits m.line b silent ident j (sym (ap (λ (y : Taken). y.heard) q) ∙ k)

    pub byte_lined : (silent : Bool) (ident : Option ℕ) (j : Result Accepted Refusal) (r : ByteAnswer) (x : List ℕ)
        → taken.heard ≡ line_heard silent ident j → r ≡ lined_of c silent ident j → x ≡ over (lined_reply c silent ident j) d
        → (r ≡ held_byte (byte_step m b d)) × (x ≡ buffer_after (byte_step m b d) d)
    byte_lined silent ident j r x k u v =
        let a = lined_answer m b silent ident j (heard_fit m b f) (byte_judged silent ident j k) in
        given r x (subst (λ (y : Option Line). Given m b r x d (outcome_of m y)) (sym k) (
          u ∙ (ap (λ (y : Controller). lined_of y silent ident j) heard_is ∙ a.0),
          v ∙ (ap (λ (y : Controller). over (lined_reply y silent ident j) d) heard_is ∙ ap (λ (y : List ℕ). over y d)
              a.1),
        ))
