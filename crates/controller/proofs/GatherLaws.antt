-- The bytes of a stretch before its first 0D: each is a character that joins the line and ends none, with neither reply
-- nor number, and all together join it at once; and a controller without such characters. Assumes nothing.
use Rattle.std.proofs.Common.{None}
use Prim.Native.Nat.{ℕ}
use mathlib.Core.Bool.{Bool, false, cond}
use mathlib.Core.List.{List, [], ◌∷◌, ◌++◌, append-nil}
use mathlib.Core.Path.{◌≡◌, refl, sym, ap, ◌∙◌}
use lib.Dec.{eqb}
use lib.Seq.{append_snoc}
use Rattle.laws.proofs.Pick.{by_bool}
use Rattle.receiver.specs.declared.Gathered as line
use Rattle.receiver.specs.declared.Receiver.{Receiver}
use Rattle.receiver.specs.Receiver as receiver
use Rattle.receiver.specs.Receiver.{Receipt, heard_line, before, before_end}
use Rattle.machine.specs.State.{Machine, with_line}
use Rattle.machine.specs.Steps.{ByteAnswer, byte_step, answered, gathered, outcome_of, outcome}
use Rattle.machine.specs.Calls.{Call, byte, Origin, power, given, after, run, state, from, buffer, bytes}
use Rattle.machine.proofs.AsideLaws.{unlined, unlined_is}
use Rattle.controller.specs.declared.state.Controller.{Controller}
use Rattle.controller.specs.declared.state.Gathered.{Gathered}
use Rattle.controller.specs.Held.{held, held_gathered}
use Rattle.controller.specs.Reach.{Reachable, Made}
use Rattle.controller.specs.Answers.{Quiet, Promised, stretch}
use Rattle.controller.specs.Inner.Power.{with_line_of}

-- One character.
pub character : (m : Machine) (b : ℕ) → eqb b 13 ≡ false
    → byte_step m b buffer ≡ record { machine = with_line m (m.line ++ (b ∷ [])); reply = []; number = 0 }
character m b e =
    ap (λ (t : Bool). answered m b (outcome_of m
    (cond {A = Receipt} t (record { line = []; heard = heard_line m.line })
    (record { line = m.line ++ (b ∷ []); heard = None })).heard)) e
    ∙ ap (λ (t : Bool). record {
      machine = with_line m (cond {A = Receipt} t (record { line = []; heard = heard_line m.line })
          (record { line = m.line ++ (b ∷ []); heard = None })).line;
      reply = [];
      number = 0;
    }) e

-- It ends no line.
pub gathers : (m : Machine) (b : ℕ) → eqb b 13 ≡ false → outcome m b buffer ≡ gathered
gathers m b e =
    ap (λ (t : Bool). outcome_of m
    (cond {A = Receipt} t (record { line = []; heard = heard_line m.line })
    (record { line = m.line ++ (b ∷ []); heard = None })).heard) e

-- What no character alters, no stretch alters.
pub by_characters : {A : Type 0} (f : List Call → A)
    → ((b : ℕ) (h : List Call) → eqb b 13 ≡ false → f (byte b buffer ∷ h) ≡ f h)
    → (bs : List ℕ) (h : List Call) → f (bytes (before_end bs) h) ≡ f h
unfolding before
by_characters f p [] h = refl
by_characters f p (b ∷ bs) h =
    by_bool (λ (x : List ℕ). f (bytes x h) ≡ f h) (eqb b 13) [] (b ∷ before_end bs) (λ e. refl)
    (λ e. by_characters f p bs (byte b buffer ∷ h) ∙ p b h e)

pub run_on : (o : Origin) (x : Call) (h : List Call) → run o (x ∷ h) ≡ after (run o h) x
unfolding run
run_on (power s) x h = refl
run_on (given m) x h = refl

-- All of them, in any list of calls.
pub joined : (o : Origin) (bs : List ℕ) (h : List Call)
    → run o (bytes (before_end bs) h) ≡ with_line (run o h) ((run o h).line ++ before_end bs)
unfolding before
joined o [] h = λ i. with_line (run o h) (sym (append-nil (run o h).line) i)
joined o (b ∷ bs) h =
    by_bool (λ (x : List ℕ). run o (bytes x h) ≡ with_line (run o h) ((run o h).line ++ x)) (eqb b 13) []
    (b ∷ before_end bs)
    (λ e i. with_line (run o h) (sym (append-nil (run o h).line) i))
    (λ e. joined o bs (byte b buffer ∷ h)
    ∙ (ap (λ (m : Machine). with_line m (m.line ++ before_end bs))
    (run_on o (byte b buffer) h ∙ ap (λ (a : ByteAnswer). a.machine) (character (run o h) b e))
    ∙ ap (with_line (run o h)) (append_snoc (run o h).line b (before_end bs))))

pub quiet : (bs : List ℕ) (m : Machine) → Quiet m (before_end bs)
unfolding before
quiet [] m = tt
quiet (b ∷ bs) m =
    by_bool (Quiet m) (eqb b 13) [] (b ∷ before_end bs) (λ e. tt)
    (λ e. (
      ap (λ (a : ByteAnswer). a.reply) (character m b e),
      (ap (λ (a : ByteAnswer). a.number) (character m b e), quiet bs (byte_step m b buffer).machine),
    ))

-- From a machine on a stretch leaves what it leaves in the list.
pub stretch_on : (s : ℕ) (h : List Call) (bs : List ℕ)
    → state s (bytes (before_end bs) h) ≡ from (state s h) (bytes (before_end bs) [])
unfolding run
stretch_on s h bs = joined (power s) bs h ∙ sym (joined (given (state s h)) bs [])

-- In the list of calls a stretch is its bytes.
pub after_stretch : (c : Controller) (s : ℕ) (h : List Call) → held (state s h) ≡ c → (bs : List ℕ) (r : Gathered)
    → Made c (λ m. r ≡ held_gathered m bs) → held (state s (bytes (before_end bs) h)) ≡ r.controller
after_stretch c s h e bs r p =
    ap held (stretch_on s h bs)
    ∙ sym (ap (λ (x : Gathered). x.controller) (p s h e))

-- ---- What `gather` answers

module _ (self : Controller) (bs : List ℕ) (g : line.Gathered) (c : Controller)
    (q : receiver.Holding self.cold.line (λ l. g ≡ receiver.held_gathered l bs))
    (p : c ≡ with_line_of self g.next) where
  abbrev answer : Gathered
  answer = record { controller = c; count = g.count }

  gathered_at : (m : Machine) → held m ≡ self → c ≡ held (with_line m (m.line ++ before_end bs))
  gathered_at m e =
      p ∙ (λ i. with_line_of (sym e i) (q m.line (ap (λ (x : Controller). x.cold.line) e) i).next)

  gather_is : Made self (λ m. answer ≡ held_gathered m bs)
  unfolding run
  gather_is s h e =
      λ i. record {
        controller = (gathered_at (state s h) e ∙ ap held (sym (joined (given (state s h)) bs []))) i;
        count = (q (state s h).line (ap (λ (x : Controller). x.cold.line) e) i).count;
      }

  pub gather_answers : Reachable self → Promised self (stretch bs answer)
  gather_answers r = (
    gather_is,
    (
      λ s h e. quiet bs (state s h),
      record {
        switch = r.switch;
        history = bytes (before_end bs) r.history;
        made = after_stretch self r.switch r.history r.made bs answer gather_is;
      },
    ),
  )

-- ---- What `without_line` answers

module _ (self : Controller) (line : Receiver) (c : Controller) (q : line ≡ receiver.holding [])
    (p : c ≡ with_line_of self line) where
  pub bare : Made self (λ m. c ≡ held (with_line m []))
  bare s h e = p ∙ (λ i. with_line_of (sym e i) (q i))

  pub bare_reached : Reachable self → Reachable c
  bare_reached r = record {
    switch = r.switch;
    history = unlined r.history;
    made = ap held (unlined_is r.switch r.history) ∙ sym (bare r.switch r.history r.made);
  }
