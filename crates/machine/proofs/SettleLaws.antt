-- W lines, for every list of calls: which tick answers the block of one, and what it says; that an accepted W line
-- answers no bytes and sets its outputs at once, which the words of the next tick show; and the ticks that 2 and 3 turn
-- away. Assumes nothing.
use Prim.Native.Nat.{ℕ, ◌+◌, ◌-◌, min}
use mathlib.Core.Bool.{Bool, true, false, cond, not, ◌&&◌, ◌||◌, false≢true}
use mathlib.Core.List.{List, [], ◌∷◌}
use mathlib.Core.Path.{◌≡◌, refl, sym, ap, subst, ◌∙◌}
use native.Mathlib.Omega.{arith}
use borrow.Author.Tests.{eq-eqb, ne_eqb, eqb-true, eqb-false}
use lib.Dec.{leb, eqb}
use lib.IntN.{ℤ}
use Rattle.laws.specs.Bits.{bit, weight}
use Rattle.outputs.specs.Outputs.{general_of}
use Rattle.outputs.proofs.Words.{word_general}
use Rattle.reply.specs.Reply.{inputs_of}
use Rattle.machine.specs.State.{Settle, Machine}
use Rattle.machine.specs.Stops.{watch_most, watch_full, takes}
use Rattle.machine.specs.Steps.{refused, accepted, outcome, is_short, too_large, tick_turned, tick_by, tick_step}
use Rattle.machine.specs.Outputs.{word}
use Rattle.machine.specs.Calls.{Call, byte, tick, run, state}
use Rattle.machine.specs.Watch.{last_watch, ticks_unheard}
use Rattle.machine.specs.Settle.{
  Latest,
  no_line,
  w_line,
  outputs_by,
  last_w,
  ticks_since_w,
  switch_of,
  block_to,
  block_due,
  latest_block,
  last_word,
  last_outputs,
  Shows,
  Settles,
}
use Rattle.machine.proofs.WatchLaws.{setting_is, count_is, fills}
use Rattle.machine.proofs.WLineLaws.{ended_is, accepts_is}
use Rattle.machine.proofs.SettleByteLaws.{byte_waits}
use Rattle.machine.proofs.SettleStageLaws.{Waits, waits_tick, ran_kept}

-- ---- The machine against the list

-- The switch is that of power-on; the inputs, the outputs and what is kept of a W line are what the list says of them.
pub record Tied (s : ℕ) (h : List Call) : Type 0 where
  pub switch : (state s h).switch ≡ switch_of s
  pub inputs : (state s h).inputs ≡ last_word s h
  pub outputs : (state s h).outputs ≡ last_outputs s h
  pub waits : Waits (state s h).settle (last_w s h) (ticks_since_w s h)

-- A tick more, on the machine m, by whether its buffer is short and its word too large: o is there, and cleared if c.
record Ticked (s w : ℕ) (l : Latest) (n i o : ℕ) (c : Bool) (m : Machine) (a b : Bool) : Type 0 where
  switch : (tick_by m w a b).machine.switch ≡ switch_of s
  inputs : (tick_by m w a b).machine.inputs ≡ cond (a || b) i w
  outputs : (tick_by m w a b).machine.outputs ≡ cond (not (a || b) && c) 0 o
  waits : Waits (tick_by m w a b).machine.settle l (n + weight (not (a || b)) 1)

tied_tick : (s w : ℕ) (m : Machine) (l : Latest) (n i o : ℕ) (c : Bool) → m.switch ≡ switch_of s → m.inputs ≡ i
    → m.outputs ≡ o → Waits m.settle l n → watch_full (takes m w) 1 ≡ c → (a b : Bool)
    → Ticked s w l n i o c m a b
tied_tick s w m l n i o c p u v q f true b =
    record { switch = p; inputs = u; outputs = v; waits = subst (Waits m.settle l) (omega arith) q }
tied_tick s w m l n i o c p u v q f false true =
    record { switch = p; inputs = u; outputs = v; waits = subst (Waits m.settle l) (omega arith) q }
tied_tick s w m l n i o c p u v q f false false =
    let k = ran_kept m w in
    record {
      switch = k.switch ∙ p;
      inputs = k.inputs;
      outputs = k.outputs ∙ (λ j. cond (f j) 0 (v j));
      waits = subst (λ (x : Settle). Waits x l (n + 1)) (sym k.settle) (waits_tick m.settle l n q);
    }

-- The watch that clears the outputs is the list's.
clears_is : (s : ℕ) (h : List Call) (w : ℕ)
    → watch_full (takes (state s h) w) 1 ≡ leb watch_most (ticks_unheard s h + 1) && bit (last_watch s h) 1
clears_is s h w =
    (λ i. leb watch_most (min watch_most (count_is s h i + 1)) && bit (setting_is s h i) 1)
    ∙ ap (λ (b : Bool). b && bit (last_watch s h) 1) (fills (ticks_unheard s h))

-- A tick that is not turned away is one more.
unheard_is : (n : ℕ) (c : Bool) (a b : Bool)
    → not (a || b) && (leb watch_most (n + 1) && c) ≡ not (a || b) && (leb watch_most (cond (a || b) n (n + 1)) && c)
unheard_is n c true b = refl
unheard_is n c false true = refl
unheard_is n c false false = refl

pub tied : (s : ℕ) (h : List Call) → Tied s h
unfolding run last_w ticks_since_w last_word last_outputs ticks_unheard
tied s [] = record { switch = refl; inputs = refl; outputs = refl; waits = refl }
tied s (byte b buffer ∷ h) =
    let t = tied s h in
    let x = byte_waits (state s h) b buffer (last_w s h) (ticks_since_w s h) t.waits in
    record {
      switch = x.switch ∙ t.switch;
      inputs = x.inputs ∙ t.inputs;
      outputs = x.outputs ∙ ap (outputs_by (outcome (state s h) b buffer)) t.outputs;
      waits = x.waits;
    }
tied s (tick w d ∷ h) =
    let t = tied s h in
    let x = tied_tick s w (state s h) (last_w s h) (ticks_since_w s h) (last_word s h) (last_outputs s h) _ t.switch
    t.inputs t.outputs t.waits (clears_is s h w) (is_short d) (too_large w) in
    record {
      switch = x.switch;
      inputs = x.inputs;
      outputs = x.outputs
          ∙ ap (λ (c : Bool). cond c 0 (last_outputs s h))
          (unheard_is (ticks_unheard s h) (bit (last_watch s h) 1) (is_short d) (too_large w));
      waits = x.waits;
    }

-- ---- The block of a tick

-- The last of the 2,500 ticks.
last_tick : (n : ℕ) → eqb (2500 - n) 1 ≡ eqb (n + 1) 2500
last_tick n = when (eqb (n + 1) 2500) refl
  where
    when : (t : Bool) → eqb (n + 1) 2500 ≡ t → eqb (2500 - n) 1 ≡ t
    when true e = let q = eqb-true (n + 1) 2500 e in eq-eqb (2500 - n) 1 (omega (arith, q))
    when false e =
        let q = eqb-false (n + 1) 2500 e in
        ne_eqb (2500 - n) 1 (λ (p : 2500 - n ≡ 1). q (omega (arith, p)))

none : (b : Bool) → [] ≡ cond {A = List ℕ} b [] []
none true = refl
none false = refl

block_is : (s w : ℕ) (x : Settle) (l : Latest) (n : ℕ) → Waits x l n
    → cond (eqb x.left 1) (inputs_of (switch_of s) w x.ident) [] ≡ cond (eqb (n + 1) 2500) (block_to s l w) []
unfolding inputs_of
block_is s w x no_line n e = rw e (none (eqb (n + 1) 2500))
block_is s w x (w_line true ident) n e = rw e (none (eqb (n + 1) 2500))
block_is s w x (w_line false ident) n e =
    λ i. cond ((ap (λ (k : ℕ). eqb k 1) e.0 ∙ last_tick n) i) (inputs_of (switch_of s) w (e.1 i)) []

answered_is : (s : ℕ) (h : List Call) → latest_block s h ≡ block_due s h
unfolding latest_block block_due ticks_since_w
answered_is s [] = refl
answered_is s (byte b buffer ∷ h) = refl
answered_is s (tick w d ∷ h) = when (is_short d) (too_large w)
  where
    m : Machine
    m = state s h

    when : (a b : Bool)
        → (tick_by m w a b).reply
        ≡ cond (not (a || b) && eqb (ticks_since_w s h + weight (not (a || b)) 1) 2500) (block_to s (last_w s h) w) []
    when true b = refl
    when false true = refl
    when false false =
        ap (λ (k : ℕ). cond (eqb m.settle.left 1) (inputs_of k w m.settle.ident) []) (tied s h).switch
        ∙ block_is s w m.settle (last_w s h) (ticks_since_w s h) (tied s h).waits

-- ---- The words of a tick

-- The machine after a tick, with the pulses p, shows the list's outputs in both words.
word_shows : (s : ℕ) (h : List Call) (p : ℕ → ℤ) (early : Bool)
    → general_of (switch_of s) (word (state s h) p early) ≡ general_of (switch_of s) (last_outputs s h)
word_shows s h p early =
    let m = state s h in
    ap (λ (k : ℕ). general_of k (word m p early)) (sym (tied s h).switch)
    ∙ (word_general m.switch m.settings.polarity m.outputs m.move.plan.minus p early
    ∙ λ i. general_of ((tied s h).switch i) ((tied s h).outputs i))

words_are : (s : ℕ) (h : List Call) (w : ℕ) (d : List ℕ) → tick_turned w d ≡ false
    → Shows s (tick w d ∷ h) (tick_step (state s h) w d).first (tick_step (state s h) w d).second
unfolding run
words_are s h w d = when (is_short d) (too_large w) (word_shows s (tick w d ∷ h))
  where
    m : Machine
    m = state s h

    Shown : Machine → Type 0
    Shown x =
        (p : ℕ → ℤ) (early : Bool)
        → general_of (switch_of s) (word x p early) ≡ general_of (switch_of s) (last_outputs s (tick w d ∷ h))

    when : (a b : Bool) → Shown (tick_by m w a b).machine → a || b ≡ false
        → Shows s (tick w d ∷ h) (tick_by m w a b).first (tick_by m w a b).second
    when true b f e = absurd (false≢true (sym e))
    when false true f e = absurd (false≢true (sym e))
    when false false f e =
        let p = (tick_by m w false false).pulse in
        record { first = f p true; second = f p false }

pub settled : Settles
settled s h = record {
  answered = answered_is s h;
  ended = ended_is s h;
  accepts = λ c digits silent ident e. ap (λ (n : ℕ). cond (eqb n 0) (accepted c digits silent ident)
      (refused n silent ident)) (accepts_is (state s h) c e);
  words = words_are s h;
  inputs = (tied s h).inputs;
  short = λ w d e. ap (λ (t : Bool). tick_by (state s h) w t (too_large w)) e;
  large = λ w d e q. λ i. tick_by (state s h) w (e i) (q i);
}
