-- What a received byte does to the latest move, the next one and the positions. Assumes nothing.
use Rattle.std.proofs.Common.{Option}
use Prim.Native.Nat.{ℕ}
use mathlib.Core.Bool.{Bool, true, false, cond, ◌&&◌}
use mathlib.Core.List.{List}
use mathlib.Core.Path.{◌≡◌, refl, sym, subst}
use native.Mathlib.Omega.{arith}
use lib.Dec.{leb, eqb}
use lib.IntN.{pos}
use Rattle.laws.proofs.Tests.{and_true}
use Rattle.line.specs.declared.command.Command.{Command}
use Rattle.line.specs.declared.command.Command.TheVariants as C
use Rattle.line.proofs.Ranges.{by_code}
use Rattle.machine.specs.State.{Machine, with_move, with_watch, with_flags}
use Rattle.machine.specs.Stops.{stopping, marks}
use Rattle.machine.specs.Starts.{start_number, begun, notes}
use Rattle.machine.specs.Commands.{number, does, stores, drops, keeps_start, obeys}
use Rattle.machine.specs.Steps.{Outcome, refused, outcome, answered, heard_by, untried, began}
use Rattle.machine.specs.Roles.{other, dwell_line, start_line, stop_order, role_of, role_by, start_by, stop_by}
use Rattle.machine.proofs.BitLaws.{status_moving}
use Rattle.machine.proofs.Outcomes.{by_outcome}
use Rattle.machine.proofs.Runs.{Good}
use Rattle.machine.proofs.CalledLaws.{Called, called_same, called_settled}
use Rattle.machine.proofs.ReadyLaws.{passed, ready, resumable}
use Rattle.machine.proofs.EffectLaws.{
  called_start,
  called_quiet,
  called_distance,
  called_reset,
  called_stop,
  called_carry,
}

-- An accepted line, whose command leaves the machine a.
abbrev Accepts : Machine → Command → Machine → Type 0
Accepts m c a =
    Called m (role_of c) (start_by m.pause (role_of c)) (stop_by m (role_of c)) false (λ k. pos 0) (with_watch a 0)

called_setting : (m : Machine) (b code v : ℕ) → Good m.move
    → Accepts m (C.Set code v) (does (heard_by m b) (C.Set code v))
called_setting m b code v g = when (eqb code 10)
  where
    when : (t : Bool)
        → Called m (cond t (dwell_line v) other) (start_by m.pause (cond t (dwell_line v) other))
        (stop_by m (cond t (dwell_line v) other)) false (λ k. pos 0) (with_watch (does (heard_by m b) (C.Set code v)) 0)
    when true =
        called_quiet m _ (dwell_line v)
        (record { distance = λ j n. refl; minus = λ j b. refl; reset = refl; set = refl; carry = refl }) g
        (record { next = refl; move = refl; position = refl })
    when false = called_same m _ false g (record { next = refl; move = refl; position = refl })

called_starting : (m : Machine) (b k : ℕ) (w : Bool) → Good m.move → number m (C.Start k w) ≡ 0
    → Accepts m (C.Start k w) (does (heard_by m b) (C.Start k w))
called_starting m b k w g e = when (stores m w) refl
  where
    p11 : (m.move.moving && true ≡ false) × (cond (stores m w) 0 (start_number m k) ≡ 0)
    p11 = passed (m.move.moving && true) 11 _ (omega arith) e

    when : (t : Bool) → stores m w ≡ t
        → Called m (start_line k w) (cond t untried (began k)) false false (λ j. pos 0)
        (with_watch (cond t (keeps_start (heard_by m b) k)
        (begun (heard_by m b) k)) 0)
    when true f =
        called_quiet m _ (start_line k w)
        (record { distance = λ j n. refl; minus = λ j b. refl; reset = refl; set = refl; carry = refl }) g
        (record { next = refl; move = refl; position = refl })
    when false f =
        called_start m k w _
        (ready m k (subst (λ (t : Bool). cond t 0 (start_number m k) ≡ 0) f p11.1))
        (and_true m.move.moving p11.0) f refl refl refl

called_stopping : (m : Machine) (b : ℕ) → Good m.move → Accepts m (C.Order 9) (obeys (heard_by m b) 9)
called_stopping m b g =
    subst (λ (t : Bool). Called m stop_order untried t false (λ k. pos 0) (with_watch (obeys (heard_by m b) 9) 0))
    (sym (status_moving m)) (when m.move.moving refl)
  where
    when : (t : Bool) → m.move.moving ≡ t
        → Called m stop_order untried t false (λ k. pos 0)
        (with_watch (drops (cond t
        (with_flags (with_move (heard_by m b) (stopping m.move)) (marks m.flags true false)) (heard_by m b))) 0)
    when true f = called_stop m _ g true f refl refl refl
    when false f = called_stop m _ g false f refl refl refl

called_carrying : (m : Machine) (b : ℕ) → Good m.move → number m (C.Order 12) ≡ 0
    → Accepts m (C.Order 12) (obeys (heard_by m b) 12)
called_carrying m b g e =
    let p11 = passed (m.move.moving && true) 11 _ (omega arith) e in
    called_carry m _ g (resumable m p11.1) (and_true m.move.moving p11.0) refl refl refl

called_order : (m : Machine) (b code : ℕ) → Good m.move → number m (C.Order code) ≡ 0
    → Accepts m (C.Order code) (obeys (heard_by m b) code)
called_order m b code g =
    by_code (λ (k : ℕ). number m (C.Order k) ≡ 0 → Accepts m (C.Order k) (obeys (heard_by m b) k))
    (λ e. called_stopping m b g)
    (λ e. called_same m _ false g (record { next = refl; move = refl; position = refl }))
    (λ e. called_reset m _ g refl refl refl)
    (called_carrying m b g)
    (λ k p q r t e. rw (p, q, r, t) (called_same m _ false g (record { next = refl; move = refl; position = refl })))
    code

called_accepted : (m : Machine) (b : ℕ) (c : Command) → Good m.move → number m c ≡ 0
    → Accepts m c (does (heard_by m b) c)
called_accepted m b (C.Distance j s d) g e =
    called_distance m _ j d s g (and_true m.move.moving (passed (m.move.moving && true) 11 _ (omega arith) e).0)
    refl refl refl
called_accepted m b (C.Set code v) g e = called_setting m b code v g
called_accepted m b (C.Start k w) g e = called_starting m b k w g e
called_accepted m b (C.Order code) g e = called_order m b code g e
called_accepted m b (C.Outputs v) g e = called_same m _ false g (record { next = refl; move = refl; position = refl })
called_accepted m b (C.Read r) g e = called_same m _ false g (record { next = refl; move = refl; position = refl })

-- A byte whose outcome is o.
abbrev pub Byte : Machine → ℕ → Outcome → Type 0
Byte m b o =
    Called m (role_by o) (start_by m.pause (role_by o)) (stop_by m (role_by o)) false (λ k. pos 0)
    (answered m b o).machine

called_refused : (m : Machine) (b n : ℕ) (silent : Bool) (ident : Option ℕ) → Good m.move → Byte m b
    (refused n silent ident)
called_refused m b n silent ident g = when (leb 10 n)
  where
    when : (t : Bool) → Called m other untried false false (λ k. pos 0)
        (cond t (notes (with_watch (heard_by m b) 0) n) (heard_by m b))
    when true = called_same m _ false g (record { next = refl; move = refl; position = refl })
    when false = called_same m _ false g (record { next = refl; move = refl; position = refl })

pub called_byte : (m : Machine) (b : ℕ) (buffer : List ℕ) → Good m.move → Byte m b (outcome m b buffer)
called_byte m b buffer g =
    by_outcome m (Byte m b) (called_same m _ false g (record { next = refl; move = refl; position = refl }))
    (called_same m _ false g (record { next = refl; move = refl; position = refl }))
    (λ n silent ident. called_refused m b n silent ident g)
    (λ c digits silent ident e. called_settled m (with_watch (does (heard_by m b) c) 0) _ (called_accepted m b c g e))
    b buffer
