-- Lines: what they do to a held machine is the held machine's step, and so are their numbers and replies. Assumes
-- nothing.
use Rattle.std.proofs.Common.{Option}
use Rattle.std.specs.Prelude.{is_some, unwrap_or}
use Prim.Native.Nat.{ℕ, ◌+◌, ◌-◌, ◌%◌, ◌<◌}
use mathlib.Core.Bool.{Bool, true, false, cond, ◌&&◌, ◌||◌, or-true, or-false}
use mathlib.Core.Path.{◌≡◌, refl, sym, ap, ◌∙◌}
use native.Mathlib.Omega.{arith}
use native.Mathlib.Nat.{mod-eq_of_lt}
use borrow.Author.Tests.{ltb-true, ltb-false, le-leb, lt-leb, ne_eqb}
use lib.Dec.{ltb, eqb}
use lib.IntN.{ℤ, pos, negsuc, ◌+ℤ◌}
use lib.ListN.{set}
use Rattle.laws.specs.Axes.{each}
use Rattle.laws.proofs.Five.{five}
use Rattle.laws.proofs.Pick.{by_lt, by_eq}
use Rattle.line.specs.declared.command.Command.{Command}
use Rattle.line.specs.declared.command.Command.TheVariants as C
use Rattle.line.specs.Codes.{is_w}
use Rattle.line.specs.Ranges.{is_within}
use Rattle.line.specs.Fits.{CommandFits}
use Rattle.line.proofs.Ranges.{axis, distance, by_code}
use Rattle.outputs.specs.Outputs.{rest_of, fire_of}
use Rattle.reply.specs.declared.readings.Travel.{Travel}
use Rattle.reply.specs.declared.readings.Position.{Position}
use Rattle.reply.specs.Reply.{travel_digits, twenty, bias, origin, reply_of, told_by}
use Rattle.reply.proofs.Replies.{reply_same}
use Rattle.machine.specs.State.{Machine, with_flags, with_move, with_watch, with_settle}
use Rattle.machine.specs.Stops.{status, blocked, stopping, marks}
use Rattle.machine.specs.Starts.{begun, carry_number, notes, outside}
use Rattle.machine.specs.Commands.{number, does, awaits, drops, stores, keeps_start, obeys, turned}
use Rattle.machine.specs.Replies as machine
use Rattle.machine.specs.Replies.{told_of}
use Rattle.machine.proofs.FitLaws.{Fits}
use Rattle.controller.specs.declared.state.Controller.{Controller}
use Rattle.controller.specs.Held.{held, held_hot, held_plan, held_settings}
use Rattle.controller.specs.Inner.Parts.{with_master, with_flag, with_hot, with_next, blocked_in}
use Rattle.controller.specs.Inner.Start.{begun_of, start_number_of}
use Rattle.controller.specs.Inner.Carry.{carry_number_of}
use Rattle.controller.specs.Inner.Settings.{set_setting_of}
use Rattle.controller.specs.Inner.Orders.{
  obey_start_of,
  obey_stop_of,
  obey_order_of,
  does_of,
  obey_stop_moving,
  obey_stop_dropped,
  obey_start_stored,
}
use Rattle.controller.specs.Inner.Settle.{span_of, awaits_given, awaits_of}
use Rattle.controller.specs.Inner.Numbers.{number_of, turned_of, turned_given}
use Rattle.controller.specs.Inner.Status.{status_given, status_of, readings_of}
use Rattle.controller.proofs.TickLaws.{each_at}
use Rattle.controller.proofs.StartLaws.{start_is, begun_is}
use Rattle.controller.proofs.CarryLaws.{replanned_is, carry_is, carried_is}

-- ---- Effects

-- One axis of the five set anew.
pub set_is : {A : Type 0} (f : ℕ → A) (x : A) (j : ℕ) → j < 5 → set (each f) j x ≡ each (λ k. cond (eqb k j) x (f k))
set_is f x = five (λ (j : ℕ). set (each f) j x ≡ each (λ k. cond (eqb k j) x (f k))) refl refl refl refl refl

setting_is : (m : Machine) (code v : ℕ) → set_setting_of (held m) code v ≡ held (does m (C.Set code v))
unfolding rest_of fire_of
setting_is m code v =
    by_eq (λ (x : Controller). x ≡ held (does m (C.Set code v))) code 12 _ _ (λ q. rw q)
    (λ n. rw (ne_eqb code 12 n))

starting_is : (m : Machine) (k : ℕ) (w : Bool) → k < 5 → obey_start_of (held m) k w ≡ held (does m (C.Start k w))
starting_is m k w h = when (stores m w)
  where
    when : (t : Bool)
        → cond t (with_hot (held m) (obey_start_stored (held_hot m) k))
        (with_hot (held m) (begun_of (held_plan m.next) m.settings.polarity m.switch (held_hot m) k))
        ≡ held (cond t (keeps_start m k) (begun m k))
    when true = refl
    when false = ap (with_hot (held m)) (begun_is m k h)

stop_is : (m : Machine) → obey_stop_of (held m) ≡ held (obeys m 9)
stop_is m = when m.move.moving
  where
    when : (t : Bool)
        → cond t (with_hot (held m) (obey_stop_moving (held_hot m))) (with_hot (held m) (obey_stop_dropped (held_hot m)))
        ≡ held (drops (cond t (with_flags (with_move m (stopping m.move)) (marks m.flags true false)) m))
    when true = λ i.
        with_hot (held m) (with_flag (with_flag (obey_stop_moving (held_hot m)) 3 (sym (or-true m.flags.stopped) i)) 6
        (sym (or-false m.flags.sensed) i))
    when false = refl

pub does_is : (m : Machine) (c : Command) → Fits m → CommandFits c → does_of (held m) c ≡ held (does m c)
does_is m (C.Distance k s d) f h =
    let l = (distance k s d h).0 in
    λ i. with_next
    (with_hot (held m) (with_master (held_hot m) (replanned_is m.move.replanned m.move.master f.move.master
    i)))
    (record {
      distances = set_is m.next.distance d k l i;
      minus = set_is m.next.minus s k l i;
    })
does_is m (C.Set code v) f h = setting_is m code v
does_is m (C.Start k w) f h = starting_is m k w (axis k h)
does_is m (C.Order code) f h =
    by_code (λ (k : ℕ). obey_order_of (held m) k ≡ held (obeys m k)) (stop_is m) refl refl
    (ap (with_hot (held m)) (carried_is m)) (λ k p q r t. rw (p, q, r, t)) code
does_is m (C.Outputs v) f h = refl
does_is m (C.Read r) f h = refl

pub awaits_is : (m : Machine) (c : Command) (silent : Bool) (ident : Option ℕ)
    → awaits_of (held m) c silent ident ≡ held (awaits m c silent ident)
awaits_is m c silent ident = when (is_w c)
  where
    when : (t : Bool)
        → cond t (awaits_given (held m) (span_of silent) (unwrap_or ident 0) (is_some ident)) (held m)
        ≡ held (with_settle m (cond t (record { left = cond silent 0 2500; ident = ident }) m.settle))
    when true = refl
    when false = refl

pub turned_is : (m : Machine) (n : ℕ) → turned_of (held m) n ≡ held (turned m n)
turned_is m n = when (ltb n 10) refl
  where
    when : (t : Bool) → ltb n 10 ≡ t
        → cond t (held m) (with_hot (held m) (turned_given (held_hot m) (m.flags.wrong_master || eqb n 14))) ≡ held
        (turned m n)
    when true e = ap (λ (b : Bool). held (cond b (notes (with_watch m 0) n) m)) (sym (lt-leb 10 n (ltb-true n 10 e)))
    when false e = ap (λ (b : Bool). held (cond b (notes (with_watch m 0) n) m)) (sym (le-leb 10 n (ltb-false n 10 e)))

-- ---- Numbers

no_number : (b : Bool) → ◌≡◌ {A = ℕ} 0 (cond (b && false) 11 0)
no_number true = refl
no_number false = refl

own_number : (b : Bool) (n : ℕ) → cond b 11 n ≡ cond (b && true) 11 n
own_number true n = refl
own_number false n = refl

pub number_is : (m : Machine) (c : Command) → Fits m → CommandFits c → number_of (held m) c ≡ number m c
number_is m (C.Distance k s d) f h = own_number m.move.moving 0
number_is m (C.Set code v) f h = when (is_within code 9 12)
  where
    when : (t : Bool) → ◌≡◌ {A = ℕ} (cond t (cond m.move.moving 11 0) 0) (cond (m.move.moving && t) 11 0)
    when true = own_number m.move.moving 0
    when false = no_number m.move.moving
number_is m (C.Start k w) f h =
    own_number m.move.moving (cond (stores m w) 0
    (start_number_of (held_settings m.settings) (held_plan m.next) (held_hot m) k))
    ∙ ap (λ (n : ℕ). cond (m.move.moving && true) 11 (cond (stores m w) 0 n)) (start_is m k (axis k h) f)
number_is m (C.Order code) f h = when (eqb code 12)
  where
    when : (t : Bool)
        → ◌≡◌ {A = ℕ} (cond t (cond m.move.moving 11 (carry_number_of (held_settings m.settings) (held_hot m))) 0)
        (cond (m.move.moving && t) 11 (cond t (carry_number m) 0))
    when true =
        own_number m.move.moving (carry_number_of (held_settings m.settings) (held_hot m))
        ∙ ap (λ (n : ℕ). cond (m.move.moving && true) 11 n) (carry_is m f)
    when false = no_number m.move.moving
number_is m (C.Outputs v) f h = no_number m.move.moving
number_is m (C.Read r) f h = no_number m.move.moving

-- ---- Replies

-- A position, held and read back.
pub unbiased : (z : ℤ) → outside z ≡ false → pos (bias z) +ℤ negsuc 524287 ≡ z
unbiased (pos n) h =
    by_lt (λ (x : ℤ). x ≡ pos n) (n + 524288) 524288 _ _ (λ q. absurd (omega arith)) (λ q. ap pos (omega arith))
unbiased (negsuc n) h =
    let k = ltb-false 524287 n h in
    by_lt (λ (x : ℤ). x ≡ negsuc n) (524287 - n) 524288 _ _ (λ q. ap negsuc (omega (arith, k)))
    (λ q. absurd (omega (arith, k)))

pub status_is : (m : Machine) → status_of (held m) ≡ status m
status_is m = when m.move.moving
  where
    when : (t : Bool)
        → status_given (held_hot m) (m.move.moving || ltb 0 m.pause.left)
        (blocked_in (held_settings m.settings) m.inputs (cond t (held_plan m.move.plan) (held_plan m.next)))
        ≡ status_given (held_hot m) (m.move.moving || ltb 0 m.pause.left)
        (blocked m (cond t m.move.plan m.next))
    when true = refl
    when false = refl

pub reply_is : (m : Machine) (c : Command) (digits : ℕ) (ident : Option ℕ) → Fits m → CommandFits c
    → reply_of (told_by (readings_of (held m))) c digits ident ≡ machine.reply_to m c digits ident
reply_is m c digits ident f h =
    reply_same (told_by (readings_of (held m))) (told_of m) refl travels positions (status_is m) refl c
    h digits ident
  where
    travels : (k : ℕ) → k < 5 → (told_by (readings_of (held m))).travel k ≡ (told_of m).travel k
    travels k l = λ i. travel_digits (each_at m.move.plan.minus false k l i)
        ((ap (λ (n : Travel). n.0 % 524288) (each_at (λ j. record { 0 = m.move.travel j }) (record { 0 = 0 }) k l)
        ∙ mod-eq_of_lt (small k l)) i)
      where
        small : (k : ℕ) → k < 5 → m.move.travel k < 524288
        small k l = let a = f.move.within k l in let b = f.move.plan k l in omega (arith, a, b)

    positions : (k : ℕ) → k < 5 → (told_by (readings_of (held m))).position k ≡ (told_of m).position k
    positions k l =
        ap (λ (p : Position). twenty (pos p.0 +ℤ negsuc 524287))
        (each_at (λ j. record { 0 = bias (m.position j) }) origin k l)
        ∙ ap twenty (unbiased (m.position k) (f.places.inside k l))
