-- The numbers that turn lines away, as U blocks tell them: 4 to 17, and 26. Assumes nothing.
use Rattle.std.proofs.Common.{Option, None}
use Prim.Native.Nat.{ℕ, ◌≤◌, ◌<◌}
use native.Mathlib.Omega.{arith}
use mathlib.Core.Bool.{Bool, true, false, cond, not, ◌&&◌}
use mathlib.Core.Path.{◌≡◌, refl}
use lib.Dec.{ltb, eqb, lit≤}
use Rattle.laws.specs.Axes.{some}
use Rattle.laws.proofs.Pick.{by_bool}
use Rattle.line.specs.declared.command.Command.{Command}
use Rattle.line.specs.declared.command.Command.TheVariants as C
use Rattle.reply.specs.Reply.{refusal_ident}
use Rattle.machine.specs.State.{Machine}
use Rattle.machine.specs.Stops as Stops
use Rattle.machine.specs.Starts.{
  start_number,
  carry_number,
  can_carry_on,
  open_plan,
  turned_by,
  outside,
  final,
}
use Rattle.machine.specs.Commands.{number, own_number, stores, wants_rest}
use Rattle.reader.specs.Blocks.{VerdictFits}

-- 4 to 17, or 26.
abbrev pub Known : ℕ → Type 0
Known n = (4 ≤ n) × (17 < n → n ≡ 26)

pub known : (n : ℕ) → 4 ≤ n → n ≤ 17 → Known n
known n h k = (h, λ (q : 17 < n). absurd (omega arith))

-- With the identification that a turned-away line is answered with.
pub refusal_fits : (n : ℕ) (ident : Option ℕ) → Known n → VerdictFits n (refusal_ident n ident)
refusal_fits n ident h _ = record { low = h.0; high = h.1; own = own (ltb n 8) }
  where
    own : (t : Bool) → cond t None (cond t None ident) ≡ cond t None ident
    own true = refl
    own false = refl

-- A number that is 0, or from 11 on one of those.
abbrev pub Late : ℕ → Type 0
Late n = (n ≡ 0 → ⊥) → Known n

turned_late : (n : ℕ) (applies : Bool) (rest : ℕ) → Known n → Late rest → Late (turned_by n applies rest)
turned_late n true rest h r q = h
turned_late n false rest h r q = r q

zero_late : Late 0
zero_late q = absurd (q refl)

start_late : (m : Machine) (k : ℕ) → Late (start_number m k)
start_late m k =
    turned_late 12 m.flags.emergency _ (known 12 (lit≤ tt) (lit≤ tt))
    (turned_late 13 (Stops.sensor_active m) _ (known 13 (lit≤ tt) (lit≤ tt))
    (turned_late 14 (some (λ j. ltb (m.next.distance k) (m.next.distance j))) _ (known 14 (lit≤ tt) (lit≤ tt))
    (turned_late 15 (eqb (m.next.distance k) 0) _ (known 15 (lit≤ tt) (lit≤ tt))
    (turned_late 16 (Stops.blocked m m.next) _ (known 16 (lit≤ tt) (lit≤ tt))
    (turned_late 17 (some (λ j. outside (final m m.next j))) 0 (known 17 (lit≤ tt) (lit≤ tt)) zero_late)))))

carry_late : (m : Machine) → Late (carry_number m)
carry_late m =
    turned_late 26 (not (can_carry_on m)) _ (lit≤ tt, λ _. refl)
    (turned_late 12 m.flags.emergency _ (known 12 (lit≤ tt) (lit≤ tt))
    (turned_late 13 (Stops.sensor_active m) _ (known 13 (lit≤ tt) (lit≤ tt))
    (turned_late 16 (Stops.blocked m (open_plan m)) _ (known 16 (lit≤ tt) (lit≤ tt))
    (turned_late 17 (some (λ j. outside (final m (open_plan m) j))) 0 (known 17 (lit≤ tt) (lit≤ tt)) zero_late))))

own_late : (m : Machine) (c : Command) → Late (own_number m c)
own_late m (C.Distance k s d) = zero_late
own_late m (C.Set k v) = zero_late
own_late m (C.Start k waits) = by_bool Late (stores m waits) 0 (start_number m k) (λ _. zero_late) (λ _. start_late m k)
own_late m (C.Order k) = by_bool Late (eqb k 12) (carry_number m) 0 (λ _. carry_late m) (λ _. zero_late)
own_late m (C.Outputs v) = zero_late
own_late m (C.Read r) = zero_late

pub number_late : (m : Machine) (c : Command) → Late (number m c)
number_late m c =
    turned_late 11 (m.move.moving && wants_rest c) (own_number m c) (known 11 (lit≤ tt) (lit≤ tt)) (own_late m c)
