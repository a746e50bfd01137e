-- The command values of a speed that is held are those of the speed itself: a number that was kept as the largest is out
-- of range as it was. Assumes nothing.
use Rattle.std.proofs.Common.{Option, Some, None, Result, Ok, Err}
use Prim.Native.Nat.{ℕ, ◌*◌, min, ◌≤◌, ◌<◌}
use native.Mathlib.Omega.{arith}
use mathlib.Core.Bool.{Bool, true, false, cond, ◌||◌}
use mathlib.Core.List.{[], ◌∷◌}
use mathlib.Core.Path.{◌≡◌, refl}
use borrow.Author.Tests.{lt-ltb, eq-eqb, ne_eqb, ltb-true, ltb-false, eqb-true}
use lib.Dec.{ltb, eqb}
use Rattle.line.specs.declared.command.Command.TheVariants as C
use Rattle.numerals.specs.Numerals.{largest}
use Rattle.station.specs.declared.Refusal.{Refusal}
use Rattle.station.specs.declared.Refusal.TheVariants.{Unknown, OutOfRange}
use Rattle.station.specs.declared.Requests.{Requests}
use Rattle.station.specs.declared.forms.Form as D
use Rattle.station.specs.Forms.{Form, speed}
use Rattle.station.specs.Station.{asks, values_of, is_other, is_out}
use Rattle.station.specs.Held.{held_form, requests, held_speed, held_answer}

-- The answer for what one of the four says.
abbrev pub answer_in : Form → Result Requests Refusal
answer_in f = cond (is_other f) (Err Unknown) (cond (is_out f) (Err OutOfRange) (Ok (requests (values_of f))))

-- What is answered for what is held, if anything is.
abbrev pub answer_held : Option D.Form → Result Requests Refusal
answer_held None = Err Unknown
answer_held (Some f) = held_answer f

-- A number n and what is held of it, v: up to the most that is in range they are equal, and beyond it both are.
pub record Kept (most n v : ℕ) : Type 0 where
  pub within : n ≤ most → v ≡ n
  pub over : most < n → most < v

held_speed_lem : (n v : ℕ) → Kept 250000 n v → held_speed v ≡ answer_in (speed n)
held_speed_lem n v k = when (eqb n 0) (ltb 250000 n) refl refl
  where
    when : (s t : Bool) → eqb n 0 ≡ s → ltb 250000 n ≡ t
        → held_speed v ≡ cond (s || t) (Err OutOfRange) (Ok (requests (asks (C.Set 8 (4 * n)) ∷ [])))
    when true t e f =
        let z : n ≡ 0 = eqb-true n 0 e in
        let y : v ≡ n = k.within (omega arith) in
        rw (eq-eqb v 0 (omega arith))
    when false true e f =
        let y : 250000 < v = k.over (ltb-true 250000 n f) in
        rw (ne_eqb v 0 (λ (q : v ≡ 0). omega arith), lt-ltb 250000 v y)
    when false false e f = rw (k.within (ltb-false 250000 n f), e, f)

-- A speed as it is held.
pub speed_answer : (n : ℕ) → answer_held (held_form (speed n)) ≡ answer_in (speed n)
speed_answer n =
    held_speed_lem n (min largest n) (record { within = λ h. omega arith; over = λ h. omega arith })
