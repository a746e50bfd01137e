-- Status bit 1 is the move's own flag, bits 3 and 6 the stop's, bit 5 the emergency's. Assumes nothing.
use Prim.Native.Nat.{ℕ, ◌+◌, ◌*◌, ◌/◌, ◌%◌, ◌≤◌, ◌<◌}
use mathlib.Core.Bool.{Bool, true, false, ◌||◌}
use mathlib.Core.Path.{◌≡◌, refl}
use native.Mathlib.Omega.{arith}
use borrow.Author.Tests.{eq-eqb, ne_eqb}
use lib.Dec.{ltb}
use Rattle.machine.specs.State.{Machine}
use Rattle.laws.specs.Bits.{bit, weight}
use Rattle.machine.specs.Stops.{blocked, current, status}
use Rattle.machine.specs.Roles.{moves}

-- What a flag weighs is so many times what it weighs less.
times : (k : ℕ) (b : Bool) (n m : ℕ) → m ≡ k * n → weight b m ≡ k * weight b n
times k true n m e = e
times k false n m e = omega arith

is_high : (n : ℕ) → 2 ≤ n % 4 → bit n 1 ≡ true
is_high n h = eq-eqb (n / 2 % 2) 1 (omega arith)

is_low : (n : ℕ) → n % 4 < 2 → bit n 1 ≡ false
is_low n h = ne_eqb (n / 2 % 2) 1 (λ (q : n / 2 % 2 ≡ 1). omega arith)

second_bit : (a b c d e f g : Bool)
    → bit (weight a 1 + weight b 2 + weight c 4 + weight d 8 + weight e 16 + weight f 32 + weight g 64) 1 ≡ b
second_bit a b c d e f g = by_cases a b
  where
    c4 : weight c 4 ≡ 4 * weight c 1
    c4 = times 4 c 1 4 refl

    d4 : weight d 8 ≡ 4 * weight d 2
    d4 = times 4 d 2 8 refl

    e4 : weight e 16 ≡ 4 * weight e 4
    e4 = times 4 e 4 16 refl

    f4 : weight f 32 ≡ 4 * weight f 8
    f4 = times 4 f 8 32 refl

    g4 : weight g 64 ≡ 4 * weight g 16
    g4 = times 4 g 16 64 refl

    by_cases : (a b : Bool)
        → bit (weight a 1 + weight b 2 + weight c 4 + weight d 8 + weight e 16 + weight f 32 + weight g 64) 1 ≡ b
    by_cases true true =
        is_high (1 + 2 + weight c 4 + weight d 8 + weight e 16 + weight f 32 + weight g 64)
        (omega (arith, c4, d4, e4, f4, g4))
    by_cases false true =
        is_high (0 + 2 + weight c 4 + weight d 8 + weight e 16 + weight f 32 + weight g 64)
        (omega (arith, c4, d4, e4, f4, g4))
    by_cases true false =
        is_low (1 + 0 + weight c 4 + weight d 8 + weight e 16 + weight f 32 + weight g 64)
        (omega (arith, c4, d4, e4, f4, g4))
    by_cases false false =
        is_low (0 + 0 + weight c 4 + weight d 8 + weight e 16 + weight f 32 + weight g 64)
        (omega (arith, c4, d4, e4, f4, g4))

-- Status bit 1 says whether the move runs.
pub status_moving : (m : Machine) → moves m ≡ m.move.moving
status_moving m =
    second_bit (m.move.moving || ltb 0 m.pause.left) m.move.moving m.flags.wrong_master m.flags.stopped
    (blocked m (current m)) m.flags.emergency m.flags.sensed

at_most : (b : Bool) (n : ℕ) → weight b n ≤ n
at_most true n = omega arith
at_most false n = omega arith

fourth_bit : (a b c d e f g : Bool)
    → bit (weight a 1 + weight b 2 + weight c 4 + weight d 8 + weight e 16 + weight f 32 + weight g 64) 3 ≡ d
fourth_bit a b c d e f g = when d
  where
    when : (d : Bool)
        → bit (weight a 1 + weight b 2 + weight c 4 + weight d 8 + weight e 16 + weight f 32 + weight g 64) 3 ≡ d
    when true =
        let l = at_most a 1 in
        let m = at_most b 2 in
        let n = at_most c 4 in
        let x = times 16 e 1 16 refl in
        let y = times 16 f 2 32 refl in
        let z = times 16 g 4 64 refl in
        eq-eqb ((weight a 1 + weight b 2 + weight c 4 + 8 + weight e 16 + weight f 32 + weight g 64) / 8 % 2) 1
        (omega (arith, l, m, n, x, y, z))
    when false =
        let l = at_most a 1 in
        let m = at_most b 2 in
        let n = at_most c 4 in
        let x = times 16 e 1 16 refl in
        let y = times 16 f 2 32 refl in
        let z = times 16 g 4 64 refl in
        let t = weight a 1 + weight b 2 + weight c 4 + 0 + weight e 16 + weight f 32 + weight g 64 in
        ne_eqb (t / 8 % 2) 1 (λ (q : t / 8 % 2 ≡ 1). omega (arith, l, m, n, x, y, z))

-- What weighs less than bit 5, and less than bit 6.
low_five : (a b c d e : Bool) → weight a 1 + weight b 2 + weight c 4 + weight d 8 + weight e 16 ≤ 31
low_five a b c d e =
    let l = at_most a 1 in
    let m = at_most b 2 in
    let n = at_most c 4 in
    let o = at_most d 8 in
    let p = at_most e 16 in
    omega (arith, l, m, n, o, p)

low_six : (n : ℕ) (f : Bool) → n ≤ 31 → n + weight f 32 ≤ 63
low_six n f h = let l = at_most f 32 in omega (arith, l)

sixth_bit : (n : ℕ) (f g : Bool) → n ≤ 31 → bit (n + weight f 32 + weight g 64) 5 ≡ f
sixth_bit n true g h =
    let z = times 64 g 1 64 refl in
    eq-eqb ((n + 32 + weight g 64) / 32 % 2) 1 (omega (arith, z))
sixth_bit n false g h =
    let z = times 64 g 1 64 refl in
    ne_eqb ((n + 0 + weight g 64) / 32 % 2) 1 (λ (q : (n + 0 + weight g 64) / 32 % 2 ≡ 1). omega (arith, z))

seventh_bit : (n : ℕ) (g : Bool) → n ≤ 63 → bit (n + weight g 64) 6 ≡ g
seventh_bit n true h = eq-eqb ((n + 64) / 64 % 2) 1 (omega arith)
seventh_bit n false h = ne_eqb ((n + 0) / 64 % 2) 1 (λ (q : (n + 0) / 64 % 2 ≡ 1). omega arith)

module _ (m : Machine) where
  -- Status bit 3 says whether a stop by order, limit or watch was marked, bit 5 whether emergency is held, bit 6
  -- whether a stop by the sensor was marked.
  pub status_stopped : bit (status m) 3 ≡ m.flags.stopped
  status_stopped =
      fourth_bit (m.move.moving || ltb 0 m.pause.left) m.move.moving m.flags.wrong_master
      m.flags.stopped (blocked m (current m)) m.flags.emergency m.flags.sensed

  low : weight (m.move.moving || ltb 0 m.pause.left) 1 + weight m.move.moving 2
      + weight m.flags.wrong_master 4 + weight m.flags.stopped 8 + weight (blocked m (current m)) 16
      ≤ 31
  low =
      low_five (m.move.moving || ltb 0 m.pause.left) m.move.moving m.flags.wrong_master
      m.flags.stopped (blocked m (current m))

  pub status_emergency : bit (status m) 5 ≡ m.flags.emergency
  status_emergency = sixth_bit _ m.flags.emergency m.flags.sensed low

  pub status_sensed : bit (status m) 6 ≡ m.flags.sensed
  status_sensed = seventh_bit _ m.flags.sensed (low_six _ m.flags.emergency low)
