-- A buffer that was filled with what the bytes from a place on print: the session is the bench after those that were
-- taken, the front part of the buffer is what they print, and they are some of the bytes. Assumes nothing.
use Prim.Native.Nat.{ℕ, ◌+◌, ◌-◌, ◌≤◌, ◌<◌}
use native.Mathlib.Omega.{arith}
use mathlib.Core.List.{List}
use mathlib.Core.Path.{◌≡◌, sym, ap, ◌∙◌}
use lib.ListN.{length, take, drop, length-append}
use Rattle.block.specs.Block.{over, front_of}
use Rattle.block.proofs.Buffers.{front_over}
use Rattle.machine.specs.Calls.{state}
use Rattle.session.specs.declared.state.Session.{Session}
use Rattle.session.specs.Session.{Bench, held_bench, Running, Runs}
use Rattle.session.specs.Lines.{after, printed_by}
use Rattle.console.specs.declared.Line.{Line}
use Rattle.console.specs.Console.{fitting, Fills}
use Rattle.console.proofs.RoomLaws.{part, part_length, part_rest}
use Rattle.console.proofs.FittingLaws.{fitting_some, fitting_short}

module _ (t : Session) (r : Line) (exit entry bs : List ℕ) (i : ℕ)
    (q : Runs t (λ x. Fills r exit entry x (part bs i))) where
  -- The bytes that were taken.
  taken_part : (n : ℕ) → n ≡ r.count → take n (part bs i) ≡ take r.count (drop i bs)
  taken_part n e = ap (take n) (part_rest bs i) ∙ ap (λ (k : ℕ). take k (drop i bs)) e

  pub filled_session : Runs t (λ x. r.session ≡ held_bench (after x (take r.count (drop i bs))))
  filled_session w h p e =
      let x : Bench = record { machine = state w h; place = p } in
      let f = (q w h p e).0 in
      ap (λ (l : Line). l.session) f
      ∙ ap (λ (l : List ℕ). held_bench (after x l))
      (taken_part (fitting (length entry) x (part bs i)) (sym (ap (λ (l : Line). l.count) f)))

  -- As the part of the bytes between two places.
  pub filled_front : length exit ≡ length entry
      → Runs t (λ x. front_of exit r.length ≡ printed_by x (take (i + r.count - i) (drop i bs)))
  unfolding over
  filled_front k w h p e =
      let x : Bench = record { machine = state w h; place = p } in
      let n : ℕ = fitting (length entry) x (part bs i) in
      let s : List ℕ = printed_by x (take n (part bs i)) in
      let f = q w h p e in
      let m : length s ≤ length entry = omega (arith, k, ap length f.1, length-append s (drop (length s) entry)) in
      let v : r.count ≡ i + r.count - i = omega arith in
      ap (λ (d : List ℕ). front_of d r.length) f.1
      ∙ (ap (λ (l : Line). front_of (over s entry) l.length) f.0
      ∙ (front_over s entry m
      ∙ ap (printed_by x) (taken_part n (sym (ap (λ (l : Line). l.count) f.0))
      ∙ ap (λ (j : ℕ). take j (drop i bs)) v)))

  module _ (run : Running t) where
    bench : Bench
    bench = record { machine = state run.switch run.history; place = run.place }

    count_is : r.count ≡ fitting (length entry) bench (part bs i)
    unfolding bench
    count_is = ap (λ (l : Line). l.count) (q run.switch run.history run.place run.made).0

    pub filled_end : i ≤ length bs → i + r.count ≤ length bs
    filled_end h = omega (arith, count_is, fitting_short (part bs i) bench (length entry), part_length bs i)

    pub filled_some : 120 ≤ length entry → i < length bs → 0 < r.count
    filled_some h k =
        let n : 0 < length (part bs i) = omega (arith, part_length bs i) in
        omega (arith, count_is, fitting_some (length entry) bench (part bs i) h n)
