-- A byte of the input with room for what it prints, in the part of a buffer from a place on: the session is the bench
-- after it, and what is printed stands in the buffer from that place on. Assumes nothing.
use Prim.Native.Nat.{ℕ, ◌+◌, ◌-◌, ◌≤◌}
use native.Mathlib.Omega.{arith}
use mathlib.Core.Bool.{Bool, cond}
use mathlib.Core.List.{List, ◌++◌}
use mathlib.Core.Path.{◌≡◌, ap, subst}
use borrow.Author.Tests.{le-ltb}
use lib.ListN.{length, length-append, take, drop, length-drop}
use lib.Seq.{length-take-le, take_all}
use Rattle.block.specs.Block.{over}
use Rattle.block.proofs.Buffers.{part_over}
use Rattle.machine.specs.Calls.{state}
use Rattle.session.specs.declared.state.Session.{Session}
use Rattle.session.specs.declared.state.Taken.{Taken}
use Rattle.session.specs.Session.{Bench, Told, Answers, Runs, Running, taken, untaken, held_bench}
use Rattle.console.specs.Console.{Stands}

-- The part of a buffer from a place on.
abbrev pub part : List ℕ → ℕ → List ℕ
part o at = take (length o - at) (drop at o)

pub part_length : (o : List ℕ) (at : ℕ) → length (part o at) ≡ length o - at
part_length o at = length-take-le (length o - at) (drop at o) (omega (arith, length-drop at o))

pub part_rest : (o : List ℕ) (at : ℕ) → part o at ≡ drop at o
part_rest o at = take_all (length o - at) (drop at o) (omega (arith, length-drop at o))

module _ (s : Session) (b at : ℕ) (r : Taken) (x o : List ℕ) (q : Runs s (λ y. Answers r x (part o at) y (taken y b)))
    (room : at + 120 ≤ length o) where
  -- There is room: the byte is taken.
  told : Runs s (λ y. Told r x (part o at) (taken y b))
  told w h p e =
      let y : Bench = record { machine = state w h; place = p } in
      subst (λ (t : Bool). Told r x (part o at) (cond t (untaken y) (taken y b)))
      (le-ltb (length (part o at)) 120 (omega (arith, part_length o at))) (q w h p e)

  pub room_bench : Runs s (λ y. r.session ≡ held_bench (taken y b).bench)
  room_bench w h p e = ap (λ (t : Taken). t.session) (told w h p e).0

  pub room_stands : Runs s (λ y. Stands at (at + r.length) (taken y b).printed
      (take at o ++ (x ++ drop (length o - at) (drop at o))) o)
  room_stands w h p e = (
    ap (λ (t : Taken). at + t.length) (told w h p e).0,
    part_over at (taken (record { machine = state w h; place = p }) b).printed o x (told w h p e).1,
  )

  pub room_length : Running s → length x ≡ length (part o at) → at + r.length ≤ length o
  unfolding over
  room_length run k =
      let y : Bench = record { machine = state run.switch run.history; place = run.place } in
      let t = told run.switch run.history run.place run.made in
      omega (
        arith,
        ap (λ (v : Taken). v.length) t.0,
        ap length t.1,
        length-append (taken y b).printed (drop (length (taken y b).printed) (part o at)),
        part_length o at,
        room,
      )
