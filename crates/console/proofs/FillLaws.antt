-- The loop that fills a buffer: bytes are taken line by line as long as there is room, and what they print stands at
-- the front of the buffer. Assumes nothing.
use Prim.Native.Nat.{ℕ, ◌+◌, ◌-◌, ◌≤◌, ◌<◌}
use native.Mathlib.Omega.{arith}
use mathlib.Core.List.{List, ◌++◌}
use mathlib.Core.Logic.{◌⊎◌, inl, inr}
use mathlib.Core.Path.{◌≡◌, refl, sym, ap, subst, ◌∙◌}
use lib.ListN.{length, take, drop, length-append, drop_of_length-le}
use lib.Seq.{take-add, drop-drop}
use Rattle.block.specs.Block.{over, put}
use Rattle.block.proofs.Buffers.{over_nil, put_over}
use Rattle.machine.specs.Calls.{state}
use Rattle.session.specs.declared.state.Session.{Session}
use Rattle.session.specs.Session.{Bench, held_bench, Runs}
use Rattle.session.specs.Lines.{after, printed_by}
use Rattle.session.proofs.AfterLaws.{after_both, runs_after}
use Rattle.session.proofs.PrintedLaws.{printed_both}
use Rattle.console.specs.declared.Line.{Line}
use Rattle.console.specs.Console.{Stands, line_length, fitting, held_line, Holds, Fills}
use Rattle.console.proofs.LineLaws.{line_silent}
use Rattle.console.proofs.FittingLaws.{fitting_none, fitting_more}

-- After the first i of the bytes bs, which are l, with m left: the session, the length of what l prints, the buffer,
-- and how many are taken in all.
pub record Filling (entry bs : List ℕ) (t : Session) (at i : ℕ) (exit l m : List ℕ) (x : Bench) : Type 0 where
  pub held : t ≡ held_bench (after x l)
  pub ends : at ≡ length (printed_by x l)
  pub holds : exit ≡ over (printed_by x l) entry
  pub left : fitting (length entry) x bs ≡ i + fitting (length entry - at) (after x l) m

-- What a line that begins with the first of the bytes m tells.
abbrev pub Lined : Session → ℕ → List ℕ → List ℕ → Line → List ℕ → Type 0
Lined t at out exit r m =
    Runs t (λ x. r.session ≡ held_bench (after x (take r.count m)))
    × (Runs t (λ x. Stands at r.length (printed_by x (take r.count m)) exit out) × (r.count ≡ line_length m))

module _ (entry bs : List ℕ) where
  fitting_first : (x : Bench) → fitting (length entry) x bs ≡ 0 + fitting (length entry - 0) x bs
  fitting_first x =
      let e : length entry - 0 ≡ length entry = omega arith in omega (arith, ap (λ (k : ℕ). fitting k x bs) e)

  pub filling_none : (s : Session) → Runs s (Filling entry bs s 0 0 entry (take 0 bs) (drop 0 bs))
  unfolding after printed_by
  filling_none s w h p e = record {
    held = sym e;
    ends = refl;
    holds = sym (over_nil entry);
    left = fitting_first (record { machine = state w h; place = p });
  }

  module _ (t : Session) (at i : ℕ) (out : List ℕ) where
    line_more : (r : Line) (exit l m : List ℕ) (x : Bench) → 120 ≤ length entry - at
        → Filling entry bs t at i out l m x
        → r.session ≡ held_bench (after (after x l) (take r.count m))
        → Stands at r.length (printed_by (after x l) (take r.count m)) exit out
        → r.count ≡ line_length m
        → Filling entry bs r.session r.length (i + r.count) exit (l ++ take r.count m) (drop r.count m) x
    line_more r exit l m x room f a b n =
        let y : Bench = after x l in
        let k : List ℕ = take r.count m in
        let e : length entry - at - length (printed_by y k) ≡ length entry - r.length = omega (arith, b.0) in
        record {
          held = a ∙ ap held_bench (after_both l k x);
          ends = omega (
            arith,
            b.0,
            f.ends,
            ap length (printed_both l k x),
            length-append (printed_by x l) (printed_by y k),
          );
          holds = b.1 ∙ (ap (λ (j : ℕ). put j (printed_by y k) out) f.ends
              ∙ (ap (put (length (printed_by x l)) (printed_by y k)) f.holds
              ∙ (put_over (printed_by x l) (printed_by y k) entry
              ∙ ap (λ (s : List ℕ). over s entry) (sym (printed_both l k x)))));
          left = omega (
            arith,
            f.left,
            fitting_more r.count m y (length entry - at) room (omega (arith, n))
                (line_silent m y (r.count - 1) (omega (arith, n))),
            ap (λ (j : ℕ). fitting j (after y k) (drop r.count m)) e,
            ap (λ (z : Bench). fitting (length entry - r.length) z (drop r.count m)) (after_both l k x),
          );
        }

    pub filling_more : (s : Session) (r : Line) (exit : List ℕ) → 120 ≤ length entry - at
        → Runs s (Filling entry bs t at i out (take i bs) (drop i bs))
        → Lined t at out exit r (drop i bs)
        → Runs s (Filling entry bs r.session r.length (i + r.count) exit (take (i + r.count) bs)
        (drop (i + r.count) bs))
    filling_more s r exit room past next w h p e =
        let n : ℕ = r.count in
        let x : Bench = record { machine = state w h; place = p } in
        let held : Runs s (λ y. t ≡ held_bench (after y (take i bs))) = λ w h p e. (past w h p e).held in
        subst (λ (l : List ℕ). Filling entry bs r.session r.length (i + n) exit l (drop (i + n) bs) x)
        (sym (take-add i n bs))
        (subst
        (λ (m : List ℕ). Filling entry bs r.session r.length (i + n) exit (take i bs ++ take n (drop i bs)) m x)
        (drop-drop n i bs)
        (line_more r exit (take i bs) (drop i bs) x room (past w h p e)
        (runs_after s t (take i bs) (λ y. r.session ≡ held_bench (after y (take n (drop i bs)))) held next.0 w h p e)
        (runs_after s t (take i bs) (λ y. Stands at r.length (printed_by y (take n (drop i bs))) exit out) held
        next.1.0 w h p e)
        next.1.1))

    stops : (y : Bench) → (length bs ≤ i) ⊎ (length entry - at < 120) → fitting (length entry - at) y (drop i bs) ≡ 0
    unfolding fitting
    stops y (inl d) = ap (fitting (length entry - at) y) (drop_of_length-le bs d)
    stops y (inr d) = fitting_none (length entry - at) y (drop i bs) d

    -- No byte is left, or no room.
    pub filling_done : (s : Session) → Runs s (Filling entry bs t at i out (take i bs) (drop i bs))
        → (length bs ≤ i) ⊎ (length entry - at < 120)
        → Runs s (λ x. Fills (record { session = t; length = at; count = i }) out entry x bs)
    filling_done s past why w h p e =
        let x : Bench = record { machine = state w h; place = p } in
        let f = past w h p e in
        let n : i ≡ fitting (length entry) x bs = omega (arith, f.left, stops (after x (take i bs)) why) in
        subst (λ (j : ℕ). (record { session = t; length = at; count = i } ≡ held_line x bs j) × Holds out entry x bs j) n
        ((λ j. record { session = f.held j; length = f.ends j; count = i }), f.holds)
