-- The characters of a line and the byte behind them: only that byte prints, and how many bytes they are. Assumes
-- nothing.
use Prim.Native.Nat.{ℕ, ◌+◌, ◌≤◌, ◌<◌}
use native.Mathlib.Omega.{arith}
use native.Mathlib.Numerals.{add-one}
use mathlib.Core.List.{List, [], ◌∷◌, ◌++◌}
use mathlib.Core.Path.{◌≡◌, sym, ap, subst, ◌∙◌}
use lib.ListN.{length, get_or, take, take-append-drop}
use lib.Seq.{take-suc, take-take}
use Rattle.receiver.proofs.Laws.{before_take, before_short}
use Rattle.block.specs.Block.{over, put}
use Rattle.machine.specs.Calls.{state}
use Rattle.session.specs.declared.state.Gathered.{Gathered}
use Rattle.session.specs.declared.state.Session.{Session}
use Rattle.session.specs.Session.{Bench, taken, held_bench, Running, Runs}
use Rattle.session.specs.Lines.{after, printed_by}
use Rattle.session.specs.Stretch.{is_mark, stretch, held_stretch, Silent}
use Rattle.session.proofs.AfterLaws.{runs_after}
use Rattle.session.proofs.PrintedLaws.{printed_both, printed_one, printed_silent, silent_take}
use Rattle.session.proofs.StretchLaws.{silent}
use Rattle.console.specs.Console.{Stands, line_length}

-- The characters of a line are silent.
pub line_silent : (bs : List ℕ) (x : Bench) (n : ℕ) → n ≤ length (stretch bs) → Silent x (take n bs)
line_silent bs x n h =
    subst (Silent x)
    (ap (take n) (sym (before_take is_mark bs)) ∙ take-take n (length (stretch bs)) bs h)
    (silent_take n (stretch bs) x (silent bs x))

-- So what the byte behind them prints is all that is printed.
printed_next : (x : Bench) (bs : List ℕ) (n : ℕ) → n < length bs → n ≤ length (stretch bs)
    → printed_by x (take (n + 1) bs) ≡ (taken (after x (take n bs)) (get_or bs n 0)).printed
printed_next x bs n h k =
    rw (add-one n, take-suc bs n 0 h) (printed_both (take n bs) (get_or bs n 0 ∷ []) x
    ∙ (ap (λ (t : List ℕ). t ++ printed_by (after x (take n bs)) (get_or bs n 0 ∷ []))
    (printed_silent (take n bs) x (line_silent bs x n k))
    ∙ printed_one (after x (take n bs)) (get_or bs n 0)))

put_nil : (at : ℕ) (o : List ℕ) → put at [] o ≡ o
unfolding put over
put_nil at o = take-append-drop at o

module _ (s : Session) (g : Gathered) (bs : List ℕ) (run : Running s) (q : Runs s (λ x. g ≡ held_stretch x bs)) where
  count_is : g.count ≡ length (stretch bs)
  count_is = ap (λ (y : Gathered). y.count) (q run.switch run.history run.place run.made)

  pub line_whole : g.count < length bs → g.count + 1 ≡ line_length bs
  line_whole h = omega (arith, count_is)

  pub line_part : length bs ≤ g.count → g.count ≡ line_length bs
  line_part h = omega (arith, count_is, before_short is_mark bs)

  pub whole_stands : (at n : ℕ) (exit entry : List ℕ) → g.count < length bs
      → Runs s (λ x. g.session ≡ held_bench (after x (take g.count bs)))
      → Runs g.session (λ x. Stands at n (taken x (get_or bs g.count 0)).printed exit entry)
      → Runs s (λ x. Stands at n (printed_by x (take (g.count + 1) bs)) exit entry)
  whole_stands at n exit entry h past next w l p e =
      subst (λ (t : List ℕ). Stands at n t exit entry)
      (sym (printed_next (record { machine = state w l; place = p }) bs g.count h (omega (arith, count_is))))
      (runs_after s g.session (take g.count bs)
      (λ x. Stands at n (taken x (get_or bs g.count 0)).printed exit entry) past next w l p e)

  pub part_stands : (at : ℕ) (o : List ℕ) → Runs s (λ x. Stands at at (printed_by x (take g.count bs)) o o)
  part_stands at o w l p e =
      let x : Bench = record { machine = state w l; place = p } in
      subst (λ (t : List ℕ). Stands at at t o o)
      (sym (printed_silent (take g.count bs) x (line_silent bs x g.count (omega (arith, count_is)))))
      (omega arith, sym (put_nil at o))
