-- The words behind `carry` in the table, those with an answer of their own, mean no command, whatever follows them.
-- Assumes nothing.
use Rattle.std.proofs.Common.{Option, None, Result, Ok, Err}
use Prim.Native.Nat.{ℕ, ◌≤◌, ◌<◌}
use native.Mathlib.Omega.{arith}
use mathlib.Core.Bool.{Bool, true, false, cond}
use mathlib.Core.List.{List}
use mathlib.Core.Path.{◌≡◌, refl, ap}
use borrow.Author.Tests.{lt-ltb, le-ltb, ne_eqb}
use lib.Dec.{eqb}
use Rattle.numerals.specs.Numerals.{figure_of}
use Rattle.numerals.specs.declared.NoFigure.{NoFigure}
use Rattle.numerals.specs.declared.NoFigure.TheVariants.{Misspelled, Inexact}
use Rattle.sentences.specs.Places as K
use Rattle.line.specs.declared.command.Command.{Command}
use Rattle.phrases.specs.declared.meaning.NoCommand.TheVariants as N
use Rattle.phrases.specs.Meanings.{
  Meant,
  formed,
  word,
  words,
  plain_of,
  with_figure,
  single_of,
  pair_of,
  waiting_of,
  meant_at,
}

abbrev pub Unmeant : Meant → Type 0
Unmeant m = m ≡ Err N.Misspelled

unformed : {x : Option Command} → x ≡ None → Unmeant (formed x)
unformed e = ap formed e

either : (t : Bool) {x y : Meant} → Unmeant x → Unmeant y → Unmeant (cond t x y)
either true p q = p
either false p q = q

module _ (k : ℕ) (h : K.opening ≤ k) where
  other : (j : ℕ) → j < K.opening → eqb k j ≡ false
  other j g = ne_eqb k j (λ (q : k ≡ j). omega arith)

  plain_none : plain_of k ≡ None
  plain_none =
      rw (
        other 12 (omega arith),
        other 13 (omega arith),
        other 14 (omega arith),
        other 15 (omega arith),
        other 16 (omega arith),
        other 17 (omega arith),
      )

  figure_none : (f : Result ℕ NoFigure) → Unmeant (with_figure k f)
  figure_none (Err Misspelled) = refl
  figure_none (Err Inexact) = rw (lt-ltb 10 k (omega arith))
  figure_none (Ok q) = rw (lt-ltb 10 k (omega arith))

  single_none : (w : List ℕ) → Unmeant (single_of k w)
  single_none w =
      rw (other 18 (omega arith), le-ltb k 5 (omega arith), le-ltb k 9 (omega arith)) (figure_none (figure_of w))

  pair_none : (a d : List ℕ) → pair_of k a d ≡ None
  pair_none a d = rw (other 11 (omega arith))

  waiting_none : (m w x : List ℕ) → waiting_of k m w x ≡ None
  waiting_none m w x = rw (other 0 (omega arith))

  pub meant_none : (l : List ℕ) → Unmeant (meant_at k l)
  meant_none l =
      either (eqb (words l) 1) (unformed plain_none)
      (either (eqb (words l) 2) (single_none (word 1 l))
      (either (eqb (words l) 3) (unformed (pair_none (word 1 l) (word 2 l)))
      (either (eqb (words l) 4) (unformed (waiting_none (word 1 l) (word 2 l) (word 3 l))) refl)))
