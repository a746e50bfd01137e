-- Paper 02, 1/14: the entry of a move, which the tick that ends it answers.
use Rattle.std.specs.Prelude.{cond, eqb}
use Rattle.laws.specs.Axes.{each, directed}
use Rattle.journal.specs.declared.Entry.{Entry}
use Rattle.machine.specs.State.{Move}
use Rattle.machine.specs.Shares.{whole, gone}

-- What a tick answers of it.
pub data EntryAnswer : Type 0 where
  -- no move ends in the tick
  no_entry : EntryAnswer
  -- the entry of the move that ends in it
  entry : Entry → EntryAnswer

-- Ticks moved, cause (0 where m reached M, else 1, stopped) and five signed travels.
abbrev pub entry_of : Move → Entry
entry_of v = record {
  ticks = v.ticks;
  cause = cond (eqb (gone v) (whole v)) 0 1;
  travels = each (λ k. directed (v.plan.minus k) (v.travel k));
}
