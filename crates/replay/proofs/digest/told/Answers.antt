-- `told` meets its contract, by the answers of its callees. Assumes nothing.
use borrow.Author.Rules.{rules}
use lib.IntN.{pos}
use lib.ListN.{get_or}
use mir.Syntax.{w32}
use mir.Val.{SFits}
use Rattle.laws.proofs.Signs.{answered}
use Rattle.replay.specs.Digest.{raised}
use Rattle.replay.proofs.RaisedLaws.{told_is}
use Rattle.replay.proofs.digest.told.Goals as goal

pub returns : goal.returns
returns c =
    let f0 : SFits w32 (get_or c.args.entry.travels 0 (pos 0)) = search rules in
    let f1 : SFits w32 (get_or c.args.entry.travels 1 (pos 0)) = search rules in
    let f2 : SFits w32 (get_or c.args.entry.travels 2 (pos 0)) = search rules in
    let f3 : SFits w32 (get_or c.args.entry.travels 3 (pos 0)) = search rules in
    let f4 : SFits w32 (get_or c.args.entry.travels 4 (pos 0)) = search rules in
    told_is _ c.args.entry _ _ _ _ _ _ _ _ c.mix-counted.ensures c.mix-moved.ensures c.mix.ensures
    (answered raised w32 _ _ f0 c.raise.ensures) (answered raised w32 _ _ f1 c.raise-2.ensures)
    (answered raised w32 _ _ f2 c.raise-3.ensures) (answered raised w32 _ _ f3 c.raise-4.ensures)
    (answered raised w32 _ _ f4 c.raise-5.ensures)
