-- `read` meets its contract. The invariant: what is left to read, read on from the number so far, is the whole. Assumes
-- nothing.
use Rattle.std.proofs.Common.{arith, ℕ, Option, Some, None, List, ◌+◌, ◌<◌, ◌≡◌, sym, ap, ◌∙◌}
use lib.ListN.{length, get_or, drop}
use Rattle.laws.proofs.Pick.{told_false}
use Rattle.numerals.specs.Numerals.{join_of, read_on}
use Rattle.numerals.proofs.Laws.{read_next, read_end, read_none}
use Rattle.numerals.proofs.read.Goals as goal

-- One character more, read as r.
one_more : (base n i : ℕ) (cs : List ℕ) (r : Option ℕ) → i < length cs
    → read_on base (Some 0) cs ≡ read_on base (Some n) (drop i cs)
    → join_of base (Some n) (get_or cs i 0) ≡ r
    → read_on base (Some 0) cs ≡ read_on base r (drop (i + 1) cs)
one_more base n i cs r h k e =
    k ∙ read_next base (Some n) i cs h ∙ ap (λ x. read_on base x (drop (i + 1) cs)) e

pub returns-in_err-n : goal.returns-in_err-n
returns-in_err-n c =
    let cs = c.args.cs.now in
    told_false _ _ _ _ _ c.is_empty.ensures c.if-is_empty.false
    (c.from_residual.ensures
    ∙ sym (one_more c.args.base c.loop-c.n c.loop-c.c-index cs None (omega arith) c.loop-c.invariant
    (sym c.join.ensures ∙ c.in_err-n.was)
    ∙ read_none c.args.base (drop (c.loop-c.c-index + 1) cs)))

pub loop-c-preserved : goal.loop-c-preserved
loop-c-preserved c =
    one_more c.args.base c.loop-c.n c.loop-c.c-index c.args.cs.now (Some c.in_ok-n.n) (omega arith) c.loop-c.invariant
    (sym c.join.ensures ∙ c.in_ok-n.was)

pub returns : goal.returns
returns c =
    told_false _ _ _ _ _ c.is_empty.ensures c.if-is_empty.false
    (sym (c.loop-c.invariant ∙ read_end c.args.base (Some c.loop-c.n) c.loop-c.c-index c.args.cs.now (omega arith)))
