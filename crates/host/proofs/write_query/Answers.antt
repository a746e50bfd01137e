-- Three stores at the front. Assumes nothing.
use native.Mathlib.Omega.{arith}
use Rattle.host.proofs.Writes.{query_stored}
use Rattle.host.proofs.write_query.Goals as goal

pub returns : goal.returns
returns c =
    query_stored c.args.silent c.switch.result c.capital.result c.args.buf.now
    c.switch.ensures c.capital.ensures (omega arith)
