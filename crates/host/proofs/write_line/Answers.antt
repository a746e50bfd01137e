-- The writer's tests in order; what it promises of every line is in LineTrips. Assumes nothing.
use native.Mathlib.Omega.{arith}
use mathlib.Core.Path.{sym, ◌∙◌}
use Rattle.laws.proofs.Tests.{both}
use Rattle.host.proofs.Writes.{too_short, no_line, query_written, full_written}
use Rattle.host.proofs.LineTrips.{line_trip, line_back}
use Rattle.host.proofs.write_line.Goals as goal

pub returns-then-buf-lt-LINE_ROOM : goal.returns-then-buf-lt-LINE_ROOM
returns-then-buf-lt-LINE_ROOM c =
    let k = too_short c.args.request c.args.buf.now (omega arith) in
    record { result_value = k.0; buf_after = k.1; line_trip = line_trip; line_back = line_back }

pub returns-then-not-has_line : goal.returns-then-not-has_line
returns-then-not-has_line c =
    let k = no_line c.args.request c.args.buf.now (omega arith) (sym c.has_line.ensures ∙ c.if-not-has_line.true) in
    record { result_value = k.0; buf_after = k.1; line_trip = line_trip; line_back = line_back }

pub returns-then-is_query : goal.returns-then-is_query
returns-then-is_query c =
    let k = query_written c.args.request c.args.buf.now (omega arith) (sym c.has_line.ensures ∙ c.if-not-has_line.false)
    (sym c.is_query.ensures ∙ c.if-is_query.true) c.write_query.ensures in
    record { result_value = k.0; buf_after = k.1; line_trip = line_trip; line_back = line_back }

pub content_of-content-requires : goal.content_of-content-requires
content_of-content-requires c = (both _ _ (sym c.has_line.ensures ∙ c.if-not-has_line.false)).0

pub returns : goal.returns
returns c =
    let k = full_written c.args.request c.args.buf.now (omega arith) (sym c.has_line.ensures ∙ c.if-not-has_line.false)
    c.content_of-content.result c.switch.result (sym c.is_query.ensures ∙ c.if-is_query.false)
    c.content_of-content.ensures c.switch.ensures c.write_block.ensures.value c.write_block.ensures.buf_after in
    record { result_value = k.0; buf_after = k.1; line_trip = line_trip; line_back = line_back }
