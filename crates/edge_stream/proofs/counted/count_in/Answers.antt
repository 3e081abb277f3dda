use Rattle.std.proofs.Common.{arith}
use Rattle.batch.specs.Rows.{edges_of}
use Rattle.edge_stream.proofs.Fronts.{many_front, many_fewer, some_high}
use Rattle.edge_stream.proofs.counted.count_in.Goals as goal

pub returns-clause-count : goal.returns-clause-count
returns-clause-count c = λ rises.
    let rows = c.args.batch.now.rows in
    let before = many_front c.args.from c.row_from.result rows (c.row_from.ensures.below rises) (c.row_from.ensures.from rises) in
    let up_to = many_front c.args.to c.row_from-end.result rows (c.row_from-end.ensures.below rises) (c.row_from-end.ensures.from rises) in
    omega (arith, before, up_to, many_fewer c.args.from c.args.to (edges_of rows) c.requires, c.edges_between-count.ensures)

pub returns-clause-later : goal.returns-clause-later
returns-clause-later c = λ rises yes. some_high c.args.to c.row_from-end.result c.args.batch.now.rows (c.row_from-end.ensures.from rises) (c.has_rest.ensures.some yes)
