use Rattle.std.proofs.Common.{◌<◌, length, deque_len, rules, arith}
use Rattle.edge_stream.proofs.Passing.{rises_in}
use Rattle.edge_stream.proofs.Gone.{front_cut}
use Rattle.edge_stream.proofs.rest.remove_front.Goals as goal

pub returns-in-Some-clause-edges : goal.returns-in-Some-clause-edges
returns-in-Some-clause-edges c =
    let bs = c.args.batches.now in
    let some : 0 < deque_len bs = search rules in
    let lt : 0 < length bs.items = omega (arith, some, bs.ok.0) in
    let b = c.in-Some.first.now in
    let rises = rises_in bs.items 0 b lt c.in-Some.ensures.value c.requires.rises in
    front_cut c.args.t c.row_from-rows.result bs.items b c.remove_edges.new.batch lt c.in-Some.ensures.value c.remove_edges.ensures.edges (c.row_from-rows.ensures.below rises) (c.row_from-rows.ensures.from rises) c.requires.from
