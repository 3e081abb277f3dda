use Rattle.std.proofs.Common.{◌<◌, length, arith}
use Rattle.edge_stream.proofs.Passing.{rises_in, first_here, first_later}
use Rattle.edge_stream.proofs.counted.first_of.Goals as goal

pub returns-in-Some : goal.returns-in-Some
returns-in-Some c =
    let bs = c.args.batches.now in
    let n = c.loop-place.place in
    let b = c.index.result.now in
    let lt : n < length bs.items = omega (arith, c.loop-place-test.true, c.len-place-end.ensures, bs.ok.0) in
    first_here bs.items n b lt c.index.ensures c.args.t c.loop-place.invariant c.in-Some.sync (c.in-Some.ensures (rises_in bs.items n b lt c.index.ensures c.requires))

pub loop-place-preserved : goal.loop-place-preserved
loop-place-preserved c =
    let bs = c.args.batches.now in
    let n = c.loop-place.place in
    let b = c.index.result.now in
    let lt : n < length bs.items = omega (arith, c.loop-place-test.true, c.len-place-end.ensures, bs.ok.0) in
    first_later bs.items n b lt c.index.ensures c.args.t c.loop-place.invariant (c.in_default.ensures (rises_in bs.items n b lt c.index.ensures c.requires))
