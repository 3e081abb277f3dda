use Rattle.std.proofs.Common.{◌≡◌, ◌∙◌, ◌+◌, ◌-◌, ◌<◌, length, drop, ap, arith}
use Rattle.edge_stream.specs.Listing.{edges_in}
use Rattle.edge_stream.proofs.Passing.{last_here, last_before}
use Rattle.edge_stream.proofs.counted.last_of.Goals as goal

pub returns-in-Some : goal.returns-in-Some
returns-in-Some c =
    let bs = c.args.batches.now in
    let n = c.loop-place.place - 1 in
    let lt : n < length bs.items = omega (arith, c.loop-place-test.true, c.loop-place.auto.place, c.len-place.ensures, bs.ok.0) in
    let next : n + 1 ≡ c.loop-place.place = omega (arith, c.loop-place-test.true) in
    last_here bs.items n c.index.result.now lt c.index.ensures (ap (λ m. edges_in (drop m bs.items)) next ∙ c.loop-place.invariant) c.in-Some.rank c.in-Some.ensures

pub loop-place-preserved : goal.loop-place-preserved
loop-place-preserved c =
    let bs = c.args.batches.now in
    let n = c.loop-place.place - 1 in
    let lt : n < length bs.items = omega (arith, c.loop-place-test.true, c.loop-place.auto.place, c.len-place.ensures, bs.ok.0) in
    let next : n + 1 ≡ c.loop-place.place = omega (arith, c.loop-place-test.true) in
    last_before bs.items n c.index.result.now lt c.index.ensures (ap (λ m. edges_in (drop m bs.items)) next ∙ c.loop-place.invariant) c.in_default.ensures
