use Rattle.std.proofs.Common.{◌≡◌, ◌<◌, ◌∙◌, true, map, sym, length, subst, arith}
use Rattle.occupancy.specs.Bits.{is_set_at, IsNextSet, IsNoneSet}
use Rattle.edge_stream.proofs.Ahead.{ahead-none, ahead_skip, at_end}
use Rattle.edge_stream.proofs.CutLists.{at_place}
use Rattle.edge_stream.proofs.cursor.next_place.Goals as goal

pub returns-in-Some-clause-at : goal.returns-in-Some-clause-at
returns-in-Some-clause-at c =
    let bs = c.args.batches.now in
    let lt : c.loop-place.place < length bs.items = omega (arith, c.loop-place-test.true, c.len.ensures, bs.ok.0) in
    let next = subst (λ o. IsNextSet o.items c.loop-place.row c.in-Some.found) c.occupancy.ensures c.in-Some.ensures.found in
    at_place (λ b. is_set_at (map (λ r. r.occupied) b.rows) c.in-Some.found ≡ true) bs.items c.loop-place.place c.index.result.now lt c.index.ensures next.set

pub returns-in-Some-clause-same : goal.returns-in-Some-clause-same
returns-in-Some-clause-same c =
    let bs = c.args.batches.now in
    let lt : c.loop-place.place < length bs.items = omega (arith, c.loop-place-test.true, c.len.ensures, bs.ok.0) in
    let next = subst (λ o. IsNextSet o.items c.loop-place.row c.in-Some.found) c.occupancy.ensures c.in-Some.ensures.found in
    sym (ahead_skip bs.items c.loop-place.place c.loop-place.row c.index.result.now lt c.index.ensures c.in-Some.found next) ∙ c.loop-place.invariant

pub loop-place-preserved : goal.loop-place-preserved
loop-place-preserved c =
    let bs = c.args.batches.now in
    let lt : c.loop-place.place < length bs.items = omega (arith, c.loop-place-test.true, c.len.ensures, bs.ok.0) in
    let none = subst (λ o. IsNoneSet o.items c.loop-place.row) c.occupancy.ensures c.in-None.ensures.none in
    sym (ahead-none bs.items c.loop-place.place c.loop-place.row c.index.result.now lt c.index.ensures none) ∙ c.loop-place.invariant

pub returns-clause-at : goal.returns-clause-at
returns-clause-at c =
    let bs = c.args.batches.now in
    at_end bs.items c.loop-place.place c.loop-place.row (omega (arith, c.loop-place-test.false, c.len.ensures, bs.ok.0))
