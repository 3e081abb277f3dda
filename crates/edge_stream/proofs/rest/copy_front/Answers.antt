use Rattle.std.proofs.Common.{◌∙◌, ◌++◌, ◌<◌, length, map, sym, ap, arith}
use Rattle.std.specs.List.{list_all}
use Rattle.std.proofs.lemmas.List.{take_all}
use Rattle.tw_rows.specs.Kinds.{cell_kind_of}
use Rattle.edge_history.specs.Order.{is_below}
use Rattle.edge_history.proofs.Keeping.{KeepsOrder-back}
use Rattle.edge_stream.specs.Listing.{cells_of, edges_in}
use Rattle.edge_stream.proofs.Parts.{filter-all}
use Rattle.edge_stream.proofs.Filling.{batches_taken-capacity, taken_after}
use Rattle.edge_stream.proofs.Fronts.{some_high}
use Rattle.edge_stream.proofs.Passing.{rises_in, later_in}
use Rattle.edge_stream.proofs.Gone.{low_parts, parts_are_low, parts_all, order_parts, copied_parts}
use Rattle.edge_stream.proofs.rest.copy_front.Goals as goal

pub append_first-requires-clause-pools : goal.append_first-requires-clause-pools
append_first-requires-clause-pools c =
    let inv = c.loop-place.invariant in
    ap (λ s. s.capacity) inv.pools ∙ batches_taken-capacity _ c.args.pools.now (cells_of c.args.to.now) ∙ c.requires.pools ∙ sym inv.capacity

pub append_first-requires-clause-order : goal.append_first-requires-clause-order
append_first-requires-clause-order c =
    let bs = c.args.batches.now in
    let n = c.loop-place.place in
    let b = c.index-batch.result.now in
    let out = c.args.to.now.edges in
    let inv = c.loop-place.invariant in
    let lt : n < length bs.items = omega (arith, c.loop-place-test.true, c.len-place-end.ensures, bs.ok.0) in
    let rises = rises_in bs.items n b lt c.index-batch.ensures (KeepsOrder-back out (edges_in bs.items) c.requires.order).rises in
    order_parts c.args.t c.row_from-rows.result bs.items n b lt c.index-batch.ensures inv.below (c.row_from-rows.ensures.below rises) out c.loop-place.to.edges inv.edges c.requires.order

pub returns-then-has_rest-clause-ok : goal.returns-then-has_rest-clause-ok
returns-then-has_rest-clause-ok c =
    let bs = c.args.batches.now in
    let n = c.loop-place.place in
    let b = c.index-batch.result.now in
    let out = c.args.to.now.edges in
    let inv = c.loop-place.invariant in
    let k = c.row_from-rows.result in
    let lt : n < length bs.items = omega (arith, c.loop-place-test.true, c.len-place-end.ensures, bs.ok.0) in
    let whole = (KeepsOrder-back out (edges_in bs.items) c.requires.order).rises in
    let rises = rises_in bs.items n b lt c.index-batch.ensures whole in
    let low = c.row_from-rows.ensures.below rises in
    let high = c.row_from-rows.ensures.from rises in
    let later = later_in bs.items n b lt c.index-batch.ensures whole c.args.t (some_high c.args.t k b.rows high (c.has_rest.ensures.some c.if-has_rest.true)) in
    copied_parts c.args.t k bs.items n b lt c.index-batch.ensures inv.below low out c.loop-place.to.edges inv.edges c.append_first.new.self.edges c.in_ok-append_first.ensures.ok
    ∙ ap (λ l. out ++ l) (parts_are_low c.args.t k bs.items n b lt c.index-batch.ensures inv.below low high later)

pub returns-then-has_rest-clause-pools : goal.returns-then-has_rest-clause-pools
returns-then-has_rest-clause-pools c =
    let inv = c.loop-place.invariant in
    taken_after c.args.to.now.batches c.loop-place.to.batches c.append_first.new.self.batches c.args.pools.now c.loop-place.pools c.append_first.new.pools (cells_of c.args.to.now) (cells_of c.loop-place.to)
    inv.batches c.in_ok-append_first.ensures.grown.batches (ap (map cell_kind_of) inv.kinds) inv.pools c.in_ok-append_first.ensures.grown.pools

pub loop-place-preserved : goal.loop-place-preserved
loop-place-preserved c =
    let bs = c.args.batches.now in
    let n = c.loop-place.place in
    let b = c.index-batch.result.now in
    let out = c.args.to.now.edges in
    let inv = c.loop-place.invariant in
    let k = c.row_from-rows.result in
    let lt : n < length bs.items = omega (arith, c.loop-place-test.true, c.len-place-end.ensures, bs.ok.0) in
    let rises = rises_in bs.items n b lt c.index-batch.ensures (KeepsOrder-back out (edges_in bs.items) c.requires.order).rises in
    let low = c.row_from-rows.ensures.below rises in
    let all = parts_all c.args.t k bs.items n b lt c.index-batch.ensures inv.below low (c.has_rest.ensures.none c.if-has_rest.false) in
    record {
      edges = copied_parts c.args.t k bs.items n b lt c.index-batch.ensures inv.below low out c.loop-place.to.edges inv.edges c.append_first.new.self.edges c.in_ok-append_first.ensures.ok ∙ ap (λ l. out ++ l) all;
      below = ap (list_all (is_below c.args.t)) (sym all) ∙ low_parts c.args.t k bs.items n b lt c.index-batch.ensures inv.below low;
      kinds = c.in_ok-append_first.ensures.grown.shape.kinds ∙ inv.kinds;
      capacity = c.in_ok-append_first.ensures.grown.shape.capacity ∙ inv.capacity;
      batches = omega (arith, inv.batches, c.in_ok-append_first.ensures.grown.batches);
      pools = taken_after c.args.to.now.batches c.loop-place.to.batches c.append_first.new.self.batches c.args.pools.now c.loop-place.pools c.append_first.new.pools (cells_of c.args.to.now) (cells_of c.loop-place.to)
          inv.batches c.in_ok-append_first.ensures.grown.batches (ap (map cell_kind_of) inv.kinds) inv.pools c.in_ok-append_first.ensures.grown.pools;
    }

pub returns-clause-ok : goal.returns-clause-ok
returns-clause-ok c =
    let bs = c.args.batches.now in
    let inv = c.loop-place.invariant in
    let all = take_all c.loop-place.place bs.items (omega (arith, c.loop-place-test.false, c.len-place-end.ensures, bs.ok.0)) in
    inv.edges ∙ ap (λ l. c.args.to.now.edges ++ l) (ap edges_in all ∙ sym (filter-all (is_below c.args.t) (edges_in bs.items) (ap (λ xs. list_all (is_below c.args.t) (edges_in xs)) (sym all) ∙ inv.below)))
