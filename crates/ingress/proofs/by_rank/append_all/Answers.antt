use Rattle.std.proofs.Common.{◌∙◌, ap, sym, map}
use Rattle.tw_rows.specs.Kinds.{cell_kind_of}
use Rattle.edge_stream.proofs.Filling.{taken_next}
use Rattle.ingress.proofs.Fitting.{fit_kinds, next_keeps, next_edges, pools_next, pools_part, shape_next}
use Rattle.ingress.proofs.by_rank.append_all.Goals as goal

pub append-requires-clause-capacity : goal.append-requires-clause-capacity
append-requires-clause-capacity c = c.loop-edge.invariant.pools.capacity ∙ c.requires.capacity ∙ sym c.loop-edge.invariant.shape.capacity

pub append-requires-clause-kinds : goal.append-requires-clause-kinds
append-requires-clause-kinds c =
    fit_kinds _ c.args.edges.now c.loop-edge.edge-index _ c.edge-item.result c.edge-item.is c.loop-edge-test.true c.requires.fit
    ∙ sym (ap (map cell_kind_of) c.loop-edge.invariant.shape.kinds)

pub append-requires-clause-order : goal.append-requires-clause-order
append-requires-clause-order c =
    next_keeps c.args.list.now.edges c.loop-edge.list.edges c.args.edges.now c.loop-edge.edge-index _ c.edge-item.result c.edge-item.is c.loop-edge-test.true c.loop-edge.invariant.edges c.requires.order

pub loop-edge-preserved : goal.loop-edge-preserved
loop-edge-preserved c = record {
  edges = next_edges c.args.list.now.edges c.loop-edge.list.edges c.append.new.self.edges c.args.edges.now c.loop-edge.edge-index _ c.edge-item.result c.edge-item.is c.loop-edge-test.true
      c.loop-edge.invariant.edges (ap (λ v. v.edges) c.in_ok-append.ensures.ok);
  shape = shape_next c.args.list.now c.loop-edge.list c.append.new.self c.edge-item.result c.loop-edge.invariant.shape c.in_ok-append.ensures.ok;
  taken = λ first kinds same h.
      taken_next c.loop-edge.list c.append.new.self c.edge-item.result first c.loop-edge.pools c.append.new.pools kinds
      (ap (map cell_kind_of) c.loop-edge.invariant.shape.kinds ∙ same) c.in_ok-append.ensures.ok (c.loop-edge.invariant.taken first kinds same h) c.in_ok-append.ensures.pools;
  pools = pools_next c.args.pools.now c.loop-edge.pools c.append.new.pools c.loop-edge.list c.loop-edge.invariant.pools c.in_ok-append.ensures.pools;
}

pub returns-in_err-append-clause-pools : goal.returns-in_err-append-clause-pools
returns-in_err-append-clause-pools c = pools_part c.args.pools.now c.loop-edge.pools c.append.new.pools _ c.loop-edge.invariant.pools c.in_err-append.ensures.err_pools
