use Rattle.std.proofs.Common.{◌∙◌, ◌++◌, ap}
use Rattle.edge_stream.specs.Listing.{cells_of}
use Rattle.edge_stream.proofs.Filling.{appended-kinds, appended-capacity, room_taken-capacity}
use Rattle.edge_stream.proofs.Pools.{part-capacity, part-limit, room_taken-limit}
use Rattle.lifetime_ops.specs.Waiting.{edges_of_pending}
use Rattle.lifetime_ops.proofs.Waiting.{ends_in_order, next_in_order, taken_next, taken_low, rest_waits}
use Rattle.lifetime_ops.proofs.extend.take_due.Goals as goal

pub append-requires-clause-order : goal.append-requires-clause-order
append-requires-clause-order c =
    let l = c.loop-edge.due in
    let t = c.in-Some.ensures.some in
    next_in_order l.edges t.0 c.pop_due.new.self c.args.ends.now c.in-Some.edge t.1 (c.loop-edge.invariant.edges ∙ ap (λ ps. l.edges ++ edges_of_pending ps) t.3)
    (ends_in_order (cells_of c.args.like.now) c.args.ends.now c.len.ensures.order c.requires.waiting)

pub returns-in_err-append-clause-waiting : goal.returns-in_err-append-clause-waiting
returns-in_err-append-clause-waiting c =
    let t = c.in-Some.ensures.some in
    rest_waits (cells_of c.args.like.now) t.0 c.loop-edge.ends c.pop_due.new.self t.3 c.loop-edge.invariant.waiting

pub returns-in_err-append-clause-pools : goal.returns-in_err-append-clause-pools
returns-in_err-append-clause-pools c =
    part-capacity c.loop-edge.pools c.append.new.pools (cells_of c.loop-edge.due) c.in_err-append.ensures.err_pools ∙ c.loop-edge.invariant.room

pub returns-in_err-append-clause-limit : goal.returns-in_err-append-clause-limit
returns-in_err-append-clause-limit c =
    part-limit c.loop-edge.pools c.append.new.pools (cells_of c.loop-edge.due) c.in_err-append.ensures.err_pools ∙ c.loop-edge.invariant.limit

pub loop-edge-preserved : goal.loop-edge-preserved
loop-edge-preserved c =
    let l = c.loop-edge.due in
    let i = c.loop-edge.invariant in
    let t = c.in-Some.ensures.some in
    let ok = c.in_ok-append.ensures.ok in
    let pools = c.in_ok-append.ensures.pools in
    record {
      edges = taken_next l.edges c.append.new.self.edges t.0 c.loop-edge.ends c.pop_due.new.self c.args.ends.now c.in-Some.edge t.1 t.3 i.edges (ap (λ v. v.edges) ok);
      low = taken_low (cells_of c.args.like.now) c.args.below l.edges c.append.new.self.edges t.0 c.loop-edge.ends c.pop_due.new.self c.in-Some.edge t.1 t.2 t.3 i.waiting i.low (ap (λ v. v.edges) ok);
      waiting = rest_waits (cells_of c.args.like.now) t.0 c.loop-edge.ends c.pop_due.new.self t.3 i.waiting;
      kinds = ap (λ v. v.kinds) ok ∙ appended-kinds l c.in-Some.edge ∙ i.kinds;
      capacity = ap (λ v. v.capacity) ok ∙ appended-capacity l c.in-Some.edge ∙ i.capacity;
      room = ap (λ s. s.capacity) pools ∙ room_taken-capacity l c.loop-edge.pools ∙ i.room;
      limit = ap (λ s. s.limit) pools ∙ room_taken-limit l c.loop-edge.pools ∙ i.limit;
    }
