use Rattle.std.proofs.Common.{◌≡◌, ◌+◌, ◌++◌, ◌∙◌, map, ap, subst}
use Rattle.std.specs.Prelude.{IfSome}
use Rattle.tw_rows.specs.Bag.{total}
use Rattle.tw_rows.specs.Cells.{datum_kind}
use Rattle.tw_rows.specs.Kinds.{cell_kind_of}
use Rattle.tw_rows.specs.declared.edge.Edge.{Edge}
use Rattle.edge_stream.specs.Listing.{cells_of}
use Rattle.edge_stream.proofs.Filling.{appended-kinds, appended-capacity, room_taken-capacity}
use Rattle.edge_stream.proofs.Pools.{part-capacity, part-limit, room_taken-limit}
use Rattle.plan_laws.specs.Extending.{extended_starts, extended_ends}
use Rattle.lifetime_ops.specs.Waiting.{edges_of_pending}
use Rattle.lifetime_ops.proofs.Waiting.{end_true, end_false, next_is, rest_in_order, start_passed, start_next, start_in_order, ends_next, ends_skip}
use Rattle.lifetime_ops.proofs.extend.part_due.Goals as goal

pub loop-edge-preserved-in-Continue-branch-3 : goal.loop-edge-preserved-in-Continue-branch-3
loop-edge-preserved-in-Continue-branch-3 c =
    let i = c.loop-edge.invariant in
    let e = c.in-Some.edge in
    let next = next_is c.in_ok-edge.field-0 c.loop-edge.cursor.edges c.next.new.self.edges e c.in_ok-edge.ensures.edges c.in-Some.is in
    let cells = subst (λ o. IfSome o (λ x. map datum_kind x.cells ≡ c.loop-edge.cursor.kinds)) c.in-Some.is c.in_ok-edge.ensures.cells in
    record {
      starts = start_passed c.args.by e c.loop-edge.starts.edges c.loop-edge.cursor.edges c.next.new.self.edges (extended_starts c.args.by c.args.due.now.edges) next (end_true e (c.is_end.ensures.0 c.if-is_end.true)) i.starts;
      ends = ends_next c.args.by e c.loop-edge.cursor.edges c.next.new.self.edges c.args.ends.now c.loop-edge.ends c.put_end.new.ends (λ w. total w (edges_of_pending c.args.ends.now) + total w (extended_ends c.args.by c.args.due.now.edges)) next c.in_ok-put_end.ensures.ends i.ends;
      waiting = c.put_end.ensures.waiting (cells_of c.args.due.now) (cells ∙ i.cells) i.waiting;
      order = rest_in_order e c.loop-edge.cursor.edges c.next.new.self.edges next i.order;
      cells = c.next.ensures.kinds ∙ i.cells;
      kinds = i.kinds;
      capacity = i.capacity;
      room = i.room;
      limit = i.limit;
    }

pub append-requires-clause-order : goal.append-requires-clause-order
append-requires-clause-order c =
    let e = c.in-Some.edge in
    let next = next_is c.in_ok-edge.field-0 c.loop-edge.cursor.edges c.next.new.self.edges e c.in_ok-edge.ensures.edges c.in-Some.is in
    start_in_order c.args.by c.plus.result e c.loop-edge.starts.edges c.loop-edge.cursor.edges c.next.new.self.edges c.args.due.now.edges c.plus.ensures next (end_false e c.is_end.result c.if-is_end.false c.is_end.ensures.1) c.loop-edge.invariant.starts c.cursor-cursor.ensures.order

pub returns-in_err-append-clause-pools : goal.returns-in_err-append-clause-pools
returns-in_err-append-clause-pools c =
    part-capacity c.loop-edge.pools c.append.new.pools (cells_of c.loop-edge.starts) c.in_err-append.ensures.err_pools ∙ c.loop-edge.invariant.room

pub returns-in_err-append-clause-limit : goal.returns-in_err-append-clause-limit
returns-in_err-append-clause-limit c =
    part-limit c.loop-edge.pools c.append.new.pools (cells_of c.loop-edge.starts) c.in_err-append.ensures.err_pools ∙ c.loop-edge.invariant.limit

pub loop-edge-preserved : goal.loop-edge-preserved
loop-edge-preserved c =
    let l = c.loop-edge.starts in
    let i = c.loop-edge.invariant in
    let e = c.in-Some.edge in
    let next = next_is c.in_ok-edge.field-0 c.loop-edge.cursor.edges c.next.new.self.edges e c.in_ok-edge.ensures.edges c.in-Some.is in
    let start = end_false e c.is_end.result c.if-is_end.false c.is_end.ensures.1 in
    let ok = c.in_ok-append.ensures.ok in
    let pools = c.in_ok-append.ensures.pools in
    let new : Edge = record { sync = e.sync; other = c.plus.result; cells = e.cells } in
    record {
      starts = ap (λ v. v.edges ++ extended_starts c.args.by c.next.new.self.edges) ok ∙ start_next c.args.by c.plus.result e l.edges c.loop-edge.cursor.edges c.next.new.self.edges (extended_starts c.args.by c.args.due.now.edges) c.plus.ensures next start i.starts;
      ends = ends_skip c.args.by e c.loop-edge.cursor.edges c.next.new.self.edges c.loop-edge.ends (λ w. total w (edges_of_pending c.args.ends.now) + total w (extended_ends c.args.by c.args.due.now.edges)) next start i.ends;
      waiting = i.waiting;
      order = rest_in_order e c.loop-edge.cursor.edges c.next.new.self.edges next i.order;
      cells = c.next.ensures.kinds ∙ i.cells;
      kinds = ap cells_of ok ∙ ap (map cell_kind_of) (appended-kinds l new) ∙ i.kinds;
      capacity = ap (λ v. v.capacity) ok ∙ appended-capacity l new ∙ i.capacity;
      room = ap (λ s. s.capacity) pools ∙ room_taken-capacity l c.loop-edge.pools ∙ i.room;
      limit = ap (λ s. s.limit) pools ∙ room_taken-limit l c.loop-edge.pools ∙ i.limit;
    }
