use Rattle.std.proofs.Common.{◌≡◌, ◌++◌, ◌∙◌, map, sym, ap, subst, refl}
use Rattle.std.specs.Prelude.{IfSome}
use Rattle.tw_rows.specs.Cells.{datum_kind}
use Rattle.tw_rows.specs.Kinds.{cell_kind_of}
use Rattle.tw_rows.specs.declared.edge.Edge.{Edge}
use Rattle.edge_stream.specs.Listing.{cells_of}
use Rattle.edge_stream.proofs.Filling.{appended-kinds, appended-capacity, room_taken-capacity, batches_given-capacity}
use Rattle.edge_stream.proofs.Pools.{part-capacity, part-limit, room_taken-limit, batches_given-limit}
use Rattle.plan_laws.specs.Answers.{answered}
use Rattle.plan_laws.specs.Keeping.{plain_cells}
use Rattle.plan_model.specs.Means.{mean_row}
use Rattle.lifetime_ops.specs.declared.change.Change.TheVariants.{Mean}
use Rattle.lifetime_ops.specs.Nodes.{node_of}
use Rattle.lifetime_ops.proofs.Waiting.{next_is}
use Rattle.lifetime_ops.proofs.Means.{means_next, means_order, kinds_of_mean, fewer_kinds}
use Rattle.lifetime_ops.proofs.mean.means_of.Goals as goal

pub append-requires-clause-kinds : goal.append-requires-clause-kinds
append-requires-clause-kinds c =
    let cells = subst (λ o. IfSome o (λ x. map datum_kind x.cells ≡ c.loop-answer.cursor.kinds)) c.in-Some.is c.in_ok-edge.ensures.cells in
    ap (map datum_kind) (c.in_ok-mean_row.ensures ∙ ap (mean_row plain_cells c.args.at.now) c.items.ensures)
    ∙ kinds_of_mean c.args.at.now c.in-Some.edge.cells (cells_of c.args.due) (cells ∙ c.loop-answer.invariant.cells) c.requires.ints ∙ sym c.loop-answer.invariant.kinds

pub append-requires-clause-order : goal.append-requires-clause-order
append-requires-clause-order c =
    let e = c.in-Some.edge in
    let new : Edge = record { sync = e.sync; other = e.other; cells = c.in_ok-mean_row.field-0 } in
    let next = next_is c.in_ok-edge.field-0 c.loop-answer.cursor.edges c.next.new.self.edges e c.in_ok-edge.ensures.edges c.in-Some.is in
    means_order c.args.at.now e new c.loop-answer.answer.edges c.loop-answer.cursor.edges c.next.new.self.edges c.args.due.edges next
    (ap (λ cells. record { sync = e.sync; other = e.other; cells = cells }) (c.in_ok-mean_row.ensures ∙ ap (mean_row plain_cells c.args.at.now) c.items.ensures)) c.loop-answer.invariant.edges c.cursor-cursor.ensures.order

pub loop-answer-init : goal.loop-answer-init
loop-answer-init c =
    let is = c.in_ok-answer.ensures in
    let at_start = c.cursor-cursor.ensures.cursor in
    record {
      edges = ap (λ v. v.edges ++ answered (node_of (Mean c.args.at.now)) c.cursor-cursor.result.edges) is ∙ ap (λ u. answered (node_of (Mean c.args.at.now)) u.edges) at_start;
      cells = ap (λ u. u.kinds) at_start;
      kinds = fewer_kinds c.args.due.kinds c.kinds-kinds.result.now c.in_ok-answer.answer.kinds c.saturating_sub.result c.args.at.now
          c.kinds-kinds.ensures.kinds c.saturating_sub.ensures (ap (λ v. v.kinds) is);
      capacity = ap (λ v. v.capacity) is ∙ c.capacity.ensures.capacity;
      room = refl;
      limit = refl;
    }

pub loop-answer-preserved : goal.loop-answer-preserved
loop-answer-preserved c =
    let l = c.loop-answer.answer in
    let i = c.loop-answer.invariant in
    let e = c.in-Some.edge in
    let new : Edge = record { sync = e.sync; other = e.other; cells = c.in_ok-mean_row.field-0 } in
    let next = next_is c.in_ok-edge.field-0 c.loop-answer.cursor.edges c.next.new.self.edges e c.in_ok-edge.ensures.edges c.in-Some.is in
    let ok = c.in_ok-append.ensures.ok in
    let pools = c.in_ok-append.ensures.pools in
    record {
      edges = ap (λ v. v.edges ++ answered (node_of (Mean c.args.at.now)) c.next.new.self.edges) ok
          ∙ means_next c.args.at.now e new l.edges c.loop-answer.cursor.edges c.next.new.self.edges (answered (node_of (Mean c.args.at.now)) c.args.due.edges) next
          (ap (λ cells. record { sync = e.sync; other = e.other; cells = cells }) (c.in_ok-mean_row.ensures ∙ ap (mean_row plain_cells c.args.at.now) c.items.ensures)) i.edges;
      cells = c.next.ensures.kinds ∙ i.cells;
      kinds = ap cells_of ok ∙ ap (map cell_kind_of) (appended-kinds l new) ∙ i.kinds;
      capacity = ap (λ v. v.capacity) ok ∙ appended-capacity l new ∙ i.capacity;
      room = ap (λ s. s.capacity) pools ∙ room_taken-capacity l c.loop-answer.pools ∙ i.room;
      limit = ap (λ s. s.limit) pools ∙ room_taken-limit l c.loop-answer.pools ∙ i.limit;
    }

pub returns-in_err-append-clause-pools : goal.returns-in_err-append-clause-pools
returns-in_err-append-clause-pools c =
    part-capacity c.loop-answer.pools c.append.new.pools (cells_of c.loop-answer.answer) c.in_err-append.ensures.err_pools ∙ c.loop-answer.invariant.room

pub returns-in_err-append-clause-limit : goal.returns-in_err-append-clause-limit
returns-in_err-append-clause-limit c =
    part-limit c.loop-answer.pools c.append.new.pools (cells_of c.loop-answer.answer) c.in_err-append.ensures.err_pools ∙ c.loop-answer.invariant.limit

pub returns-clause-pools : goal.returns-clause-pools
returns-clause-pools c = ap (λ s. s.capacity) c.give_back.ensures ∙ batches_given-capacity c.args.due.batches c.loop-answer.pools (cells_of c.args.due) ∙ c.loop-answer.invariant.room

pub returns-clause-limit : goal.returns-clause-limit
returns-clause-limit c = ap (λ s. s.limit) c.give_back.ensures ∙ batches_given-limit c.args.due.batches c.loop-answer.pools (cells_of c.args.due) ∙ c.loop-answer.invariant.limit
