use Rattle.std.proofs.Common.{◌≡◌, ◌∙◌, ◌++◌, [], map, refl, ap, sym, subst}
use Rattle.std.proofs.lemmas.List.Elements.{All-nil, All-append}
use Rattle.tw_rows.specs.Cells.{ArePlaced}
use Rattle.tw_rows.specs.Kinds.{cell_kind_of}
use Rattle.batch.specs.Rows.{edges_of}
use Rattle.edge_history.specs.Order.{KeepsOrder, is_from, failing}
use Rattle.edge_history.proofs.Keeping.{KeepsOrder-front}
use Rattle.edge_history.proofs.Sums.{failing-parts}
use Rattle.edge_stream.specs.Listing.{cells_of}
use Rattle.plan_model.specs.IsPlan.{node_kinds}
use Rattle.plan_laws.specs.Places.{EdgesArePlaced}
use Rattle.where_select.specs.Made.{IsMade}
use Rattle.where_select.specs.Stages.{ArePlain}
use Rattle.where_select.proofs.MadeEdges.{first_made, made_more, made_in_order, made_later}
use Rattle.where_select.proofs.Batches.{stage_same, places_front, places_back, all_taken_in}
use Rattle.where_select.proofs.row_stage.RowStage.step.Goals as goal

pub loop-batch-init : goal.loop-batch-init
loop-batch-init c = record {
  done = [];
  parts = refl;
  same = refl;
  made = λ n is. subst (IsMade c.args.texts.now n []) (sym c.in_ok-made.ensures.edges) (first_made c.args.texts.now c.args.left.capacity (cells_of c.args.left) n c.args.self.now is);
  kinds = λ n is. c.in_ok-made.ensures.kinds n c.args.texts.now is;
  plain = c.in_ok-made.ensures.plain;
  made_placed = subst (EdgesArePlaced c.args.texts.now) (sym c.in_ok-made.ensures.edges) (All-nil _);
  left_placed = c.requires.placed;
  left_kinds = refl;
  left_capacity = refl;
  made_capacity = c.in_ok-made.ensures.capacity;
  pools = refl;
  limit = refl;
}

pub apply-requires-clause-placed : goal.apply-requires-clause-placed
apply-requires-clause-placed c = places_front c.args.texts.now c.loop-batch.left.edges (edges_of c.in-Some.batch.rows) c.take_batch.new.self.edges c.in-Some.ensures.edges c.loop-batch.invariant.left_placed

pub put_last-requires-clause-kinds : goal.put_last-requires-clause-kinds
put_last-requires-clause-kinds c =
    let before = c.loop-batch.invariant in
    let left = c.args.left in
    let n = c.requires.stage.0 in
    let is = c.requires.stage.1 in
    let kinds = c.in-Some.ensures.kinds ∙ ap (map cell_kind_of) before.left_kinds in
    let now = stage_same c.args.texts.now left.capacity c.in-Some.batch.capacity (cells_of left) c.in-Some.batch.kinds n c.args.self.now c.loop-batch.self (sym (c.in-Some.ensures.capacity ∙ before.left_capacity)) (sym kinds) (sym before.same) is in
    c.in_ok-next.ensures.kinds n now ∙ ap (λ ks. node_kinds n ks []) kinds ∙ sym (before.kinds n is)

pub put_last-requires-clause-order : goal.put_last-requires-clause-order
put_last-requires-clause-order c =
    let before = c.loop-batch.invariant in
    let texts = c.args.texts.now in
    let left = c.args.left in
    let batch = c.in-Some.batch in
    let rest = c.take_batch.new.self.edges in
    let now = edges_of batch.rows in
    let new = edges_of c.in_ok-next.next.rows in
    let n = c.requires.stage.0 in
    let is = c.requires.stage.1 in
    let here = stage_same texts left.capacity batch.capacity (cells_of left) batch.kinds n c.args.self.now c.loop-batch.self (sym (c.in-Some.ensures.capacity ∙ before.left_capacity)) (sym (c.in-Some.ensures.kinds ∙ ap (map cell_kind_of) before.left_kinds)) (sym before.same) is in
    let made = made_more texts left.capacity (cells_of left) n c.args.self.now is before.done c.loop-batch.made.edges now new (before.made n is) (c.in_ok-next.ensures.made n here) in
    let parts : left.edges ≡ (before.done ++ now) ++ rest = all_taken_in before.done c.loop-batch.left.edges now rest left.edges before.parts c.in-Some.ensures.edges in
    made_in_order texts left.capacity (cells_of left) n c.args.self.now is (before.done ++ now) (c.loop-batch.made.edges ++ new) made
    (KeepsOrder-front (before.done ++ now) rest (subst KeepsOrder parts c.cursor.ensures.order))

pub loop-batch-preserved : goal.loop-batch-preserved
loop-batch-preserved c =
    let before = c.loop-batch.invariant in
    let texts = c.args.texts.now in
    let left = c.args.left in
    let batch = c.in-Some.batch in
    let rest = c.take_batch.new.self.edges in
    let now = edges_of batch.rows in
    let new = edges_of c.in_ok-next.next.rows in
    record {
      done = before.done ++ now;
      parts = sym (all_taken_in before.done c.loop-batch.left.edges now rest left.edges before.parts c.in-Some.ensures.edges);
      same = c.apply.ensures.same ∙ before.same;
      made = λ n is.
          let here = stage_same texts left.capacity batch.capacity (cells_of left) batch.kinds n c.args.self.now c.loop-batch.self (sym (c.in-Some.ensures.capacity ∙ before.left_capacity)) (sym (c.in-Some.ensures.kinds ∙ ap (map cell_kind_of) before.left_kinds)) (sym before.same) is in
          subst (IsMade texts n (before.done ++ now)) (sym c.in_ok-put_last.ensures.edges)
          (made_more texts left.capacity (cells_of left) n c.args.self.now is before.done c.loop-batch.made.edges now new (before.made n is) (c.in_ok-next.ensures.made n here));
      kinds = λ n is. ap (map cell_kind_of) c.put_last.ensures.shape.kinds ∙ before.kinds n is;
      plain = λ plain. subst ArePlain (sym c.put_last.ensures.shape.kinds) (before.plain plain);
      made_placed = subst (EdgesArePlaced texts) (sym c.in_ok-put_last.ensures.edges) (All-append (λ e. ArePlaced texts e.cells) c.loop-batch.made.edges new before.made_placed c.in_ok-next.ensures.placed);
      left_placed = places_back texts c.loop-batch.left.edges now rest c.in-Some.ensures.edges before.left_placed;
      left_kinds = c.take_batch.ensures.shape.kinds ∙ before.left_kinds;
      left_capacity = c.take_batch.ensures.shape.capacity ∙ before.left_capacity;
      made_capacity = c.put_last.ensures.shape.capacity ∙ before.made_capacity;
      pools = c.apply.ensures.pools ∙ before.pools;
      limit = c.apply.ensures.limit ∙ before.limit;
    }

pub returns-clause-later : goal.returns-clause-later
returns-clause-later c = λ x from.
    let inv = c.loop-batch.invariant in
    let n = c.requires.stage.0 in
    let is = c.requires.stage.1 in
    made_later c.args.texts.now c.args.left.capacity (cells_of c.args.left) n c.args.self.now is inv.done c.loop-batch.made.edges (inv.made n is) x
    (failing-parts (is_from x) inv.done c.loop-batch.left.edges (subst (λ es. failing (is_from x) es ≡ 0) (sym inv.parts) from)).0
